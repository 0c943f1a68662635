use Rattle.std.proofs.Common.{◌≡◌, drop, refl, ap, Ok, Err}
use Rattle.jl_lex.proofs.Loops.{name_bad, name_good, name_long}
use Rattle.jl_lex.proofs.names.name_token.Goals as goal

pub returns-then-is_at : goal.returns-then-is_at
returns-then-is_at c = name_bad c.args.text.now c.args.escaped (drop c.args.end c.args.units.now) c.if-is_at.ensures

pub returns-in-Ok : goal.returns-in-Ok
returns-in-Ok c = (
  name_good c.args.text.now c.in-Ok.text c.args.escaped (drop c.args.end c.args.units.now)
      c.if-is_at.ensures c.in-Ok.ensures.made (λ h. let e = c.in-Ok.ensures.long.1 h in apart e),
  refl,
) where
  apart : {A E : Type 0} {a : A} {e : E} → Ok a ≡ Err e → ⊥
  apart e = cc

pub returns-in-Err-TooLong : goal.returns-in-Err-TooLong
returns-in-Err-TooLong c =
    name_long c.args.text.now c.args.escaped (drop c.args.end c.args.units.now) c.if-is_at.ensures
    (c.in-Err-TooLong.ensures.long.0 (ap Err c.in-Err-TooLong.field-0-is))
