use Rattle.std.proofs.Common.{◌≡◌, ◌+◌, drop, ap, Ok, Err, arith}
use Rattle.jl_lex.proofs.StringLoops.{done_end, done_mark, done_long, done_line, done_escape, done_last}
use Rattle.jl_lex.proofs.strings.close_string.Goals as goal

pub returns-in_default : goal.returns-in_default
returns-in_default c = done_end c.args.mark c.args.text.now c.args.plain (drop c.args.end c.args.units.now)
    c.in_default.ensures

pub returns-in-Ok : goal.returns-in-Ok
returns-in-Ok c =
    let e = c.in-Some.ensures in (
      done_mark c.args.mark c.args.text.now c.in-Ok.text c.args.plain (drop c.args.end c.args.units.now)
          (drop (c.args.end + 1) c.args.units.now) c.in-Some.unit e.0 c.if-unit-mark.true c.in-Ok.ensures.made
          (λ h. apart (c.in-Ok.ensures.long.1 h)),
      omega arith,
      omega (arith, e.1),
    ) where
      apart : {A E : Type 0} {a : A} {e : E} → Ok a ≡ Err e → ⊥
      apart e = cc

pub returns-in-Err-TooLong : goal.returns-in-Err-TooLong
returns-in-Err-TooLong c =
    done_long c.args.mark c.args.text.now c.args.plain (drop c.args.end c.args.units.now)
    (drop (c.args.end + 1) c.args.units.now) c.in-Some.unit c.in-Some.ensures.0 c.if-unit-mark.true
    (c.in-Err-TooLong.ensures.long.0 (ap Err c.in-Err-TooLong.field-0-is))

pub returns-then-is_line_terminator : goal.returns-then-is_line_terminator
returns-then-is_line_terminator c =
    done_line c.args.mark c.args.text.now c.args.plain (drop c.args.end c.args.units.now)
    (drop (c.args.end + 1) c.args.units.now) c.in-Some.unit c.in-Some.ensures.0 c.if-unit-mark.false
    c.if-is_line_terminator.ensures

pub returns-then-end-units : goal.returns-then-end-units
returns-then-end-units c =
    done_escape c.args.mark c.args.text.now c.args.plain c.args.units.now c.args.end c.in-Some.unit c.in-Some.ensures.0
    c.if-unit-mark.false c.if-is_line_terminator.ensures c.if-end-units.true

pub returns : goal.returns
returns c = done_last c.args.mark c.args.text.now c.args.plain c.args.units.now c.args.end c.in-Some.unit
    c.in-Some.ensures.0 c.if-unit-mark.false c.if-is_line_terminator.ensures c.if-end-units.false
