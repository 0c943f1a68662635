use Rattle.std.proofs.Common.{sym, ◌∙◌, arith}
use Rattle.jl_lex.specs.inner.Parts.{is_name_character}
use Rattle.jl_lex.proofs.Loops.{escape_not, escape_no_digits, escape_allowed, escape_refused}
use Rattle.jl_lex.proofs.names.escaped_at.Goals as goal

pub returns-then-not-is_at : goal.returns-then-not-is_at
returns-then-not-is_at c =
    escape_not (is_name_character c.args.part) c.args.units.now c.args.at (sym c.if-not-is_at.ensures)

pub returns-in_default : goal.returns-in_default
returns-in_default c = escape_no_digits (is_name_character c.args.part) c.args.units.now c.args.at
    (sym c.four_at.ensures.value ∙ c.in_default.is)

pub returns-then-is_allowed : goal.returns-then-is_allowed
returns-then-is_allowed c =
    let w = c.in-Some.ensures.within in (
      escape_allowed (is_name_character c.args.part) c.args.units.now c.args.at c.in-Some.written
          (sym c.if-not-is_at.ensures) (sym c.in-Some.ensures.value) (sym c.if-is_allowed.ensures),
      omega arith,
      omega (arith, w),
    )

pub returns-else-is_allowed : goal.returns-else-is_allowed
returns-else-is_allowed c =
    escape_refused (is_name_character c.args.part) c.args.units.now c.args.at c.in-Some.written
    (sym c.if-not-is_at.ensures) (sym c.in-Some.ensures.value) (sym c.if-is_allowed.ensures)
