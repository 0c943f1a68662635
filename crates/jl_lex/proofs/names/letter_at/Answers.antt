use Rattle.std.proofs.Common.{drop, ◌+◌, sym, arith}
use Rattle.jl_lex.specs.inner.Parts.{is_name_character}
use Rattle.jl_lex.proofs.Loops.{letter_none, letter_itself, letter_other, letter_escaped, letter_from}
use Rattle.jl_lex.proofs.names.letter_at.Goals as goal

pub returns-in_default : goal.returns-in_default
returns-in_default c = letter_none (is_name_character c.args.part) (drop c.args.at c.args.units.now)
    c.in_default.ensures

pub returns-then-is_allowed : goal.returns-then-is_allowed
returns-then-is_allowed c =
    let e = c.in-Some.ensures in (
      letter_itself (is_name_character c.args.part) (drop c.args.at c.args.units.now)
          (drop (c.args.at + 1) c.args.units.now) c.in-Some.unit e.0 (sym c.if-is_allowed.ensures),
      omega arith,
      omega (arith, e.1),
    )

pub returns-then-unit-ne-BACKSLASH : goal.returns-then-unit-ne-BACKSLASH
returns-then-unit-ne-BACKSLASH c =
    letter_other (is_name_character c.args.part) (drop c.args.at c.args.units.now)
    (drop (c.args.at + 1) c.args.units.now) c.in-Some.unit c.in-Some.ensures.0 (sym c.if-is_allowed.ensures)
    c.if-unit-ne-BACKSLASH.true

pub returns : goal.returns
returns c =
    letter_from c.args.units.now c.args.at _ _ _
    (letter_escaped (is_name_character c.args.part) (drop c.args.at c.args.units.now)
    (drop (c.args.at + 1) c.args.units.now) c.in-Some.unit c.in-Some.ensures.0 (sym c.if-is_allowed.ensures)
    c.if-unit-ne-BACKSLASH.false) c.escaped_at.ensures
