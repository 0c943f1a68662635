use Rattle.std.proofs.Common.{◌+◌, drop, arith}
use Rattle.jl_lex.proofs.StringLoops.{character_end, character_mark, character_line, character_escape, character_plain}
use Rattle.jl_lex.proofs.StringLoops.{character_from}
use Rattle.jl_lex.proofs.strings.character_at.Goals as goal

pub returns-in_default : goal.returns-in_default
returns-in_default c = character_end c.args.mark (drop c.args.at c.args.units.now) c.in_default.ensures

pub returns-then-unit-mark : goal.returns-then-unit-mark
returns-then-unit-mark c =
    character_mark c.args.mark (drop c.args.at c.args.units.now) (drop (c.args.at + 1) c.args.units.now) c.in-Some.unit
    c.in-Some.ensures.0 c.if-unit-mark.true

pub returns-then-is_line_terminator : goal.returns-then-is_line_terminator
returns-then-is_line_terminator c =
    character_line c.args.mark (drop c.args.at c.args.units.now) (drop (c.args.at + 1) c.args.units.now) c.in-Some.unit
    c.in-Some.ensures.0 c.if-unit-mark.false c.if-is_line_terminator.ensures

pub returns-then-unit-eq-BACKSLASH : goal.returns-then-unit-eq-BACKSLASH
returns-then-unit-eq-BACKSLASH c =
    character_from c.args.units.now (c.args.at + 1) (c.args.at + 1 + 1) c.escape_at.result _ _
    (character_escape c.args.mark (drop c.args.at c.args.units.now) (drop (c.args.at + 1) c.args.units.now)
    c.in-Some.unit c.in-Some.ensures.0 c.if-unit-mark.false c.if-is_line_terminator.ensures c.if-unit-eq-BACKSLASH.true)
    (omega arith) c.escape_at.ensures

pub returns : goal.returns
returns c =
    let e = c.in-Some.ensures in (
      character_plain c.args.mark (drop c.args.at c.args.units.now) (drop (c.args.at + 1) c.args.units.now)
          c.in-Some.unit e.0 c.if-unit-mark.false c.if-is_line_terminator.ensures c.if-unit-eq-BACKSLASH.false,
      omega arith,
      omega (arith, e.1),
    )
