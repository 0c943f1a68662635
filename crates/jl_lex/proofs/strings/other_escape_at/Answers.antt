use Rattle.std.proofs.Common.{◌+◌, drop, sym, ◌∙◌, arith}
use Rattle.jl_lex.proofs.StringLoops.{other_line, other_hex_none, other_hex, other_unicode_none, other_unicode}
use Rattle.jl_lex.proofs.StringLoops.{other_itself, other_digit, other_octal, other_null, escaped_from}
use Rattle.jl_lex.proofs.strings.other_escape_at.Goals as goal

pub returns-then-is_line_terminator : goal.returns-then-is_line_terminator
returns-then-is_line_terminator c =
    let e = c.line_terminator_end-end.ensures in (
      other_line c.args.unit (drop c.args.at c.args.units.now) (drop c.line_terminator_end-end.result c.args.units.now)
          c.if-is_line_terminator.ensures e.rest,
      e.later,
      e.within,
    )

pub returns-in_default : goal.returns-in_default
returns-in_default c = other_hex_none c.args.unit c.args.units.now c.args.at c.if-is_line_terminator.ensures
    c.if-unit-eq120.true (sym c.two_at.ensures.value ∙ c.in_default.is)

pub returns-then-unit-eq120 : goal.returns-then-unit-eq120
returns-then-unit-eq120 c =
    let w = c.in-Some.ensures.within in
    escaped_from c.args.units.now c.args.at c.escaped_character.result _ c.in-Some.written (c.args.at + 2)
    c.escaped_character.ensures (other_hex c.args.unit c.args.units.now c.args.at c.in-Some.written
    c.if-is_line_terminator.ensures c.if-unit-eq120.true (sym c.in-Some.ensures.value)) (omega arith) (omega (arith, w))

pub returns-in_default-four_at : goal.returns-in_default-four_at
returns-in_default-four_at c =
    other_unicode_none c.args.unit c.args.units.now c.args.at c.if-is_line_terminator.ensures c.if-unit-eq117.true
    (sym c.four_at.ensures.value ∙ c.in_default-four_at.is)

pub returns-then-unit-eq117 : goal.returns-then-unit-eq117
returns-then-unit-eq117 c =
    let w = c.in-Some-four_at.ensures.within in
    escaped_from c.args.units.now c.args.at c.escaped_character-then-unit-eq117.result _ c.in-Some-four_at.written
    (c.args.at + 4) c.escaped_character-then-unit-eq117.ensures
    (other_unicode c.args.unit c.args.units.now c.args.at c.in-Some-four_at.written c.if-is_line_terminator.ensures
    c.if-unit-eq117.true (sym c.in-Some-four_at.ensures.value)) (omega arith) (omega (arith, w))

pub returns-then-not-is_digit : goal.returns-then-not-is_digit
returns-then-not-is_digit c =
    escaped_from c.args.units.now c.args.at c.escaped_character-then-not-is_digit.result _ c.args.unit c.args.at
    c.escaped_character-then-not-is_digit.ensures
    (other_itself c.args.unit (drop c.args.at c.args.units.now) c.if-is_line_terminator.ensures c.if-unit-eq120.false
    c.if-unit-eq117.false c.if-not-is_digit.ensures) (omega arith) c.requires

pub returns-then-unit-ne48 : goal.returns-then-unit-ne48
returns-then-unit-ne48 c =
    other_digit c.args.unit (drop c.args.at c.args.units.now) c.if-is_line_terminator.ensures c.if-unit-eq120.false
    c.if-unit-eq117.false c.if-not-is_digit.ensures c.if-unit-ne48.true

pub returns-then-is_digit_at : goal.returns-then-is_digit_at
returns-then-is_digit_at c =
    other_octal c.args.unit (drop c.args.at c.args.units.now) c.if-unit-ne48.false c.if-is_digit_at.ensures

pub returns : goal.returns
returns c = escaped_from c.args.units.now c.args.at c.escaped_character-2.result _ 0 c.args.at
    c.escaped_character-2.ensures (other_null c.args.unit (drop c.args.at c.args.units.now) c.if-unit-ne48.false
    c.if-is_digit_at.ensures) (omega arith) c.requires
