use Rattle.std.proofs.Common.{◌+◌, drop, sym, arith}
use Rattle.jl_lex.proofs.StringLoops.{escape_end, escape_single, escape_other, escaped_from, character_from}
use Rattle.jl_lex.proofs.strings.escape_at.Goals as goal

pub returns-in_default : goal.returns-in_default
returns-in_default c = escape_end (drop c.args.at c.args.units.now) c.in_default.ensures

pub returns-in-Some-single_escape : goal.returns-in-Some-single_escape
returns-in-Some-single_escape c =
    let e = c.in-Some.ensures in
    escaped_from c.args.units.now (c.args.at + 1) c.escaped_character.result _ c.in-Some-single_escape.written
    (c.args.at + 1) c.escaped_character.ensures
    (escape_single (drop c.args.at c.args.units.now) (drop (c.args.at + 1) c.args.units.now) c.in-Some.unit
    c.in-Some-single_escape.written e.0 (sym c.in-Some-single_escape.ensures)) (omega arith) (omega (arith, e.1))

pub returns-in-None : goal.returns-in-None
returns-in-None c =
    let e = c.in-Some.ensures in
    character_from c.args.units.now (c.args.at + 1) (c.args.at + 1) c.other_escape_at.result _ _
    (escape_other (drop c.args.at c.args.units.now) (drop (c.args.at + 1) c.args.units.now) c.in-Some.unit e.0
    (sym c.in-None.ensures)) (omega arith) c.other_escape_at.ensures
