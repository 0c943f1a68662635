use Rattle.std.proofs.Common.{drop}
use Rattle.jl_lex.proofs.NumberLoops.{exponent_none, exponent_plus, exponent_minus, exponent_plain, exponent_from}
use Rattle.jl_lex.proofs.NumberLoops.{exponent_absent}
use Rattle.jl_lex.proofs.numbers.exponent_at.Goals as goal

pub returns-then-not-is_exponent_letter_at-clause-read : goal.returns-then-not-is_exponent_letter_at-clause-read
returns-then-not-is_exponent_letter_at-clause-read c =
    exponent_absent c.args.units.now c.args.at _
    (exponent_none (drop c.args.at c.args.units.now) c.if-not-is_exponent_letter_at.ensures) c.requires

pub returns-then-is_at-clause-read : goal.returns-then-is_at-clause-read
returns-then-is_at-clause-read c =
    exponent_from c.args.units.now c.args.at c.exponent_after.result _ _
    (exponent_plus c.args.units.now c.args.at c.if-not-is_exponent_letter_at.ensures c.if-is_at.ensures)
    c.exponent_after.ensures.read

pub returns-then-is_at-2-clause-read : goal.returns-then-is_at-2-clause-read
returns-then-is_at-2-clause-read c =
    exponent_from c.args.units.now c.args.at c.exponent_after-then-is_at-2.result _ _
    (exponent_minus c.args.units.now c.args.at c.if-not-is_exponent_letter_at.ensures c.if-is_at.ensures
    c.if-is_at-2.ensures) c.exponent_after-then-is_at-2.ensures.read

pub returns-clause-read : goal.returns-clause-read
returns-clause-read c = exponent_from c.args.units.now c.args.at c.exponent_after-2.result _ _
    (exponent_plain c.args.units.now c.args.at c.if-not-is_exponent_letter_at.ensures c.if-is_at.ensures
    c.if-is_at-2.ensures) c.exponent_after-2.ensures.read
