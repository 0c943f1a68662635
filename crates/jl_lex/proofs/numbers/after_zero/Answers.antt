use Rattle.std.proofs.Common.{◌+◌, ◌∷◌, [], drop, arith}
use Rattle.jl_lex.proofs.AmountLemmas.{none_stands}
use Rattle.jl_lex.proofs.NumberLoops.{numeral_from, zero_plain, zero_hex, zero_no_hex}
use Rattle.jl_lex.proofs.numbers.after_zero.Goals as goal

pub returns-then-not-is_x_at : goal.returns-then-not-is_x_at
returns-then-not-is_x_at c =
    numeral_from c.args.units.now c.args.at c.args.at c.after_whole.result _ _
    (zero_plain (drop c.args.at c.args.units.now) c.if-not-is_x_at.ensures) (omega arith)
    (c.after_whole.ensures.read (48 ∷ []) none_stands)

pub returns-in_default : goal.returns-in_default
returns-in_default c = numeral_from c.args.units.now c.args.at c.args.at c.after_whole-in_default.result _ _
    (zero_no_hex c.args.units.now c.args.at c.if-not-is_x_at.ensures c.in_default.ensures) (omega arith)
    (c.after_whole-in_default.ensures.read (48 ∷ []) none_stands)

pub returns : goal.returns
returns c = numeral_from c.args.units.now c.args.at (c.args.at + 1) c.in-Some.found _ _
    (zero_hex c.args.units.now c.args.at c.if-not-is_x_at.ensures) (omega arith)
    (c.in-Some.ensures (drop c.args.at c.args.units.now))
