use Rattle.std.proofs.Common.{arith}
use Rattle.jl_lib_misc.proofs.Leading.{next_digit}
use Rattle.jl_lib_misc.proofs.parsing.leading_number.Goals as goal

pub returns-then-number-gt-LARGEST_SIZE : goal.returns-then-number-gt-LARGEST_SIZE
returns-then-number-gt-LARGEST_SIZE c =
    let more = next_digit c.args.radix c.loop-unit.number c.args.units.now c.loop-unit.unit-index
    c.digit_of-digit.result
    (omega (arith, c.requires.low)) c.loop-unit-test.true c.digit_of-digit.ensures c.if-digit-radix.false in
    omega (arith, more, c.loop-unit.invariant.rest, c.if-number-gt-LARGEST_SIZE.true)
