use Rattle.std.proofs.Common.{◌≡◌, ◌∙◌, sym, ap, Some, pos, negsuc, arith}
use Rattle.std.proofs.lemmas.Int.{ints}
use Rattle.jl_num.proofs.Powers.{power_of_zero, power_of_one, even_power, odd_power}
use Rattle.jl_num.proofs.power.positive_power.Goals as goal

pub returns-in-0 : goal.returns-in-0
returns-in-0 c =
    let is : c.args.base ≡ pos 0 = omega (arith, ints) in
    ap Some c.within.ensures ∙ sym (power_of_zero c.args.base c.args.exponent is c.requires)

pub returns-in-1 : goal.returns-in-1
returns-in-1 c =
    let is : c.args.base ≡ pos 1 = omega (arith, ints) in
    ap Some c.within-in-1.ensures ∙ sym (power_of_one c.args.base c.args.exponent is)

pub returns-in-minus1 : goal.returns-in-minus1
returns-in-minus1 c =
    let is : c.args.base ≡ negsuc 0 = omega (arith, ints) in
    ap Some c.within-in-minus1.ensures ∙ sym (even_power c.args.base c.args.exponent is c.if-exponent-eq0.true)

pub returns-in-minus1-2 : goal.returns-in-minus1-2
returns-in-minus1-2 c =
    let is : c.args.base ≡ negsuc 0 = omega (arith, ints) in
    ap Some c.within-in-minus1-2.ensures ∙ sym (odd_power c.args.base c.args.exponent is c.if-exponent-eq0.false)
