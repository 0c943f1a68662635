use Rattle.jl_lib_array.proofs.NewArrays.{alone, not_alone}
use Rattle.jl_lib_array.proofs.arrays.only_number.Goals as goal

pub returns-then-args-eq1 : goal.returns-then-args-eq1
returns-then-args-eq1 c =
    alone c.args.args.now _ _ c.if-args-eq1.true c.index-args-0.is c.number_in.ensures

pub returns : goal.returns
returns c =
    not_alone c.args.args.now c.if-args-eq1.false
