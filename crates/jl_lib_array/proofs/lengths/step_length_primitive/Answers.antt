use Rattle.std.proofs.Common.{subst}
use Rattle.std.proofs.lemmas.Result.{IfOk-weaker}
use Rattle.jl_num.specs.Bits.{uint32_of}
use Rattle.jl_progress.specs.Arrays.{with_length}
use Rattle.jl_state.specs.Rest.{RefinesAlgorithm}
use Rattle.jl_builtin.proofs.Waits.{number_given, number_outside}
use Rattle.jl_lib_array.proofs.lengths.step_length_primitive.Goals as goal

pub returns-in_default-clause-refines : goal.returns-in_default-clause-refines
returns-in_default-clause-refines c =
    number_outside c.args.state.now c.args.p.now _
    (λ n. with_length c.args.function c.args.object c.args.args (uint32_of n)) c.number_of_primitive.ensures
    c.in_default.is

pub returns-clause-refines : goal.returns-clause-refines
returns-clause-refines c =
    IfOk-weaker _ _ _ (λ a refines. number_given c.args.state.now c.args.p.now _ _ (λ n. with_length c.args.function
    c.args.object c.args.args (uint32_of n)) _ _ c.number_of_primitive.ensures c.in-Some.is
    (subst (λ m. RefinesAlgorithm
    c.args.state.now (with_length c.args.function c.args.object c.args.args m) c.with_length.new.state a)
    c.length_of.ensures refines)) c.with_length.ensures.refines
