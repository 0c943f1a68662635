use Rattle.std.proofs.Common.{ℕ}
use Rattle.std.proofs.lemmas.Result.{IfOk-weaker}
use Rattle.jl_num.specs.Bits.{uint32_of}
use Rattle.jl_progress.specs.ArrayCalls.{with_length}
use Rattle.jl_builtin.proofs.Waits.{number_given}
use Rattle.jl_lib_array.proofs.CallCases.{works_at}
use Rattle.jl_lib_array.proofs.walk_lengths.step_length_primitive.Goals as goal

pub returns-clause-refines : goal.returns-clause-refines
returns-clause-refines c =
    IfOk-weaker _ _ _ (λ a refines. number_given _ c.args.p.now _ _ (λ n. with_length c.args.purpose c.args.object
    c.args.args (uint32_of n)) _ _ c.number_of_primitive.ensures c.in-Some.is (works_at _ _ _
    (λ (m : ℕ). with_length c.args.purpose c.args.object c.args.args m) _ _ c.length_of.ensures refines))
    c.with_length.ensures.refines
