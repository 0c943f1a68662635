use Rattle.std.proofs.Common.{ℕ, ◌-◌}
use Rattle.std.proofs.lemmas.Result.{IfOk-weaker}
use Rattle.jl_meaning.specs.Conversions.{integer_of}
use Rattle.jl_meaning.specs.builtins.Elements.{relative_index}
use Rattle.jl_progress.specs.ArrayCalls.{copy_from}
use Rattle.jl_builtin.proofs.Waits.{number_given}
use Rattle.jl_lib_array.proofs.CallCases.{works_at}
use Rattle.jl_lib_array.proofs.slicing.step_slice_end.Goals as goal

pub returns-clause-refines : goal.returns-clause-refines
returns-clause-refines c =
    IfOk-weaker _ _ _ (λ a refines. number_given _ c.args.p.now _ _ (λ n. copy_from c.args.object c.args.start
    c.args.array (relative_index (integer_of n) c.args.length - c.args.start) 0) _ _ c.number_of_primitive.ensures
    c.in-Some.is (works_at _ _ _ (λ (m : ℕ). copy_from c.args.object c.args.start c.args.array (m - c.args.start) 0) _ _
    c.relative_index.ensures refines)) c.begin_copy.ensures.refines
