use Rattle.std.proofs.Common.{subst, List, ℕ}
use Rattle.std.proofs.lemmas.Result.{IfOk-weaker}
use Rattle.jl_progress.specs.Arrays.{join_first}
use Rattle.jl_state.specs.Rest.{RefinesAlgorithm}
use Rattle.jl_lib_array.proofs.joining.step_join_first_primitive.Goals as goal

pub returns-clause-refines : goal.returns-clause-refines
returns-clause-refines c =
    IfOk-weaker _ _ _ (λ a refines. subst
    (λ (x : List ℕ). RefinesAlgorithm c.args.state.now (join_first c.args.joining x)
    c.join_first.new.state a) c.in_ok-first.ensures refines) c.join_first.ensures.refines
