use Rattle.std.proofs.Common.{subst, ◌∙◌, List, ℕ}
use Rattle.std.proofs.lemmas.Result.{IfOk-weaker}
use Rattle.jl_progress.specs.Arrays.{join_next}
use Rattle.jl_state.specs.Rest.{RefinesAlgorithm}
use Rattle.jl_lib_array.proofs.joining.step_join_element_primitive.Goals as goal

pub returns-clause-refines : goal.returns-clause-refines
returns-clause-refines c =
    IfOk-weaker _ _ _ (λ a refines. subst
    (λ (x : List ℕ). RefinesAlgorithm c.args.state.now (join_next c.args.joining c.args.line x)
    c.join_next.new.state a) (c.units.ensures.same ∙ c.in_ok-next.ensures) refines) c.join_next.ensures.refines
