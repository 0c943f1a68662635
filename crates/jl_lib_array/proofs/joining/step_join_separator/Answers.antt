use Rattle.std.proofs.Common.{subst, List, ℕ}
use Rattle.std.proofs.lemmas.Result.{IfOk-weaker}
use Rattle.jl_meaning.specs.builtins.Array.{join_elements}
use Rattle.jl_state.specs.Rest.{RefinesAlgorithm}
use Rattle.jl_lib_array.proofs.joining.step_join_separator.Goals as goal

pub returns-clause-refines : goal.returns-clause-refines
returns-clause-refines c =
    IfOk-weaker _ _ _ (λ a refines. subst (λ (x : List ℕ). RefinesAlgorithm c.args.state.now
    (join_elements c.args.object c.args.length x) c.join_elements.new.state a) c.in_ok-separator.ensures refines)
    c.join_elements.ensures.refines
