use Rattle.std.proofs.Common.{drop, subst, ℕ}
use Rattle.std.proofs.lemmas.Result.{IfOk-weaker}
use Rattle.jl_meaning.specs.Parts.{◌>>=◌}
use Rattle.jl_meaning.specs.builtins.Elements.{put_index}
use Rattle.jl_progress.specs.Arrays.{put_others}
use Rattle.jl_state.specs.Rest.{RefinesAlgorithm}
use Rattle.jl_lib_array.proofs.putting.put_value.Goals as goal

pub returns-clause-refines : goal.returns-clause-refines
returns-clause-refines c =
    IfOk-weaker _ _ _ (λ a refines. subst
    (λ (n : ℕ). RefinesAlgorithm c.args.state.now (put_index c.args.object c.args.index
    c.args.v >>= λ _. put_others c.args.object n (drop c.args.from c.args.values) c.args.next) c.put_then.new.state a)
    c.in_ok-after.ensures refines) c.put_then.ensures.refines
