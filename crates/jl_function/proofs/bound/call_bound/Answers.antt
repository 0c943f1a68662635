use Rattle.std.proofs.Common.{ap, ◌∙◌}
use Rattle.jl_meaning.specs.FunctionObjects.{has_construct}
use Rattle.jl_state.proofs.Acts.{works_act}
use Rattle.jl_function.proofs.Targets.{calls_target}
use Rattle.jl_function.proofs.bound.call_bound.Goals as goal

pub returns-clause-refines : goal.returns-clause-refines
returns-clause-refines c =
    works_act c.args.state.now _ _ _ c.call.ensures _
    (calls_target _ _ _ c.args.by_new c.args.target c.args.this c.args.args
    (c.has_construct-constructs.ensures ∙ ap has_construct c.inner_of.ensures) c.else-by_new.either)
