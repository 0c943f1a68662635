use Rattle.std.proofs.lemmas.Result.{IfOk-weaker}
use Rattle.jl_lib_object.proofs.Definitions.{uses_next, uses_one}
use Rattle.jl_lib_object.proofs.Ranks.{falls_one, falls_read}
use Rattle.jl_lib_object.proofs.defining.use_change.Goals as goal

pub returns-in-One-clause-refines : goal.returns-in-One-clause-refines
returns-in-One-clause-refines c =
    IfOk-weaker _ _ _ (λ a refines. uses_one c.args.state.now _ _ _ c.args.change _ _ c.in-One.is refines)
    c.define_own_property.ensures.refines

pub returns-in-One-clause-bounded : goal.returns-in-One-clause-bounded
returns-in-One-clause-bounded c =
    IfOk-weaker _ _ _ (λ a bounded. falls_one _ _ _ _ _ _ c.in-One.is bounded) c.define_own_property.ensures.bounded

pub returns-in_ok-push-in-Next-clause-refines : goal.returns-in_ok-push-in-Next-clause-refines
returns-in_ok-push-in-Next-clause-refines c =
    IfOk-weaker _ _ _ (λ a refines. uses_next _ _ _ _ _ _ _ _ _ _ _ _ _ c.in-Next.is c.new.ensures
    c.in_ok-push-in-Next.ensures.ok refines) c.read_changes.ensures.refines

pub returns-in_ok-push-in-Next-clause-bounded : goal.returns-in_ok-push-in-Next-clause-bounded
returns-in_ok-push-in-Next-clause-bounded c =
    IfOk-weaker _ _ _ (λ a bounded. falls_read _ _ _ _ _ _ _ _ _ _ _ _ c.in-Next.is c.in_ok-push-in-Next.ensures.ok
    bounded)
    c.read_changes.ensures.bounded
