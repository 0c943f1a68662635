use Rattle.std.proofs.Common.{ap, sym, ◌∙◌, Some}
use Rattle.std.proofs.lemmas.Result.{IfOk-weaker}
use Rattle.jl_value.specs.declared.object.Class.TheVariants as class
use Rattle.jl_value.specs.declared.object.ObjId.{ObjId}
use Rattle.jl_heap.specs.declared.inner.Inner.TheVariants as inner
use Rattle.jl_meaning.specs.Changes.{NewObject}
use Rattle.jl_store.specs.Changes.{after}
use Rattle.jl_state.specs.declared.state.State.{State}
use Rattle.jl_function.proofs.Constructions.{goes_on_with}
use Rattle.jl_function.proofs.script.step_instance_prototype.Goals as goal

pub returns-clause-refines : goal.returns-clause-refines
returns-clause-refines c =
    IfOk-weaker _ _ _ (λ a refines. goes_on_with c.args.state.now c.new_object.new.self _ c.args.function c.args.env
    c.args.call c.args.proto _ _ _ (sym c.is_known.ensures ∙ c.if-not-is_known.false) c.in_ok-id.ensures.next
    (c.in_ok-id.ensures.made ∙ ap (λ (p : ObjId). after (NewObject class.Object (Some p) inner.Nothing)
    c.args.state.now.store) c.prototype_for.ensures) c.in_ok-push_value.ensures.waits
    (ap (λ (s : State). s.functions) c.in_ok-push_value.ensures.pushed) refines) c.call_if_known.ensures.refines
