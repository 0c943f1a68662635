use Rattle.std.proofs.Common.{◌≡◌, ◌∙◌, ap, ap₂, subst, sym, true}
use Rattle.std.proofs.lemmas.Result.{IfOk-weaker}
use Rattle.jl_effects.specs.Running.{Ends}
use Rattle.jl_heap.specs.Objects.{object_at}
use Rattle.jl_meaning.specs.Defining.{define_with_number}
use Rattle.jl_meaning.specs.Intrinsics.{global_object}
use Rattle.jl_meaning.specs.Parts.{gives}
use Rattle.jl_meaning.specs.Properties.{can_put, get_property}
use Rattle.jl_store.specs.BigStep.{BigStep}
use Rattle.jl_realm.specs.Global.{put_change}
use Rattle.jl_realm.proofs.GlobalSteps.{put_done}
use Rattle.jl_realm.proofs.declaring.put_on_global.Goals as goal

pub returns : goal.returns
returns c =
    let s = c.args.store.now in
    let x = c.args.name.now in
    let found = c.get_property-property.ensures in
    let can : can_put (object_at s.heap 1).extensible (get_property s 1 x) ≡ true =
    sym (ap₂ can_put c.is_extensible.ensures found) ∙ sym c.can_put.ensures ∙ c.if-not-can_put.false in
    IfOk-weaker _ _ _ (λ done is.
    put_done s c.define_with_number.new.self x c.args.v (Ends (gives done)) c.requires.global c.requires.no_accessor can
    (subst (λ change.
    BigStep (define_with_number global_object x change) s c.define_with_number.new.self (Ends (gives done)))
    (c.put_change-change.ensures ∙ ap (put_change c.args.v) found) is)) c.define_with_number.ensures
