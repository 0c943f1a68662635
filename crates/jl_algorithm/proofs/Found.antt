-- What is got of a property that was found.
use Rattle.std.proofs.Common.{◌≡◌, refl, subst, sym, false, Bool, IfOk, List, None, Result, Some, []}
use Rattle.std.proofs.lemmas.Result.{IfOk-weaker}
use Rattle.jl_value.specs.declared.object.ObjId.{ObjId}
use Rattle.jl_value.specs.declared.value.Value.{Value}
use Rattle.jl_value.specs.declared.value.Value.TheVariants as value
use Rattle.jl_heap.specs.declared.property.Prop.{Prop}
use Rattle.jl_heap.specs.declared.property.Prop.TheVariants.{Accessor, Plain}
use Rattle.jl_meaning.specs.Getting.{value_of_property}
use Rattle.jl_store.specs.LookUps.{data_value, getter_of}
use Rattle.jl_state.specs.Rest.{RefinesAlgorithm}
use Rattle.jl_state.specs.declared.act.Act.{Act}
use Rattle.jl_state.specs.declared.act.Act.TheVariants as act
use Rattle.jl_state.specs.declared.state.State.{State}

same_value : (v w : Value) → Some v ≡ Some w → v ≡ w
same_value v w e = cc

pub gives_data : (s : State) (this : Value) (own : Bool) (p : Prop) (v : Value) → data_value p ≡ Some v
    → RefinesAlgorithm s (value_of_property this (Some (own, p))) s (act.Give v)
gives_data s this own (Plain w x y z) v e =
    subst (λ u. RefinesAlgorithm s (value_of_property this (Some (own, Plain w x y z))) s (act.Give u))
    (same_value w v e)
    (record { is = λ kept told. refl })
gives_data s this own (Accessor get set _ _) v e = absurd (let differ = e in cc)

calls_getter : (s : State) (this : Value) (own : Bool) (p : Prop) (getter : ObjId)
    → data_value p ≡ None → getter_of p ≡ Some getter
    → RefinesAlgorithm s (value_of_property this (Some (own, p))) s
    (act.Call (record { callee = getter; this = this; args = []; by_new = false }))
calls_getter s this own (Plain w _ _ _) getter e f = absurd (let differ = e in cc)
calls_getter s this own (Accessor None set _ _) getter e f = absurd (let differ = f in cc)
calls_getter s this own (Accessor (Some g) set x y) getter e f =
    subst (λ h. RefinesAlgorithm s (value_of_property this (Some (own, Accessor (Some g) set x y))) s
    (act.Call (record { callee = h; this = this; args = []; by_new = false }))) (let same = f in cc)
    (record { is = λ kept told. refl })

pub calls_found : {E : Type 0} (r : Result Act E) (this base : Value) (own : Bool) (p : Prop) (getter : ObjId)
    (args : List Value) → IfOk r (λ a. a ≡ act.Call
    (record { callee = getter; this = base; args = args; by_new = false }))
    → data_value p ≡ None → getter_of p ≡ Some getter → base ≡ this → args ≡ []
    → IfOk r (λ a. (s : State) → RefinesAlgorithm s (value_of_property this (Some (own, p))) s a)
calls_found r this base own p getter args made none is same no_args =
    IfOk-weaker r (λ a. a ≡ called base args)
    (λ a. (s : State) → RefinesAlgorithm s (value_of_property this (Some (own, p))) s a)
    (λ a equal s. subst (RefinesAlgorithm s (value_of_property this (Some (own, p))) s) (sym equal)
    (subst (λ b. RefinesAlgorithm s (value_of_property this (Some (own, p))) s (called b args)) (sym same)
    (subst (λ l. RefinesAlgorithm s (value_of_property this (Some (own, p))) s (called this l)) (sym no_args)
    (calls_getter s this own p getter none is)))) made
  where
    called : Value → List Value → Act
    called b l = act.Call (record { callee = getter; this = b; args = l; by_new = false })

pub gives_none : (s : State) (this : Value) (own : Bool) (p : Prop) → data_value p ≡ None → getter_of p ≡ None
    → RefinesAlgorithm s (value_of_property this (Some (own, p))) s (act.Give value.Undefined)
gives_none s this own (Plain w _ _ _) e f = absurd (let differ = e in cc)
gives_none s this own (Accessor None set _ _) e f = record { is = λ kept told. refl }
gives_none s this own (Accessor (Some g) set _ _) e f = absurd (let differ = f in cc)

pub ruleset values_found = (gives_data, calls_found, gives_none)
