-- Own properties, and objects that describe them (8.10.4).
use Rattle.std.proofs.Common.{◌≡◌, ◌∙◌, ap, refl, subst, sym, Bool, None, Option, Some}
use Rattle.jl_value.specs.declared.object.ObjId.{ObjId}
use Rattle.jl_value.specs.declared.value.Value.{Value}
use Rattle.jl_value.specs.declared.value.Value.TheVariants as value
use Rattle.jl_heap.specs.Define.{is_writable}
use Rattle.jl_heap.specs.Objects.{Name}
use Rattle.jl_heap.specs.Property.{is_configurable, is_enumerable}
use Rattle.jl_heap.specs.declared.property.Prop.{Prop}
use Rattle.jl_heap.specs.declared.property.Prop.TheVariants.{Accessor, Plain}
use Rattle.jl_effects.specs.Running.{Ends}
use Rattle.jl_meaning.specs.Conversions.{string_hint, to_object, to_primitive, to_string}
use Rattle.jl_meaning.specs.Parts.{gives, look, ◌>>=◌, Algorithm, Call}
use Rattle.jl_meaning.specs.Properties.{get_own_property}
use Rattle.jl_meaning.specs.Relations.{give_truth}
use Rattle.jl_meaning.specs.Store.{Store}
use Rattle.jl_meaning.specs.builtins.Arguments.{argument}
use Rattle.jl_meaning.specs.builtins.Descriptors.{from_property_descriptor}
use Rattle.jl_meaning.specs.builtins.Object.{this_has}
use Rattle.jl_progress.specs.Objects.{own_test_of}
use Rattle.jl_progress.specs.declared.object.ObjectProgress.TheVariants as object
use Rattle.jl_progress.specs.declared.object.OwnTest.{OwnTest}
use Rattle.jl_progress.specs.declared.progress.Progress.TheVariants as progress
use Rattle.jl_store.specs.BigStep.{BigStep}
use Rattle.jl_store.specs.LookUps.{data_value, getter_of, setter_of}
use Rattle.jl_state.specs.Rest.{RefinesAlgorithm}
use Rattle.jl_state.specs.Steps.{AlgorithmWaits}
use Rattle.jl_state.specs.declared.act.Act.{Act}
use Rattle.jl_state.specs.declared.act.Act.TheVariants as act
use Rattle.jl_state.specs.declared.algorithm_frame.AlgorithmFrame.TheVariants as algorithm
use Rattle.jl_state.specs.declared.state.State.{State}
use Rattle.jl_state.proofs.Stores.{works_ends}
use Rattle.jl_operator.proofs.Operands.{text_waits}
use Rattle.jl_lib_object.specs.inner.Parts.{describe_own}

-- a property is what is asked of it

pub data_is : (p : Prop) (found : Option Value) (v : Value) (writable enumerable configurable : Bool)
    → found ≡ data_value p → found ≡ Some v → writable ≡ is_writable (Some p) → enumerable ≡ is_enumerable p
    → configurable ≡ is_configurable p → Plain v writable enumerable configurable ≡ p
data_is (Plain w x y z) found v writable enumerable configurable is there e f g =
    let same : Some v ≡ Some w = sym there ∙ is in
    let value_is : v ≡ w = cc in
    ap (λ u. Plain u writable enumerable configurable) value_is
    ∙ ap (λ b. Plain w b enumerable configurable) e
    ∙ ap (λ b. Plain w x b configurable) f
    ∙ ap (λ b. Plain w x y b) g
data_is (Accessor get set y z) found v writable enumerable configurable is there e f g =
    absurd (let differ : Some v ≡ None = sym there ∙ is in cc)

pub accessor_is : (p : Prop) (found : Option Value) (getter setter : Option ObjId) (enumerable configurable : Bool)
    → found ≡ data_value p → found ≡ None → getter ≡ getter_of p → setter ≡ setter_of p
    → enumerable ≡ is_enumerable p → configurable ≡ is_configurable p
    → Accessor getter setter enumerable configurable ≡ p
accessor_is (Plain w x y z) found getter setter enumerable configurable is none e f g h =
    absurd (let differ : None ≡ Some w = sym none ∙ is in cc)
accessor_is (Accessor get set y z) found getter setter enumerable configurable is none e f g h =
    ap (λ o. Accessor o setter enumerable configurable) e
    ∙ ap (λ o. Accessor get o enumerable configurable) f
    ∙ ap (λ b. Accessor get set b configurable) g
    ∙ ap (λ b. Accessor get set y b) h

-- a property is described, if it is there

pub describes_none : (s : State) (id : ObjId) (x : Name) (found : Option Prop)
    → found ≡ get_own_property s.store id.0 x → found ≡ None
    → RefinesAlgorithm s (describe_own id x) s (act.Give value.Undefined)
describes_none s id x found is none = record {
  is = (subst (λ o. RefinesAlgorithm s (from_property_descriptor o) s (act.Give value.Undefined)) (sym none ∙ is)
      (record { is = λ kept told. refl })).is;
}

pub describes : (s : State) (t : Store) (id : ObjId) (x : Name) (found : Option Prop) (p : Prop) (v : Value)
    → found ≡ get_own_property s.store id.0 x → found ≡ Some p
    → BigStep (from_property_descriptor (Some p)) s.store t (Ends (gives v))
    → RefinesAlgorithm s (describe_own id x) (record s { store = t }) (act.Give v)
describes s t id x found p v is there comes = record {
  is = (subst (λ o. RefinesAlgorithm s (from_property_descriptor o) (record s { store = t }) (act.Give v))
      (sym there ∙ is)
      (works_ends s (record s { store = t }) refl (from_property_descriptor (Some p)) (gives v) comes)).is;
}

-- an own property of `this` is asked for by its name
pub asks_name : (s u : State) (test : OwnTest) (c : Call) (name this : Value) (t : State) (a : Act)
    → name ≡ argument c 0 → this ≡ c.this
    → AlgorithmWaits s (algorithm.Builtin (progress.Object (object.OwnName test this))) u
    → RefinesAlgorithm u (to_primitive string_hint name) t a → RefinesAlgorithm s (this_has (own_test_of test) c) t a
asks_name s u test c name this t a name_is this_is waits refines =
    subst (λ v. RefinesAlgorithm s (to_string v >>= asked c.this) t a) name_is
    (subst (λ w. RefinesAlgorithm s (to_string name >>= asked w) t a) this_is
    (text_waits s u t (algorithm.Builtin (progress.Object (object.OwnName test this))) (asked this) name a (λ p. refl)
    waits refines))
  where
    asked : Value → Name → Algorithm Value
    asked w x = to_object w >>= λ id. look >>= λ store. give_truth (own_test_of test store id.0 x)

pub own_told : (s : State) (test : OwnTest) (id : ObjId) (name x : Name) (b : Bool)
    → b ≡ own_test_of test s.store id.0 name → name ≡ x
    → RefinesAlgorithm s (look >>= λ store. give_truth (own_test_of test store id.0 x)) s (act.Give (value.Bool b))
own_told s test id name x b told same = record {
  is = (subst (λ c. RefinesAlgorithm s (give_truth (own_test_of test s.store id.0 x)) s (act.Give (value.Bool c)))
      (sym (told ∙ ap (λ y. own_test_of test s.store id.0 y) same)) (record { is = λ kept before. refl })).is;
}
