-- A put that comes to another value of an own data property alone.
use Rattle.std.proofs.Common.{◌≡◌, ◌∙◌, ℕ, false, true, ap, refl, subst, sym, not, ◌&&◌, ◌||◌, Bool, None, Option, Some}
use Rattle.std.specs.Option.{option_and_then, option_or}
use Rattle.std.specs.Prelude.{is_some, option_map, ◌↔◌, Err, IsOk, IsTrue, Ok, OnOk, Result}
use Rattle.std.specs.Str.{bytes_eq}
use Rattle.jl_value.specs.declared.object.ObjId.{ObjId}
use Rattle.jl_value.specs.declared.value.Value.{Value}
use Rattle.jl_heap.specs.Define.{is_array, is_writable, keeps_length, length_name, takes_value_alone}
use Rattle.jl_heap.specs.Define as heaps
use Rattle.jl_heap.specs.Objects.{object_at, own, own_or_unit, unit_at, unit_property, Name}
use Rattle.jl_heap.specs.declared.property.Defined.TheVariants.{Done}
use Rattle.jl_heap.specs.declared.property.Prop.{Prop}
use Rattle.jl_heap.specs.declared.property.Prop.TheVariants.{Accessor, Plain}
use Rattle.jl_effects.specs.Running.{Ends}
use Rattle.jl_meaning.specs.Changes.{DefineProperty}
use Rattle.jl_meaning.specs.Defining.{define_own_property, define_with_number, value_change, with_length}
use Rattle.jl_meaning.specs.Parts.{gives, ◌>>=◌}
use Rattle.jl_meaning.specs.Properties.{can_put, get_own_property, get_property, holding, inherited_property}
use Rattle.jl_meaning.specs.Properties.{mapped_parameter}
use Rattle.jl_meaning.specs.Properties.{own_or_inherited}
use Rattle.jl_meaning.specs.Putting.{put_if}
use Rattle.jl_meaning.specs.Store.{binding_of, Store}
use Rattle.jl_store.specs.Changes.{after}
use Rattle.jl_store.specs.BigStep.{refines, BigStep}
use Rattle.jl_store.proofs.Defined.{done_comes}

-- a data property that can be written
record Held (p : Option Prop) : Type 0 where
  value : Value
  enumerable : Bool
  configurable : Bool
  is : p ≡ Some (Plain value true enumerable configurable)

held : (p : Option Prop) (b : Bool) → IsTrue (is_writable p && b) → Held p
held None b t = absurd (let differ = t in cc)
held (Some (Accessor get set e c)) b t = absurd (let differ = t in cc)
held (Some (Plain v false e c)) b t = absurd (let differ = t in cc)
held (Some (Plain v true e c)) b t = record { value = v; enumerable = e; configurable = c; is = refl }

second : (a b : Bool) → IsTrue (a && b) → IsTrue b
second false b t = absurd (let differ = t in cc)
second true b t = t

no_length : (array length index : Bool) → IsTrue (not array || (not length && index)) → (array && length) ≡ false
no_length false length index t = refl
no_length true false index t = refl
no_length true true index t = absurd (let differ = t in cc)

not_mapped : {A B : Type 0} (f : A → B) (found : Option A) (m : Option B) → option_map f found ≡ m
    → is_some found ≡ false → m ≡ None
not_mapped f None m is none = sym is
not_mapped f (Some a) m is none = absurd (let differ = none in cc)

own_found : (s : Store) (id : ObjId) (x : Name) (p : Prop) → mapped_parameter s id.0 x ≡ None
    → own s.heap id.0 x ≡ Some p → get_own_property s id.0 x ≡ Some (holding None p)
unfolding get_own_property
own_found s id x p unmapped is =
    ap (λ m. option_map
    (holding (option_and_then (λ (q : ℕ × Name). option_map (λ b. b.value) (binding_of s q.0 q.1)) m))
    (own_or_unit s.heap id.0 x)) unmapped
    ∙ ap (λ o. option_map (holding None) (option_or o (option_map unit_property (unit_at s.heap id.0 x)))) is

found : (s : Store) (id : ObjId) (x : Name) (p : Prop) → get_own_property s id.0 x ≡ Some p
    → get_property s id.0 x ≡ Some (true, p)
unfolding get_property
found s id x p is = ap (λ o. own_or_inherited o (inherited_property s id.0 x)) is

defines : (s t : Store) (id : ObjId) (x : Name) (v : Value)
    → (is_array (object_at s.heap id.0).class && bytes_eq x length_name) ≡ false
    → BigStep (define_with_number id x (value_change v)) s t (Ends (gives true))
    → BigStep (define_own_property id x (value_change v)) s t (Ends (gives true))
unfolding define_own_property
defines s t id x v no_length comes = record {
  refines = subst
      (λ b. refines (with_length b (value_change v) (Some v) >>= define_with_number id x) s t (Ends (gives true)))
      (sym no_length) comes.refines;
}

value_comes : (id : ObjId) (x : Name) (v : Value) (s t : Store) → mapped_parameter s id.0 x ≡ None
    → IsTrue (takes_value_alone s.heap id.0 x)
    → Done ≡ (heaps.define_own_property s.heap id.0 x (value_change v)).1
    → t ≡ after (DefineProperty id x (value_change v)) s
    → BigStep
    (put_if (can_put (object_at s.heap id.0).extensible (get_property s id.0 x)) id x v (get_property s id.0 x))
    s t (Ends (gives true))
value_comes id x v s t unmapped taken done made =
    let property = held (own s.heap id.0 x) (keeps_length s.heap id.0 x) taken in
    let present = Plain property.value true property.enumerable property.configurable in
    let kept = no_length (is_array (object_at s.heap id.0).class) (bytes_eq x length_name) _
    (second (is_writable (own s.heap id.0 x)) (keeps_length s.heap id.0 x) taken) in
    let numbered : BigStep (define_with_number id x (value_change v)) s t (Ends (gives true)) =
    done_comes id x (value_change v) s t t None Done made done refl (ap (option_map _) unmapped)
    (record { refines = (refl, refl) }) in
    subst
    (λ p. BigStep (put_if (can_put (object_at s.heap id.0).extensible p) id x v p) s t (Ends (gives true)))
    (sym (found s id x present (own_found s id x present unmapped property.is)))
    (defines s t id x v kept numbered)

-- the same of an answer that says whether it was done
pub value_put : {A : Type 0} (id : ObjId) (x : Name) (v : Value) (s t : Store) (found : Option A)
    (f : A → ℕ × Name) (r : Result (Unit {0}) Value) → option_map f found ≡ mapped_parameter s id.0 x
    → is_some found ≡ false → (IsOk r ↔ IsTrue (takes_value_alone s.heap id.0 x))
    → OnOk r (Done ≡ (heaps.define_own_property s.heap id.0 x (value_change v)).1)
    → OnOk r (t ≡ after (DefineProperty id x (value_change v)) s)
    → OnOk r (BigStep
    (put_if (can_put (object_at s.heap id.0).extensible (get_property s id.0 x)) id x v (get_property s id.0 x))
    s t (Ends (gives true)))
value_put id x v s t found f (Ok u) is none taken done made =
    value_comes id x v s t (not_mapped f found (mapped_parameter s id.0 x) is none) (taken.0 refl) done made
value_put id x v s t found f (Err e) is none taken done made = tt
