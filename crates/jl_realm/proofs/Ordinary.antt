-- The global object stays an ordinary one, whatever algorithm goes on.
use Rattle.std.proofs.Common.{◌≡◌, ℕ, ◌+◌, ◌<◌, Bool, true, false, List, [], ◌∷◌, length}
use Rattle.std.proofs.Common.{refl, ap, sym, subst, eqb, get_or-set_same, get_or-set_other}
use Rattle.std.proofs.Math.ListN.{get_or-append}
use Rattle.std.proofs.lemmas.Bool.{eqb-true, eqb-false}
use Rattle.std.proofs.lemmas.List.{get_or_past}
use Rattle.std.specs.Prelude.{if◌then◌else◌, IsSome, None, Option, Some}
use Rattle.jl_props.specs.Entries.{without}
use Rattle.jl_props.specs.declared.entries.Entry.{Entry}
use Rattle.jl_value.specs.declared.object.Class.{Class}
use Rattle.jl_value.specs.declared.object.Class.TheVariants as class
use Rattle.jl_value.specs.declared.object.ObjId.{ObjId}
use Rattle.jl_effects.specs.Effects.{Begin, Change, Emit, End, Fail, Look, Perform, Print, Step}
use Rattle.jl_effects.specs.Running.{Finish}
use Rattle.jl_heap.specs.Define.{define_ordinary, is_array, length_name, with_new_property}
use Rattle.jl_heap.specs.Define as heaps
use Rattle.jl_heap.specs.Headers.{unmap_argument, unmapped_inside, without_extensions}
use Rattle.jl_heap.specs.NewObject.{first_length, proto_there, with_bare_object, with_new_object}
use Rattle.jl_heap.specs.Objects.{absent_object, deleted_if, object_at, own_or_unit, with_object, with_properties, Name}
use Rattle.jl_heap.specs.Objects.{Object, Objects}
use Rattle.jl_heap.specs.Property.{is_configurable}
use Rattle.jl_heap.specs.declared.inner.Inner.{Inner}
use Rattle.jl_heap.specs.declared.property.Change as asked
use Rattle.jl_heap.specs.declared.property.Defined.{Defined}
use Rattle.jl_heap.specs.declared.property.Prop.{Prop}
use Rattle.jl_heap.proofs.LawsLemmas.{keeps_object}
use Rattle.jl_heap.proofs.Plainly.{by_plainly}
use Rattle.jl_heap.proofs.Puts.{inside, past, within_or_past, Within}
use Rattle.jl_meaning.specs.Changes.{DefineProperty, DeleteProperty, NewBinding, NewEnvironment, NewObject}
use Rattle.jl_meaning.specs.Changes.{NewProperty, PreventExtensions, SetBinding, StoreChange, UnmapIndex}
use Rattle.jl_meaning.specs.Intrinsics.{global_object}
use Rattle.jl_meaning.specs.Parts.{Algorithm, AlgorithmFault, Answer}
use Rattle.jl_meaning.specs.Store.{Store}
use Rattle.jl_store.specs.Changes.{after}
use Rattle.jl_store.specs.BigStep.{refines, BigStep}
use Rattle.jl_realm.specs.Global.{HasGlobalObject, IsOrdinary}

-- an ordinary object stands at this place
record At (heap : Objects) (k : ℕ) : Type 0 where
  ordinary : IsOrdinary (object_at heap k)

there_if : (h : Objects) (k : ℕ) → IsOrdinary (object_at h k) → Within h.objects k → k < length h.objects
there_if h k ordinary (inside within) = within
there_if h k ordinary (past beyond) =
    let none : false ≡ true =
    subst (λ (o : Object). IsSome o.proto) (get_or_past h.objects k absent_object beyond) ordinary.proto in
    absurd (cc)

pub is_there : (h : Objects) (k : ℕ) → IsOrdinary (object_at h k) → k < length h.objects
is_there h k ordinary = there_if h k ordinary (within_or_past h.objects k)

-- where the object at any place is changed, and an ordinary one stays so
stays_set : (h : Objects) (k j : ℕ) (o : Object) → (IsOrdinary (object_at h k) → IsOrdinary o) → At h j
    → At (with_object h k o) j
stays_set h k j o stays at = by (eqb j k) refl
  where
    by : (same : Bool) → eqb j k ≡ same → At (with_object h k o) j
    by true e =
        let is : j ≡ k = eqb-true j k e in
        let here : IsOrdinary (object_at h k) = subst (λ i. IsOrdinary (object_at h i)) is at.ordinary in
        let set_so = get_or-set_same h.objects k o absent_object (is_there h k here) in
        record {
          ordinary =
              subst (λ i. IsOrdinary (object_at (with_object h k o) i)) (sym is)
              (subst IsOrdinary (sym set_so) (stays here));
        }
    by false e =
        let set_so = get_or-set_other h.objects k j o absent_object (eqb-false j k e) in
        record { ordinary = subst IsOrdinary (sym set_so) at.ordinary }

stays_put : (h : Objects) (k j : ℕ) (es : List (Entry Prop)) → At h j → At (with_properties h k es) j
stays_put h k j es at =
    stays_set h k j (record (object_at h k) { properties = es })
    (λ o. record { class = o.class; inner = o.inner; proto = o.proto }) at

counted_up : (h : Objects) (j : ℕ) → At h j → At (record h { next = h.next + 1 }) j
counted_up h j at = record { ordinary = at.ordinary }

stays_added : (h : Objects) (k j : ℕ) (x : Name) (p : Prop) → At h j → At (with_new_property h k x p) j
stays_added h k j x p at = stays_put (record h { next = h.next + 1 }) k j _ (counted_up h j at)

pub define_is : (h : Objects) (j : ℕ) (x : Name) (c : asked.Change) → (object_at h j).class ≡ class.Object
    → heaps.define_own_property h j x c ≡ define_ordinary h j x c
define_is h j x c is = rw is refl

stays_defined_here : (h : Objects) (j : ℕ) (x : Name) (c : asked.Change) → At h j
    → At (heaps.define_own_property h j x c).0 j
stays_defined_here h j x c at =
    let plain : At (define_ordinary h j x c).0 j =
    by_plainly h j x (λ g. At g j) at (λ p. stays_added h j j x p at) (λ p. stays_put h j j _ at) c in
    subst (λ (r : Objects × Defined). At r.0 j) (sym (define_is h j x c at.ordinary.class)) plain

stays_defined : (h : Objects) (k j : ℕ) (x : Name) (c : asked.Change) → At h j
    → At (heaps.define_own_property h k x c).0 j
stays_defined h k j x c at = by (eqb j k) refl
  where
    by : (same : Bool) → eqb j k ≡ same → At (heaps.define_own_property h k x c).0 j
    by true e =
        subst (λ i. At (heaps.define_own_property h i x c).0 j) (eqb-true j k e) (stays_defined_here h j x c at)
    by false e = record {
      ordinary = subst IsOrdinary (sym (keeps_object h k j x c (eqb-false j k e)).defined_there) at.ordinary;
    }

stays_deleted_if : (h : Objects) (k j : ℕ) (x : Name) (p : Option Prop) → At h j → At (deleted_if h k x p).0 j
stays_deleted_if h k j x None at = at
stays_deleted_if h k j x (Some p) at = by (is_configurable p)
  where
    after_delete : Bool → Objects × Bool
    after_delete free =
        if free then (with_properties h k (without (object_at h k).properties x), true) else (h, false)

    by : (free : Bool) → At (after_delete free).0 j
    by true = stays_put h k j _ at
    by false = at

stays_unmapped : (h : Objects) (k j index : ℕ) → At h j → At (unmap_argument h k index) j
stays_unmapped h k j index at =
    stays_set h k j (record (object_at h k) { inner = unmapped_inside (object_at h k).inner index })
    (λ o. record { class = o.class; inner = ap (λ (i : Inner). unmapped_inside i index) o.inner; proto = o.proto }) at

stays_closed : (h : Objects) (k j : ℕ) → At h j → At (without_extensions h k) j
stays_closed h k j at =
    stays_set h k j (record (object_at h k) { extensible = false })
    (λ o. record { class = o.class; inner = o.inner; proto = o.proto }) at

stays_beside : (h : Objects) (j : ℕ) (kind : Class) (proto : Option ObjId) (i : Inner) → At h j
    → At (with_bare_object h kind proto i) j
stays_beside h j kind proto i at =
    let new : Object = record {
      class = kind;
      proto = proto_there h proto;
      extensible = true;
      inner = i;
      properties = [];
    } in
    let same = get_or-append h.objects (new ∷ []) absent_object j (is_there h j at.ordinary) in
    record { ordinary = subst IsOrdinary (sym same) at.ordinary }

stays_new : (h : Objects) (j : ℕ) (kind : Class) (proto : Option ObjId) (i : Inner) → At h j
    → At (with_new_object h kind proto i) j
stays_new h j kind proto i at = by (is_array kind)
  where
    more : Objects
    more = with_bare_object h kind proto i

    by : (array : Bool)
        → At (if array then with_new_property more (length h.objects) length_name first_length else more) j
    by true = stays_added more (length h.objects) j length_name first_length (stays_beside h j kind proto i at)
    by false = stays_beside h j kind proto i at

stays_changed : (c : StoreChange) (s : Store) → At s.heap global_object.0 → At (after c s).heap global_object.0
unfolding after
stays_changed (NewObject kind proto i) s at = stays_new s.heap _ kind proto i at
stays_changed (NewProperty id x p) s at = stays_added s.heap id.0 _ x p at
stays_changed (DefineProperty id x change) s at = stays_defined s.heap id.0 _ x change at
stays_changed (DeleteProperty id x) s at = stays_deleted_if s.heap id.0 _ x (own_or_unit s.heap id.0 x) at
stays_changed (PreventExtensions id) s at = stays_closed s.heap id.0 _ at
stays_changed (UnmapIndex id index) s at = stays_unmapped s.heap id.0 _ index at
stays_changed (NewEnvironment outer) s at = at
stays_changed (NewBinding env b) s at = at
stays_changed (SetBinding env x v) s at = at

stays_on : {A : Type 0} (p : Algorithm A) (s t : Store) (e : Finish AlgorithmFault (Answer A)) → refines p s t e
    → At s.heap global_object.0 → At t.heap global_object.0
stays_on (End a) s t e first at = subst (λ (u : Store). At u.heap global_object.0) first.1 at
stays_on (Fail f) s t e first at = subst (λ (u : Store). At u.heap global_object.0) first.1 at
stays_on (Step p) s t e first at = absurd first
stays_on (Look p) s t e first at = stays_on (p s) s t e first at
stays_on (Change c p) s t e first at = stays_on p (after c s) t e first (stays_changed c s at)
stays_on (Begin job p) s t e first at = absurd first
stays_on (Print line p) s t e first at = absurd first
stays_on (Perform o p) s t e first at = absurd o
stays_on (Emit o p) s t e first at = absurd o

pub global_stays : {A : Type 0} {p : Algorithm A} {s t : Store} {e : Finish AlgorithmFault (Answer A)} → BigStep p s t e
    → HasGlobalObject s → HasGlobalObject t
global_stays {A} {p} {s} {t} {e} comes has =
    record { ordinary = (stays_on p s t e comes.refines (record { ordinary = has.ordinary })).ordinary }
