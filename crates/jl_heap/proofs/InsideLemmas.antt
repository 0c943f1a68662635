-- What a heap is seen as, place by place.
use Rattle.std.proofs.Common.{◌≡◌, ℕ, zero, suc, ◌≤◌, Bool, true, false, List, [], ◌∷◌, length, refl, ap, sym, ◌∙◌}
use Rattle.std.proofs.Common.{subst, eqb, arith}
use Rattle.std.proofs.lemmas.Bool.{eqb-true, eqb-false}
use Rattle.std.specs.Prelude.{Option, Some, None, slice_get}
use Rattle.std.specs.Option.{option_map}
use Rattle.jl_props.specs.Entries.{entry_named}
use Rattle.std.proofs.lemmas.Option.{get_or_from_slice_get, slice_get_within}
use Rattle.jl_props.specs.declared.entries.Entry.{Entry}
use Rattle.jl_props.specs.Store.{Changes, Properties, entries_of, item_of}
use Rattle.jl_props.specs.Store as store
use Rattle.jl_heap.specs.Inside.{objects_inside, IsKept}
use Rattle.jl_heap.specs.Objects.{Object, Objects, object_at, own, serial_of, absent_object, with_properties}
use Rattle.jl_heap.specs.View.{object_of, HasHeader}
use Rattle.jl_heap.specs.declared.header.Header.{Header}
use Rattle.jl_heap.specs.declared.heap.Heap.TheInside.{Inside}
use Rattle.jl_heap.specs.declared.property.Prop.{Prop}
use Rattle.jl_heap.proofs.Seen.{objects_of-at, objects_of-past, objects_of-put}

-- a look-up that finds nothing is past the end
pub slice_get-None : {A : Type 0} (xs : List A) (k : ℕ) → slice_get xs k ≡ None → length xs ≤ k
slice_get-None [] k e = omega arith
slice_get-None (x ∷ xs) zero e = cc
slice_get-None (x ∷ xs) (suc k) e = let i = slice_get-None xs k e in omega arith

-- the object at a place is made of the header and the properties there
pub object_at-there : (a : Inside) (k : ℕ) (h : Header) → slice_get a.headers k ≡ Some h →
    object_at (objects_inside a) k ≡ object_of h (entries_of a.properties k)
object_at-there a k h e =
    objects_of-at a.headers (entries_of a.properties) k absent_object h (slice_get_within a.headers k h e)
    ∙ ap (λ i. object_of i (entries_of a.properties k)) (get_or_from_slice_get a.headers k h h e)

pub object_at-past : (a : Inside) (k : ℕ) → slice_get a.headers k ≡ None → object_at (objects_inside a) k
    ≡ absent_object
object_at-past a k e = objects_of-past a.headers (entries_of a.properties) k absent_object
    (slice_get-None a.headers k e)

pub no_entries : (es : List (Entry Prop)) → length es ≡ 0 → es ≡ []
no_entries [] e = refl
no_entries (x ∷ es) e = absurd (omega (arith, e))

properties_by : (a : Inside) (k : ℕ) → IsKept a → (found : Option Header) → slice_get a.headers k ≡ found →
    (object_at (objects_inside a) k).properties ≡ entries_of a.properties k
properties_by a k kept None e =
    ap (λ (o : Object). o.properties) (object_at-past a k e)
    ∙ sym (no_entries _ (kept.none_past k (slice_get-None a.headers k e)))
properties_by a k kept (Some h) e = ap (λ (o : Object). o.properties) (object_at-there a k h e)

-- the properties at a place are those that the store has for it
pub properties_at : (a : Inside) (k : ℕ) → IsKept a →
    (object_at (objects_inside a) k).properties ≡ entries_of a.properties k
properties_at a k kept = properties_by a k kept (slice_get a.headers k) refl

-- what the store has under a name is the own property
pub own_is : (a : Inside) (heap : Objects) (k : ℕ) (name : List ℕ) → IsKept a → objects_inside a ≡ heap →
    item_of a.properties k name ≡ own heap k name
own_is a heap k name kept seen =
    ap (λ es. option_map (λ (e : Entry Prop). e.item) (entry_named name es)) (sym (properties_at a k kept))
    ∙ ap (λ h. own h k name) seen

pub serial_is : (a : Inside) (heap : Objects) (k : ℕ) (name : List ℕ) → IsKept a → objects_inside a ≡ heap →
    store.serial_of a.properties k name ≡ serial_of heap k name
serial_is a heap k name kept seen =
    ap (λ es. option_map (λ (e : Entry Prop). e.serial) (entry_named name es)) (sym (properties_at a k kept))
    ∙ ap (λ h. serial_of h k name) seen

-- the object at a place is made of the header there and its properties, or nobody
header_by : (a : Inside) (k : ℕ) → (found : Option Header) → slice_get a.headers k ≡ found
    → HasHeader (object_at (objects_inside a) k) found
header_by a k None e = object_at-past a k e
header_by a k (Some h) e =
    let there = object_at-there a k h e in
    there ∙ ap (λ (o : Object). object_of h o.properties) (sym there)

pub header_is : (a : Inside) (heap : Objects) (k : ℕ) (found : Option Header) → objects_inside a ≡ heap
    → found ≡ slice_get a.headers k → HasHeader (object_at heap k) found
header_is a heap k found seen e =
    subst (λ h. HasHeader (object_at h k) found) seen (header_by a k found (sym e))

-- a heap whose store changed at one object is seen with these properties there
pub seen_put : (a : Inside) (p : Properties Prop) (k : ℕ) (es : List (Entry Prop)) (next : ℕ)
    → Changes a.properties p k es next →
    objects_inside (record a { properties = p }) ≡ with_properties (record (objects_inside a) { next = next }) k es
seen_put a p k es next changes =
    let put = objects_of-put a.headers (entries_of a.properties) (entries_of p) k absent_object changes.others in
    let here = changes.here in
    let next_is = changes.next_serial in
    cc

pub kept_put : (a : Inside) (p : Properties Prop) (k : ℕ) (es : List (Entry Prop)) (next : ℕ) → IsKept a
    → Changes a.properties p k es next →
    (length a.headers ≤ k → length es ≡ 0) → IsKept (record a { properties = p })
kept_put a p k es next kept changes none = record {
  older = kept.older;
  none_past = λ j past. at j past (eqb j k) refl;
  named = kept.named;
  right = kept.right;
}
  where
    at : (j : ℕ) → length a.headers ≤ j → (same : Bool) → eqb j k ≡ same → length (entries_of p j) ≡ 0
    at j past true e =
        let same = eqb-true j k e in
        ap (λ i. length (entries_of p i)) same ∙ ap length changes.here
        ∙ none (subst (λ i. length a.headers ≤ i) same past)
    at j past false e = ap length (changes.others j (eqb-false j k e)) ∙ kept.none_past j past
