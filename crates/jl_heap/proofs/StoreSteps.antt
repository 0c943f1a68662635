-- What a heap is seen as after its store is changed.
use Rattle.std.proofs.Common.{◌≡◌, ℕ, ◌+◌, ◌<◌, ◌≤◌, List, [], length, ap, sym, ◌∙◌, arith}
use Rattle.std.specs.Prelude.{Result, Ok, Err, OnOk, OnErr}
use Rattle.jl_props.specs.Entries.{with_item, with_new, without}
use Rattle.jl_props.specs.Store.{Changes, IsUnchanged, Properties, entries_of}
use Rattle.jl_props.specs.declared.entries.Entry.{Entry}
use Rattle.jl_heap.specs.Define.{with_property, with_new_property}
use Rattle.jl_heap.specs.Inside.{IsKept, objects_inside}
use Rattle.jl_heap.specs.Objects.{Objects, object_at, with_properties}
use Rattle.jl_heap.specs.declared.heap.Heap.TheInside.{Inside}
use Rattle.jl_heap.specs.declared.property.Prop.{Prop}
use Rattle.jl_heap.proofs.InsideLemmas.{kept_put, no_entries, properties_at, seen_put}
use Rattle.jl_heap.proofs.Seen.{length-objects_of}

module _ (a : Inside) (p : Properties Prop) (k : ℕ) (name : List ℕ) (kept : IsKept a) where
  empty_past : length a.headers ≤ k → entries_of a.properties k ≡ []
  empty_past past = no_entries _ (kept.none_past k past)

  pub kept_replaced : (item : Prop)
      → Changes a.properties p k (with_item (entries_of a.properties k) name item) a.properties.next →
      IsKept (record a { properties = p })
  kept_replaced item changes =
      kept_put a p k _ _ kept changes (λ past. ap (λ es. length (with_item es name item)) (empty_past past))

  pub kept_removed : Changes a.properties p k (without (entries_of a.properties k) name) a.properties.next →
      IsKept (record a { properties = p })
  kept_removed changes = kept_put a p k _ _ kept changes (λ past. ap (λ es. length (without es name)) (empty_past past))

  pub kept_added : {T E : Type 0} (r : Result T E) (es : List (Entry Prop)) (next : ℕ)
      → k < length (objects_inside a).objects →
      OnOk r (Changes a.properties p k es next) → OnErr r (IsUnchanged a.properties p)
      → IsKept (record a { properties = p })
  kept_added (Ok x) es next within changes same =
      kept_put a p k es next kept changes
      (λ past. absurd (omega (arith, length-objects_of a.headers (entries_of a.properties))))
  kept_added (Err e) es next within changes same = record {
    older = kept.older;
    none_past = λ j past. ap length (same.entries j) ∙ kept.none_past j past;
    named = kept.named;
    right = kept.right;
  }

  module _ (heap : Objects) (seen : objects_inside a ≡ heap) where
    pub seen_replaced : (item : Prop)
        → Changes a.properties p k (with_item (entries_of a.properties k) name item) a.properties.next →
        objects_inside (record a { properties = p }) ≡ with_property heap k name item
    seen_replaced item changes =
        seen_put a p k _ _ changes
        ∙ ap (λ es. with_properties (objects_inside a) k (with_item es name item)) (sym (properties_at a k kept))
        ∙ ap (λ h. with_property h k name item) seen

    pub seen_removed : Changes a.properties p k (without (entries_of a.properties k) name) a.properties.next →
        objects_inside (record a { properties = p })
        ≡ with_properties heap k (without (object_at heap k).properties name)
    seen_removed changes =
        seen_put a p k _ _ changes
        ∙ ap (λ es. with_properties (objects_inside a) k (without es name)) (sym (properties_at a k kept))
        ∙ ap (λ h. with_properties h k (without (object_at h k).properties name)) seen

    seen_new : (item : Prop) →
        Changes a.properties p k (with_new (entries_of a.properties k) name a.properties.next item)
        (a.properties.next + 1) →
        objects_inside (record a { properties = p }) ≡ with_new_property heap k name item
    seen_new item changes =
        seen_put a p k _ _ changes
        ∙ ap (λ es. with_properties (record (objects_inside a) { next = a.properties.next + 1 }) k
        (with_new es name a.properties.next item)) (sym (properties_at a k kept))
        ∙ ap (λ h. with_new_property h k name item) seen

    pub seen_added : {T E : Type 0} (r : Result T E) (item : Prop) →
        OnOk r (Changes a.properties p k (with_new (entries_of a.properties k) name a.properties.next item)
        (a.properties.next + 1)) →
        OnOk r (objects_inside (record a { properties = p }) ≡ with_new_property heap k name item)
    seen_added (Ok x) item changes = seen_new item changes
    seen_added (Err e) item changes = tt
