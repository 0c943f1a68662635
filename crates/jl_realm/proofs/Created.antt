-- What a declaration makes of the global object: a property that can be written.
use Rattle.std.proofs.Common.{◌≡◌, ◌∙◌, ℕ, ◌+◌, ◌<◌, Bool, true, false, not, ◌&&◌, List, [], ◌∷◌, refl, ap, sym}
use Rattle.std.proofs.Common.{ap₂, length, subst}
use Rattle.std.specs.Option.{option_and_then, option_map, option_or}
use Rattle.std.specs.Prelude.{if◌then◌else◌, slice_get, None, Option, Some}
use Rattle.jl_props.specs.Entries.{has_name, with_item, with_new}
use Rattle.jl_props.specs.declared.entries.Entry.{Entry}
use Rattle.jl_value.specs.Indices.{index_of}
use Rattle.jl_value.specs.Same.{same_value}
use Rattle.jl_value.specs.declared.value.Value.TheVariants as value
use Rattle.jl_heap.specs.Define.{define_on, is_writable, store_property}
use Rattle.jl_heap.specs.Define.{with_new_property, with_property}
use Rattle.jl_heap.specs.Define as heaps
use Rattle.jl_heap.specs.Objects.{object_at, own, own_or_unit, unit_property, units_of, Name, Objects}
use Rattle.jl_heap.specs.Property.{is_configurable, is_refused, is_same, new_property, property_after, other_kind}
use Rattle.jl_heap.specs.Property.{turns, with_fields}
use Rattle.jl_heap.specs.declared.property.Change as asked
use Rattle.jl_heap.specs.declared.property.Defined.{Defined}
use Rattle.jl_heap.specs.declared.property.Defined.TheVariants.{Done, Rejected}
use Rattle.jl_heap.specs.declared.property.Prop.{Prop}
use Rattle.jl_heap.specs.declared.property.Prop.TheVariants.{Accessor, Plain}
use Rattle.jl_heap.proofs.ChainLemmas.{or_none}
use Rattle.jl_heap.proofs.Items.{bytes_eq-same, item_in}
use Rattle.jl_heap.proofs.Puts.{own-put}
use Rattle.jl_meaning.specs.Defining.{is_done, no_change}
use Rattle.jl_realm.specs.Global.{IsOrdinary}
use Rattle.jl_realm.proofs.Ordinary.{define_is, is_there}

-- what a declaration asks for (10.2.1.2.2)
abbrev pub created : asked.Change
created = record no_change {
  value = Some value.Undefined;
  writable = Some true;
  enumerable = Some true;
  configurable = Some false;
}

-- an ordinary object has the properties that are stored, and no others
no_unit : (i : Option ℕ) → option_map unit_property (option_and_then (λ k. slice_get [] k) i) ≡ None
no_unit None = refl
no_unit (Some i) = refl

pub own_alone : (h : Objects) (k : ℕ) (x : Name) → IsOrdinary (object_at h k) → own_or_unit h k x ≡ own h k x
own_alone h k x ordinary =
    let units : units_of (object_at h k).class (object_at h k).inner ≡ [] =
    ap₂ units_of ordinary.class ordinary.inner in
    ap (λ (us : List ℕ). option_or (own h k x)
    (option_map unit_property (option_and_then (λ i. slice_get us i) (index_of x)))) units
    ∙ ap (option_or (own h k x)) (no_unit (index_of x))
    ∙ or_none (own h k x)

module _ (x : Name) (p : Prop) where
  new_item : (serial : ℕ) (es : List (Entry Prop)) → item_in x es ≡ None → item_in x (with_new es x serial p) ≡ Some p
  new_item serial [] none = rw (bytes_eq-same x) refl
  new_item serial (e ∷ es) none = step (has_name x e) refl (new_item serial es)
    where
      step : (same : Bool) → has_name x e ≡ same
          → (item_in x es ≡ None → item_in x (with_new es x serial p) ≡ Some p)
          → item_in x (with_new (e ∷ es) x serial p) ≡ Some p
      step true is rest = let found : Some e.item ≡ None = (rw is at none) in cc
      step false is rest = rw is (rest (rw is at none))

  changed_item : (q : Prop) (es : List (Entry Prop)) → item_in x es ≡ Some q → item_in x (with_item es x p) ≡ Some p
  changed_item q [] there = let found : None ≡ Some q = there in cc
  changed_item q (e ∷ es) there = step (has_name x e) refl (changed_item q es)
    where
      step : (same : Bool) → has_name x e ≡ same → (item_in x es ≡ Some q → item_in x (with_item es x p) ≡ Some p)
          → item_in x (with_item (e ∷ es) x p) ≡ Some p
      step true is rest = rw (is, is) refl
      step false is rest = rw (is, is) (rest (rw is at there))

abbrev pick : Bool → Objects × Defined → Objects × Defined → Objects × Defined
pick b y z = if b then y else z

no_false : (a : Bool) → (a && false) ≡ true → false ≡ true
no_false true is = is
no_false false is = is

-- a property that is as a declaration asks for can be written
same_writable : (p : Prop) → is_same p created ≡ true → is_writable (Some p) ≡ true
same_writable (Plain v true e c) same = refl
same_writable (Plain v false e c) same = no_false (same_value value.Undefined v) same
same_writable (Accessor get set e c) same = same

module _ (h : Objects) (k : ℕ) (x : Name) (within : k < length h.objects) where
  abbrev IsDone : Objects × Defined → Type 0
  IsDone r = is_done r.1 ≡ true

  abbrev Writes : Objects × Defined → Type 0
  Writes r = is_writable (own r.0 k x) ≡ true

  put_so : (p q : Prop) → own h k x ≡ Some q → own (with_property h k x p) k x ≡ Some p
  put_so p q there = own-put h k _ x within ∙ changed_item x p q (object_at h k).properties there

  added_so : (p : Prop) → own h k x ≡ None → own (with_new_property h k x p) k x ≡ Some p
  added_so p none =
      own-put (record h { next = h.next + 1 }) k _ x within ∙ new_item x p h.next (object_at h k).properties none

  by_new : (extensible : Bool) → own h k x ≡ None
      → IsDone (pick extensible (with_new_property h k x (new_property created), Done) (h, Rejected))
      → Writes (pick extensible (with_new_property h k x (new_property created), Done) (h, Rejected))
  by_new true none done = ap is_writable (added_so (new_property created) none)
  by_new false none done = let no : false ≡ true = done in cc

  abbrev revised_so : Bool → Prop → Option Prop
  revised_so refused p = if refused then None else Some
      (with_fields (if turns p created then other_kind p else p) created)

  by_revised : (refused : Bool) (p : Prop) → own h k x ≡ Some p → IsDone (store_property h k x (revised_so refused p))
      → Writes (store_property h k x (revised_so refused p))
  by_revised true p there done = let no : false ≡ true = done in cc
  by_revised false (Plain v w e c) there done = ap is_writable (put_so _ _ there)
  by_revised false (Accessor get set e c) there done = ap is_writable (put_so _ _ there)

  by_same : (same : Bool) (p : Prop) → is_same p created ≡ same → own h k x ≡ Some p
      → IsDone (pick same (h, Done) (store_property h k x (property_after p created)))
      → Writes (pick same (h, Done) (store_property h k x (property_after p created)))
  by_same true p is there done = ap is_writable there ∙ same_writable p is
  by_same false p is there done = by_revised (not (is_configurable p) && is_refused p created) p there done

  by_present : (o : Option Prop) → own h k x ≡ o → IsDone (define_on h k x created o)
      → Writes (define_on h k x created o)
  by_present None none done = by_new (object_at h k).extensible none done
  by_present (Some p) there done = by_same (is_same p created) p refl there done

-- where a declaration is done, its property can be written
pub created_writable : (h : Objects) (k : ℕ) (x : Name) → IsOrdinary (object_at h k)
    → is_done (heaps.define_own_property h k x created).1 ≡ true
    → is_writable (own (heaps.define_own_property h k x created).0 k x) ≡ true
created_writable h k x ordinary done =
    let is : heaps.define_own_property h k x created ≡ define_on h k x created (own h k x) =
    define_is h k x created ordinary.class ∙ ap (define_on h k x created) (own_alone h k x ordinary) in
    let by = by_present h k x (is_there h k ordinary) (own h k x) refl
    (subst (λ (r : Objects × Defined). is_done r.1 ≡ true) is done) in
    subst (λ (r : Objects × Defined). is_writable (own r.0 k x) ≡ true) (sym is) by
