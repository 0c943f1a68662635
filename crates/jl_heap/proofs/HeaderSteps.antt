-- What a heap is seen as after the header of one object changed.
use Rattle.std.proofs.Common.{◌≡◌, ◌∙◌, ℕ, zero, suc, ◌≤◌, false, not, ◌||◌, List, [], ◌∷◌, ◌++◌, length, get_or, take}
use Rattle.std.proofs.Common.{drop, refl, ap, sym, subst}
use Rattle.std.proofs.Math.ListN.{set}
use Rattle.std.specs.Prelude.{IsTrue, Option, None, Some, is_some, slice_get}
use Rattle.std.specs.List.{refill}
use Rattle.std.proofs.lemmas.List.{length-set, set_past}
use Rattle.jl_props.specs.Store.{entries_of}
use Rattle.jl_props.specs.declared.entries.Entry.{Entry}
use Rattle.jl_value.specs.declared.object.Class.TheVariants as class
use Rattle.jl_heap.specs.Define.{is_array}
use Rattle.jl_heap.specs.Inside.{IsKept, is_array_header, is_in_order, is_older, objects_inside}
use Rattle.jl_heap.specs.Objects.{Object, Objects, absent_object, object_at, with_object}
use Rattle.jl_heap.specs.View.{object_of, objects_of}
use Rattle.jl_heap.specs.declared.header.Header.{Header}
use Rattle.jl_heap.specs.declared.heap.Heap.TheInside.{Inside}
use Rattle.jl_heap.specs.declared.inner.Inner.TheVariants.{Nothing}
use Rattle.jl_heap.specs.declared.property.Prop.{Prop}
use Rattle.jl_heap.proofs.Puts.{Within, within_or_past, inside, past}
use Rattle.jl_heap.proofs.Seen.{length-objects_of, objects_of-at, objects_of-set}

pub no_header : Header
no_header = record { class = class.Object; proto = None; extensible = false; inner = Nothing }

-- what holds at each place of a list, and stays where an item is changed, holds at each place after it
each_changed : {A : Type 0} (P : ℕ → Option A → Type 0) (xs : List A) (k : ℕ) (f : A → A) (d : A)
    → ((j : ℕ) → P j (slice_get xs j)) →
    ((j : ℕ) (x : A) → P j (Some x) → P j (Some (f x))) → (j : ℕ) → P j (slice_get (set xs k (f (get_or xs k d))) j)
each_changed P [] k f d old step j = old j
each_changed P (x ∷ xs) zero f d old step zero = step 0 x (old 0)
each_changed P (x ∷ xs) zero f d old step (suc j) = old (suc j)
each_changed P (x ∷ xs) (suc k) f d old step zero = old 0
each_changed P (x ∷ xs) (suc k) f d old step (suc j) =
    each_changed (λ i. P (suc i)) xs k f d (λ i. old (suc i)) (λ i. step (suc i)) j

module _ (a : Inside) (k : ℕ) (f : Header → Header) (class_stays : (h : Header) → (f h).class ≡ h.class)
    (proto_stays : (h : Header) → (f h).proto ≡ h.proto) (hs : List Header)
    (changed : hs ≡ set a.headers k (f (get_or a.headers k no_header))) where
  pub kept_changed : IsKept a → IsKept (record a { headers = hs })
  kept_changed kept =
      subst (λ l. IsKept (record a { headers = l })) (sym changed)
      (record {
        older = each_changed (λ j o. IsTrue (is_in_order j o)) a.headers k f no_header kept.older
            (λ j h older. subst (λ p. IsTrue (is_older j p)) (sym (proto_stays h)) older);
        none_past = λ j past. kept.none_past j (subst (λ n. n ≤ j) (length-set a.headers k _) past);
        named = each_changed (λ j o. IsTrue (not (is_array_header o) || is_some a.length_name)) a.headers k f no_header
            kept.named
            (λ j h named. subst (λ c. IsTrue (not (is_array c) || is_some a.length_name)) (sym (class_stays h)) named);
        right = kept.right;
      })

  objects_changed : (F : Object → Object) (p : ℕ → List (Entry Prop))
      → ((h : Header) (es : List (Entry Prop)) → F (object_of h es) ≡ object_of (f h) es) →
      Within a.headers k →
      objects_of (set a.headers k (f (get_or a.headers k no_header))) p
      ≡ set (objects_of a.headers p) k (F (get_or (objects_of a.headers p) k absent_object))
  objects_changed F p same (inside i) =
      objects_of-set a.headers p k _
      ∙ ap (λ o. set (objects_of a.headers p) k o)
      (sym (same (get_or a.headers k no_header) (p k))
      ∙ ap F (sym (objects_of-at a.headers p k absent_object no_header i)))
  objects_changed F p same (past i) =
      ap (λ l. objects_of l p) (set_past a.headers k _ i)
      ∙ sym (set_past (objects_of a.headers p) k _ (subst (λ n. n ≤ k) (sym (length-objects_of a.headers p)) i))

  pub seen_changed : (heap : Objects) (F : Object → Object) → objects_inside a ≡ heap →
      ((h : Header) (es : List (Entry Prop)) → F (object_of h es) ≡ object_of (f h) es) →
      objects_inside (record a { headers = hs }) ≡ with_object heap k (F (object_at heap k))
  seen_changed heap F seen same =
      ap (λ l. objects_inside (record a { headers = l })) changed
      ∙ ap (λ l. record (objects_inside a) { objects = l })
      (objects_changed F (entries_of a.properties) same (within_or_past a.headers k))
      ∙ ap (λ g. with_object g k (F (object_at g k))) seen

take_front : {A : Type 0} (xs ys : List A) → take (length xs) (xs ++ ys) ≡ xs
take_front [] ys = refl
take_front (x ∷ xs) ys = ap (λ l. x ∷ l) (take_front xs ys)

-- headers that were lent and changed come back as they are
pub come_back : (headers lent after : List Header) (k : ℕ) (h : Header) → lent ≡ headers → after ≡ set lent k h →
    refill (length headers) headers after ≡ set headers k h
come_back headers lent after k h lent_is after_is =
    let changed : after ≡ set headers k h = after_is ∙ ap (λ l. set l k h) lent_is in
    ap (λ n. take n (after ++ drop (length after) headers)) (sym (length-set headers k h) ∙ ap length (sym changed))
    ∙ take_front after (drop (length after) headers)
    ∙ changed
