-- What a heap is seen as after an object was added.
use Rattle.std.proofs.Common.{◌≡◌, ◌∙◌, ℕ, zero, suc, ◌+◌, Bool, true, false, not, ◌||◌, List, [], ◌∷◌, ◌++◌, length}
use Rattle.std.proofs.Common.{get_or, refl, ap, sym, subst, arith, length-append}
use Rattle.std.specs.Prelude.{IsTrue, MatchOption, OnErr, OnOk, Option, None, Some, Result, Ok, Err, is_some, slice_get}
use Rattle.std.specs.Str.{bytes_eq}
use Rattle.jl_props.specs.Entries.{with_new}
use Rattle.jl_props.specs.Store.{Changes, IsUnchanged, Properties, entries_of}
use Rattle.jl_props.specs.declared.entries.Entry.{Entry}
use Rattle.jl_heap.specs.Define.{is_array, length_name, with_new_property}
use Rattle.jl_heap.specs.Inside.{IsKept, is_array_header, is_in_order, is_older, objects_inside}
use Rattle.jl_heap.specs.Objects.{Object, Objects, absent_object, with_properties}
use Rattle.jl_heap.specs.View.{object_of, objects_of}
use Rattle.jl_heap.specs.declared.header.Header.{Header}
use Rattle.jl_heap.specs.declared.heap.Heap.TheInside.{Inside}
use Rattle.jl_heap.specs.declared.property.Prop.{Prop}
use Rattle.jl_heap.proofs.InsideLemmas.{no_entries, seen_put}
use Rattle.jl_heap.proofs.Items.{bytes_eq-same}
use Rattle.jl_heap.proofs.Seen.{length-objects_of, objects_of-push, objects_of-same}

-- what holds at each place of a list, and at the next place for one more item, holds at each place of the longer list
pub each_pushed : {A : Type 0} (P : ℕ → Option A → Type 0) (xs : List A) (x : A) → ((k : ℕ) → P k (slice_get xs k)) →
    P (length xs) (Some x) → (k : ℕ) → P k (slice_get (xs ++ x ∷ []) k)
each_pushed P [] x old new zero = new
each_pushed P [] x old new (suc k) = old (suc k)
each_pushed P (y ∷ ys) x old new zero = old zero
each_pushed P (y ∷ ys) x old new (suc k) = each_pushed (λ j. P (suc j)) ys x (λ j. old (suc j)) new k

-- a list without its last item
front : {A : Type 0} → List A → List A
front [] = []
front (x ∷ []) = []
front (x ∷ y ∷ ys) = x ∷ front (y ∷ ys)

front-push : {A : Type 0} (xs : List A) (x : A) → front (xs ++ x ∷ []) ≡ xs
unfolding front
front-push [] x = refl
front-push (y ∷ []) x = refl
front-push (y ∷ z ∷ zs) x = ap (λ l. y ∷ l) (front-push (z ∷ zs) x)

-- an item that was added and taken off leaves what was there
pub popped : {A : Type 0} (xs ys zs : List A) (x : A) (last : Option A) → ys ≡ xs ++ x ∷ [] →
    MatchOption last ((ys ≡ []) × (zs ≡ [])) (λ l. ys ≡ zs ++ l ∷ []) → zs ≡ xs
popped xs ys zs x None pushed off =
    absurd (omega (arith, ap length pushed, ap length off.0, length-append xs (x ∷ [])))
popped xs ys zs x (Some l) pushed off =
    sym (front-push zs l) ∙ ap front (sym off) ∙ ap front pushed ∙ front-push xs x

or_true : (b : Bool) → IsTrue (b || true)
or_true true = refl
or_true false = refl

module _ (a : Inside) (h : Header) (kept : IsKept a) (older : IsTrue (is_older (length a.headers) h.proto)) where
  kept_plain : is_array h.class ≡ false → IsKept (record a { headers = a.headers ++ h ∷ [] })
  kept_plain plain = record {
    older = each_pushed (λ k o. IsTrue (is_in_order k o)) a.headers h kept.older older;
    none_past = λ k past. kept.none_past k (omega (arith, past, length-append a.headers (h ∷ [])));
    named = each_pushed (λ k o. IsTrue (not (is_array_header o) || is_some a.length_name)) a.headers h kept.named
        (rw plain refl);
    right = kept.right;
  }

  pub kept_pushed : {T E : Type 0} (r : Result T E) (hs : List Header) → is_array h.class ≡ false →
      OnOk r (hs ≡ a.headers ++ h ∷ []) → OnErr r (hs ≡ a.headers) → IsKept (record a { headers = hs })
  kept_pushed (Ok x) hs plain ok err = subst (λ l. IsKept (record a { headers = l })) (sym ok) (kept_plain plain)
  kept_pushed (Err e) hs plain ok err = subst (λ l. IsKept (record a { headers = l })) (sym err) kept

  pub kept_array : (hs : List Header) (p : Properties Prop) (es : List (Entry Prop)) (next : ℕ) (name : List ℕ)
      → hs ≡ a.headers ++ h ∷ [] →
      Changes a.properties p (length a.headers) es next → name ≡ length_name →
      IsKept (record a { headers = hs; properties = p; length_name = Some name })
  kept_array hs p es next name hs_is changes name_is =
      subst (λ l. IsKept (record a { headers = l; properties = p; length_name = Some name })) (sym hs_is)
      (record {
        older = each_pushed (λ k o. IsTrue (is_in_order k o)) a.headers h kept.older older;
        none_past = λ k past.
            ap length (changes.others k (λ e. omega (arith, e, past, length-append a.headers (h ∷ []))))
            ∙ kept.none_past k (omega (arith, past, length-append a.headers (h ∷ [])));
        named = λ k. or_true (not (is_array_header (slice_get (a.headers ++ h ∷ []) k)));
        right = subst (λ n. IsTrue (bytes_eq n length_name)) (sym name_is) (bytes_eq-same length_name);
      })

module _ (a : Inside) (h : Header) (kept : IsKept a) (heap : Objects) (seen : objects_inside a ≡ heap) where
  more : Objects
  more = record heap { objects = heap.objects ++ object_of h [] ∷ [] }

  bare : entries_of a.properties (length a.headers) ≡ []
  bare = no_entries _ (kept.none_past (length a.headers) (omega arith))

  seen_plain : objects_inside (record a { headers = a.headers ++ h ∷ [] })
      ≡ record heap { objects = heap.objects ++ object_of h [] ∷ [] }
  seen_plain =
      ap (λ l. record (objects_inside a) { objects = l })
      (objects_of-push a.headers (entries_of a.properties) h
      ∙ ap (λ es. objects_of a.headers (entries_of a.properties) ++ object_of h es ∷ []) bare)
      ∙ ap (λ (g : Objects). record g { objects = g.objects ++ object_of h [] ∷ [] }) seen

  pub seen_pushed : {T E : Type 0} (r : Result T E) (hs : List Header) → OnOk r (hs ≡ a.headers ++ h ∷ []) →
      OnOk r (objects_inside (record a { headers = hs })
      ≡ record heap { objects = heap.objects ++ object_of h [] ∷ [] })
  seen_pushed (Ok x) hs e = ap (λ l. objects_inside (record a { headers = l })) e ∙ seen_plain
  seen_pushed (Err x) hs e = tt

  last_object : (os : List Object) (o : Object) → get_or (os ++ o ∷ []) (length os) absent_object ≡ o
  last_object [] o = refl
  last_object (p ∷ os) o = last_object os o

  places : length heap.objects ≡ length a.headers
  places = ap (λ (g : Objects). length g.objects) (sym seen) ∙ length-objects_of a.headers (entries_of a.properties)

  pub seen_array : (hs : List Header) (p : Properties Prop) (n : List ℕ) (item : Prop) (name : Option (List ℕ))
      → hs ≡ a.headers ++ h ∷ [] → n ≡ length_name →
      Changes a.properties p (length a.headers)
      (with_new (entries_of a.properties (length a.headers)) n a.properties.next item) (a.properties.next + 1) →
      objects_inside (record a { headers = hs; properties = p; length_name = name })
      ≡ with_new_property (record heap { objects = heap.objects ++ object_of h [] ∷ [] }) (length heap.objects)
      length_name item
  seen_array hs p n item name hs_is n_is changes =
      let b : Inside = record a { headers = a.headers ++ h ∷ [] } in
      let k = length a.headers in
      let wider = λ (g : Objects) (es : List (Entry Prop)) (m : ℕ). with_properties (record g { next = m + 1 }) k
      (with_new es n m item) in
      ap (λ l. objects_inside (record a { headers = l; properties = p })) hs_is
      ∙ seen_put b p k _ _ changes
      ∙ ap (λ es. wider (objects_inside b) es a.properties.next) bare
      ∙ ap (λ (g : Objects). wider g [] g.next) seen_plain
      ∙ ap (λ (o : Object). wider (record heap { objects = heap.objects ++ object_of h [] ∷ [] }) o.properties
      heap.next)
      (sym (last_object heap.objects (object_of h [])))
      ∙ ap (λ j. with_properties (record heap { objects = heap.objects ++ object_of h [] ∷ []; next = heap.next + 1 }) k
      (with_new (get_or (heap.objects ++ object_of h [] ∷ []) (length heap.objects) absent_object).properties j
      heap.next item)) n_is
      ∙ ap (λ j. with_properties (record heap { objects = heap.objects ++ object_of h [] ∷ []; next = heap.next + 1 }) j
      (with_new (get_or (heap.objects ++ object_of h [] ∷ []) (length heap.objects) absent_object).properties
      length_name heap.next item)) (sym places)

-- a header that was added and taken off, and a store that stayed, are seen as before
pub seen_back : (a : Inside) (heap : Objects) (hs : List Header) (p : Properties Prop) → objects_inside a ≡ heap
    → hs ≡ a.headers → IsUnchanged a.properties p →
    objects_inside (record a { headers = hs; properties = p }) ≡ heap
seen_back a heap hs p seen hs_is same =
    ap (λ l. objects_inside (record a { headers = l; properties = p })) hs_is
    ∙ ap (λ l. record (objects_inside a) { objects = l; next = p.next })
    (objects_of-same a.headers (entries_of p) (entries_of a.properties) same.entries)
    ∙ ap (λ n. record (objects_inside a) { next = n }) same.next_serial
    ∙ seen

pub kept_back : (a : Inside) (hs : List Header) (p : Properties Prop) → IsKept a → hs ≡ a.headers
    → IsUnchanged a.properties p →
    IsKept (record a { headers = hs; properties = p })
kept_back a hs p kept hs_is same =
    subst (λ l. IsKept (record a { headers = l; properties = p })) (sym hs_is)
    (record {
      older = kept.older;
      none_past = λ k past. ap length (same.entries k) ∙ kept.none_past k past;
      named = kept.named;
      right = kept.right;
    })
