-- Where an array is, the name `length` is at hand.
use Rattle.std.proofs.Common.{◌≡◌, ℕ, Bool, true, false, not, ◌||◌, List, refl, sym, subst}
use Rattle.std.specs.Prelude.{IsTrue, Option, Some, None, is_some, slice_get}
use Rattle.std.specs.Option.{option_map_or}
use Rattle.std.specs.Str.{bytes_eq}
use Rattle.std.proofs.lemmas.Slice.Eq.{bytes_eq-Decides}
use Rattle.jl_heap.specs.Define.{is_array, length_name}
use Rattle.jl_heap.specs.Inside.{IsKept, is_array_header, objects_inside}
use Rattle.jl_heap.specs.Objects.{Object, Objects, object_at}
use Rattle.jl_heap.specs.declared.header.Header.{Header}
use Rattle.jl_heap.specs.declared.heap.Heap.TheInside.{Inside}
use Rattle.jl_heap.proofs.InsideLemmas.{object_at-past, object_at-there}

-- a name at hand is the name `length`
right_if : (found : Option (List ℕ)) (name : List ℕ) → found ≡ Some name →
    IsTrue (option_map_or (λ n. bytes_eq n length_name) found true) → name ≡ length_name
right_if None name e h = cc
right_if (Some n) name e h =
    subst (λ m. m ≡ length_name) (let f : n ≡ name = cc in f) ((bytes_eq-Decides n length_name).0 h)

pub right_name : (a : Inside) (name : List ℕ) → IsKept a → a.length_name ≡ Some name → name ≡ length_name
right_name a name kept e = right_if a.length_name name e kept.right

header_array : (a : Inside) (k : ℕ) (found : Option Header) → slice_get a.headers k ≡ found →
    IsTrue (is_array (object_at (objects_inside a) k).class) → IsTrue (is_array_header found)
header_array a k None e array = subst (λ (o : Object). IsTrue (is_array o.class)) (object_at-past a k e) array
header_array a k (Some h) e array = subst (λ (o : Object). IsTrue (is_array o.class)) (object_at-there a k h e) array

named_if : (array : Bool) (found : Option (List ℕ)) → IsTrue array → found ≡ None → IsTrue (not array || is_some found)
    → ⊥
named_if false found array e h = cc
named_if true None array e h = cc
named_if true (Some n) array e h = cc

-- there is a name at hand
pub named : (a : Inside) (heap : Objects) (k : ℕ) → IsKept a → objects_inside a ≡ heap
    → IsTrue (is_array (object_at heap k).class) →
    a.length_name ≡ None → ⊥
named a heap k kept seen array e =
    named_if _ _ (header_array a k (slice_get a.headers k) refl
    (subst (λ h. IsTrue (is_array (object_at h k).class)) (sym seen) array)) e (kept.named k)
