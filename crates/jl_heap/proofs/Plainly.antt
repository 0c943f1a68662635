-- What a change as on an object that is no array leaves as it was.
use Rattle.std.proofs.Common.{◌≡◌, ◌≢◌, ℕ, ◌+◌, ◌<◌, Bool, true, false, List, refl, ap, subst, sym}
use Rattle.std.specs.Prelude.{IsSome, IsTrue, Option, None, Some, if◌then◌else◌}
use Rattle.std.specs.Option.{option_map}
use Rattle.jl_value.specs.Indices.{index_of}
use Rattle.jl_value.proofs.Numerals.{index_of_is}
use Rattle.jl_heap.specs.Define.{is_array, length_name, define_on, define_ordinary, store_property, with_new_property}
use Rattle.jl_heap.specs.Define.{with_property}
use Rattle.jl_heap.specs.Objects.{Objects, object_at, own, own_or_unit}
use Rattle.jl_heap.specs.Property.{is_same, new_property, property_after}
use Rattle.jl_heap.specs.declared.property.Change.{Change}
use Rattle.jl_heap.specs.declared.property.Defined.{Defined}
use Rattle.jl_heap.specs.declared.property.Defined.TheVariants.{Done, Rejected}
use Rattle.jl_heap.specs.declared.property.Prop.{Prop}
use Rattle.jl_heap.proofs.Puts.{class-put, own-with_new_property, own-with_property}

abbrev pick : Bool → Objects × Defined → Objects × Defined → Objects × Defined
pick b x y = if b then x else y

-- a fact of the objects before and after a change holds if it holds where nothing, a new property or a stored one comes
module _ (h : Objects) (k : ℕ) (n : List ℕ) (P : Objects → Type 0) (same : P h)
    (added : (p : Prop) → P (with_new_property h k n p)) (put : (p : Prop) → P (with_property h k n p)) where
  by_stored : (o : Option Prop) → P (store_property h k n o).0
  by_stored None = same
  by_stored (Some p) = put p

  by_new : (b : Bool) (p : Prop) → P (pick b (with_new_property h k n p, Done) (h, Rejected)).0
  by_new true p = added p
  by_new false p = same

  by_same : (b : Bool) (o : Option Prop) → P (pick b (h, Done) (store_property h k n o)).0
  by_same true o = same
  by_same false o = by_stored o

  by_present : (c : Change) (o : Option Prop) → P (define_on h k n c o).0
  by_present c None = by_new (object_at h k).extensible (new_property c)
  by_present c (Some p) = by_same (is_same p c) (property_after p c)

  pub by_plainly : (c : Change) → P (define_ordinary h k n c).0
  by_plainly c = by_present c (own_or_unit h k n)

-- properties of other names stay
pub own-define_ordinary : (h : Objects) (k : ℕ) (n x : List ℕ) (c : Change) → x ≢ n →
    own (define_ordinary h k n c).0 k x ≡ own h k x
own-define_ordinary h k n x c ne =
    by_plainly h k n (λ g. own g k x ≡ own h k x) refl (λ p. own-with_new_property h k n x p ne)
    (λ p. own-with_property h k n x p ne) c

-- and so does the class of each object
pub class-define_ordinary : (h : Objects) (k j : ℕ) (n : List ℕ) (c : Change) →
    (object_at (define_ordinary h k n c).0 j).class ≡ (object_at h j).class
class-define_ordinary h k j n c =
    by_plainly h k n (λ g. (object_at g j).class ≡ (object_at h j).class) refl
    (λ p. class-put (record h { next = h.next + 1 }) k j _) (λ p. class-put h k j _) c

-- an array stays one
pub array-define_ordinary : (h g : Objects) (k : ℕ) (n : List ℕ) (c : Change) (d : Defined)
    → (g, d) ≡ define_ordinary h k n c →
    IsTrue (is_array (object_at h k).class) → IsTrue (is_array (object_at g k).class)
array-define_ordinary h g k n c d e array =
    let after : g ≡ (define_ordinary h k n c).0 = ap (λ (p : Objects × Defined). p.0) e in
    subst (λ o. IsTrue (is_array (object_at o k).class)) (sym after)
    (subst (λ o. IsTrue (is_array o)) (sym (class-define_ordinary h k k n c)) array)

pub length_is_no_index : index_of length_name ≡ None
unfolding length_name index_of
length_is_no_index = refl

pub index_is_not_length : (n : List ℕ) (i : ℕ) → index_of n ≡ Some i → length_name ≢ n
index_is_not_length n i e same = let f : index_of length_name ≡ index_of n = ap index_of same in
    let g = length_is_no_index in cc

-- and its `length` stays there where an element is defined
pub there-define_ordinary : (h g : Objects) (k : ℕ) (n : List ℕ) (c : Change) (d : Defined) (i : ℕ)
    → (g, d) ≡ define_ordinary h k n c →
    index_of n ≡ Some i → IsSome (own h k length_name) → IsSome (own g k length_name)
there-define_ordinary h g k n c d i e index there =
    let after : g ≡ (define_ordinary h k n c).0 = ap (λ (p : Objects × Defined). p.0) e in
    subst (λ o. IsSome (own o k length_name)) (sym after)
    (subst (λ o. IsSome o) (sym (own-define_ordinary h k n length_name c (index_is_not_length n i index))) there)

-- an index is below 2^32 - 1
pub index_below : (n : List ℕ) (i : ℕ) → index_of n ≡ Some i → i < 4294967295
index_below n i e = (index_of_is n i e).below

-- what is made of a property that is there shows that it is there
pub there_if : (b : Bool) (f : Prop → Prop) (o : Option Prop) (p : Prop) → (if b then option_map f o else None) ≡ Some p
    → IsSome o
there_if true f None p e = cc
there_if true f (Some q) p e = refl
there_if false f o p e = cc
