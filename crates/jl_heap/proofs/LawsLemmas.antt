-- What stays under every change and every delete.
use Rattle.std.proofs.Common.{◌≡◌, ◌≢◌, ◌∙◌, ℕ, ◌+◌, Bool, true, false, not, ◌&&◌, List, refl, ap, sym}
use Rattle.std.specs.Prelude.{Option, None, Some, nat_le, slice_get, if◌then◌else◌}
use Rattle.std.specs.Option.{option_and_then, option_map, option_or, unwrap_or}
use Rattle.std.specs.Str.{bytes_eq}
use Rattle.std.proofs.lemmas.Slice.Eq.{bytes_eq-Decides}
use Rattle.jl_props.specs.Entries.{without}
use Rattle.jl_props.specs.declared.entries.Entry.{Entry}
use Rattle.jl_value.specs.Indices.{index_of}
use Rattle.jl_value.specs.declared.object.Class.{Class}
use Rattle.jl_value.specs.declared.object.Class.TheVariants as class
use Rattle.jl_value.specs.declared.value.Value.{Value}
use Rattle.jl_heap.specs.Define.{IsOneKind, grow_length, count_of, define_own_property, defined_at, define_array_length}
use Rattle.jl_heap.specs.Define.{define_on, define_ordinary, defined_shorter, is_array, is_writable, kept_open}
use Rattle.jl_heap.specs.Define.{length_name, length_of, shortened_to, store_property, with_length}
use Rattle.jl_heap.specs.Laws.{KeepsObject}
use Rattle.jl_heap.specs.Objects.{Objects, delete_property, deleted_if, object_at, own, own_or_unit, unit_at}
use Rattle.jl_heap.specs.Objects.{unit_property, units_of, with_properties}
use Rattle.jl_heap.specs.Property.{is_configurable, is_same, property_after}
use Rattle.jl_heap.specs.declared.inner.Inner.{Inner}
use Rattle.jl_heap.specs.declared.property.Change.{Change}
use Rattle.jl_heap.specs.declared.property.Defined.{Defined}
use Rattle.jl_heap.specs.declared.property.Defined.TheVariants.{Done, Rejected}
use Rattle.jl_heap.specs.declared.property.Prop.{Prop}
use Rattle.jl_heap.proofs.ReadOnly.{define_ordinary-unit, unit_is}
use Rattle.jl_heap.proofs.Items.{bytes_eq-other, item_in-filter}
use Rattle.jl_heap.proofs.Plainly.{by_plainly}
use Rattle.jl_heap.proofs.Puts.{Within, inside, past, object_at-other, own-put, put_past, within_or_past}

abbrev pub Answer : Type 0
Answer = Objects × Defined

abbrev pub pick : Bool → Answer → Answer → Answer
pick b x y = if b then x else y

-- two names are the same or not
pub data Same (x y : List ℕ) : Type 0 where
  same : x ≡ y → Same x y
  other : x ≢ y → Same x y

pub same_or_other : (x y : List ℕ) → Same x y
same_or_other x y = by (bytes_eq x y) refl
  where
    by : (b : Bool) → bytes_eq x y ≡ b → Same x y
    by true e = same ((bytes_eq-Decides x y).0 e)
    by false e = other (λ equal. let f : bytes_eq x y ≡ true = (bytes_eq-Decides x y).1 equal in cc)

-- a fact that no write to the properties of one object ends holds after every change on it
module _ (h : Objects) (k : ℕ) (P : Objects → Type 0) (stays : P h) (next : P (record h { next = h.next + 1 }))
    (put : (g : Objects) (es : List (Entry Prop)) → P g → P (with_properties g k es)) where
  plainly : (n : List ℕ) (c : Change) → P (define_ordinary h k n c).0
  plainly n c = by_plainly h k n P stays (λ p. put _ _ next) (λ p. put h _ stays) c

  lengthened : (g : Objects) (i : ℕ) (l : Option Prop) → P g → P (with_length g k i l)
  lengthened g i None p = p
  lengthened g i (Some l) p = put g _ p

  counted_so : (i : ℕ) (l : Option Prop) (g : Objects) (d : Defined) (b : Bool) → nat_le (length_of l) i ≡ b → P g
      → P (grow_length k i l (g, d)).0
  counted_so i l g Rejected b e p = p
  counted_so i l g Done true e p = rw e (lengthened g (i + 1) l p)
  counted_so i l g Done false e p = rw e p

  element_if : (b : Bool) (n : List ℕ) (i : ℕ) (c : Change) (l : Option Prop)
      → P (pick b (h, Rejected) (grow_length k i l (define_ordinary h k n c))).0
  element_if true n i c l = stays
  element_if false n i c l =
      counted_so i l (define_ordinary h k n c).0 (define_ordinary h k n c).1 (nat_le (length_of l) i) refl (plainly n c)

  shorter_to : (low high : ℕ) (w : Bool) (q : Option Prop) → P (shortened_to h k low high w q).0
  shorter_to low high w None = stays
  shorter_to low high w (Some q) = put h _ stays

  shorter_if : (b : Bool) (low high : ℕ) (w : Bool) (q : Option Prop)
      → P (pick b (shortened_to h k low high w q) (h, Rejected)).0
  shorter_if true low high w q = shorter_to low high w q
  shorter_if false low high w q = stays

  shorter : (c : Change) (low : ℕ) (l : Option Prop) → P (defined_shorter h k c low l).0
  shorter c low None = stays
  shorter c low (Some p) =
      shorter_if (is_writable (Some p)) low (length_of (Some p)) (unwrap_or c.writable true)
      (property_after p (kept_open c))

  length_if : (b : Bool) (c : Change) (low : ℕ) (l : Option Prop)
      → P (pick b (define_ordinary h k length_name c) (defined_shorter h k c low l)).0
  length_if true c low l = plainly length_name c
  length_if false c low l = shorter c low l

  of_length : (c : Change) (v : Option Value) (l : Option Prop) → P (define_array_length h k c v l).0
  of_length c None l = plainly length_name c
  of_length c (Some v) l = length_if (nat_le (length_of l) (count_of v)) c (count_of v) l

  at : (n : List ℕ) (c : Change) (i : Option ℕ) → P (defined_at h k n c i).0
  at n c None = plainly n c
  at n c (Some i) =
      element_if (nat_le (length_of (own h k length_name)) i && not (is_writable (own h k length_name))) n i c
      (own h k length_name)

  named_if : (b : Bool) (n : List ℕ) (c : Change)
      → P (pick b (define_array_length h k c c.value (own h k length_name)) (defined_at h k n c (index_of n))).0
  named_if true n c = of_length c c.value (own h k length_name)
  named_if false n c = at n c (index_of n)

  array_if : (b : Bool) (n : List ℕ) (c : Change) →
      P (pick b (pick (bytes_eq n length_name) (define_array_length h k c c.value (own h k length_name))
      (defined_at h k n c (index_of n))) (define_ordinary h k n c)).0
  array_if true n c = named_if (bytes_eq n length_name) n c
  array_if false n c = plainly n c

  any_change : (n : List ℕ) (c : Change) → P (define_own_property h k n c).0
  any_change n c = array_if (is_array (object_at h k).class) n c

  delete_if : (b : Bool) (n : List ℕ)
      → P (let answer : Objects × Bool = if b then (with_properties h k (without (object_at h k).properties n), true)
      else (h, false) in answer.0)
  delete_if true n = put h _ stays
  delete_if false n = stays

  delete_on : (n : List ℕ) (p : Option Prop) → P (deleted_if h k n p).0
  delete_on n None = stays
  delete_on n (Some p) = delete_if (is_configurable p) n

  any_delete : (n : List ℕ) → P (delete_property h k n).0
  any_delete n = delete_on n (own_or_unit h k n)

pub keeps_object : (h : Objects) (k j : ℕ) (n : List ℕ) (c : Change) → j ≢ k → KeepsObject h k j n c
keeps_object h k j n c ne =
    let P = λ (g : Objects). object_at g j ≡ object_at h j in
    let put = λ (g : Objects) (es : List (Entry Prop)) (p : object_at g j ≡ object_at h j). object_at-other g k j es ne
    ∙ p in
    record { defined_there = any_change h k P refl refl put n c; deleted_there = any_delete h k P refl refl put n }

-- a delete leaves what can't be configured
module _ (h : Objects) (k : ℕ) (x : List ℕ) (p : Prop) (non_configurable : is_configurable p ≡ false) (here : own h k x
    ≡ Some p) where
  without_other : (n : List ℕ) → x ≢ n → Within h.objects k
      → own (with_properties h k (without (object_at h k).properties n)) k x ≡ Some p
  without_other n ne (inside i) =
      own-put h k _ x i
      ∙ item_in-filter (λ y. not (bytes_eq y n)) x (ap not (bytes_eq-other x n ne)) (object_at h k).properties
      ∙ here
  without_other n ne (past i) = ap (λ g. own g k x) (put_past h k _ i) ∙ here

  deleted_pick : (b : Bool) (n : List ℕ) → x ≢ n →
      own (let answer : Objects × Bool = if b then (with_properties h k (without (object_at h k).properties n), true)
      else (h, false) in answer.0) k x ≡ Some p
  deleted_pick true n ne = without_other n ne (within_or_past h.objects k)
  deleted_pick false n ne = here

  deleted_other : (n : List ℕ) → x ≢ n → (q : Option Prop) → own (deleted_if h k n q).0 k x ≡ Some p
  deleted_other n ne None = here
  deleted_other n ne (Some q) = deleted_pick (is_configurable q) n ne

  deleted_by : (n : List ℕ) → Same x n → own (delete_property h k n).0 k x ≡ Some p
  deleted_by n (other ne) = deleted_other n ne (own_or_unit h k n)
  deleted_by n (same e) =
      let there : own_or_unit h k n ≡ Some p =
      ap (λ o. option_or o (option_map unit_property (unit_at h k n))) (ap (own h k) (sym e) ∙ here) in
      ap (λ q. own (deleted_if h k n q).0 k x) there
      ∙ ap (λ (b : Bool). own (let answer : Objects
      × Bool = if b then (with_properties h k (without (object_at h k).properties n), true) else (h, false) in
      answer.0) k x) non_configurable
      ∙ here

pub non_configurable_is : (h : Objects) (k : ℕ) (x n : List ℕ) (p : Prop) → is_configurable p ≡ false
    → own h k x ≡ Some p → own (delete_property h k n).0 k x ≡ Some p
non_configurable_is h k x n p non_configurable here = deleted_by h k x p non_configurable here n (same_or_other x n)

-- an object with units is no array
no_array : (c : Class) (inner : Inner) (index : Option ℕ) (unit : ℕ)
    → option_and_then (λ i. slice_get (units_of c inner) i) index ≡ Some unit → is_array c ≡ false
no_array class.Array inner None unit e = cc
no_array class.Array inner (Some i) unit e = cc
no_array _ inner index unit e = refl

pub units_are : (h : Objects) (k : ℕ) (n : List ℕ) (c : Change) (unit : ℕ) → IsOneKind c → unit_at h k n ≡ Some unit
    → own h k n ≡ None →
    (define_own_property h k n c).0 ≡ h
units_are h k n c unit one there absent =
    let plain = no_array (object_at h k).class (object_at h k).inner (index_of n) unit there in
    let at = λ (b : Bool). (pick b
    (pick (bytes_eq n length_name) (define_array_length h k c c.value (own h k length_name))
    (defined_at h k n c (index_of n))) (define_ordinary h k n c)).0 in
    ap at plain ∙ on_unit (is_same (unit_property unit) c) refl
  where
    on_unit : (b : Bool) → is_same (unit_property unit) c ≡ b → (define_ordinary h k n c).0 ≡ h
    on_unit true e =
        ap (λ o. (define_on h k n c o).0) (unit_is h k n unit absent there)
        ∙ ap (λ b. (pick b (h, Done) (store_property h k n (property_after (unit_property unit) c))).0) e
    on_unit false e = ap (λ (a : Answer). a.0) (define_ordinary-unit h k n c unit one absent there e)
