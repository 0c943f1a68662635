-- A property that can be neither configured nor written is as it was after any change on its object.
use Rattle.std.proofs.Common.{◌≡◌, ◌≢◌, ◌∙◌, ℕ, ◌+◌, ◌≤◌, Bool, true, false, not, ◌&&◌, List, [], ◌∷◌, refl, ap, sym}
use Rattle.std.proofs.Common.{arith}
use Rattle.std.specs.Prelude.{Option, None, Some, nat_le, nat_lt, if◌then◌else◌}
use Rattle.std.specs.Option.{option_map, option_map_or, option_or, unwrap_or}
use Rattle.std.specs.Str.{bytes_eq}
use Rattle.std.proofs.lemmas.Bool.Decides.{nat_tests}
use Rattle.jl_props.specs.Entries.{has_name}
use Rattle.jl_props.specs.declared.entries.Entry.{Entry}
use Rattle.jl_value.specs.Indices.{index_of}
use Rattle.jl_value.specs.declared.value.Value.{Value}
use Rattle.jl_heap.specs.Define.{IsOneKind, grow_length, count_of, entries_outside, define_own_property, defined_at}
use Rattle.jl_heap.specs.Define.{define_array_length, define_on, define_ordinary, defined_shorter, index_after}
use Rattle.jl_heap.specs.Define.{is_array, is_between, is_writable, kept_open, length_name, length_of, reachable_length}
use Rattle.jl_heap.specs.Define.{shorten_array, shortened_to, store_property, with_count, with_length}
use Rattle.jl_heap.specs.Objects.{Objects, object_at, own, own_or_unit, unit_at, unit_property}
use Rattle.jl_heap.specs.Property.{is_same, property_after}
use Rattle.jl_heap.specs.declared.property.Change.{Change}
use Rattle.jl_heap.specs.declared.property.Defined.{Defined}
use Rattle.jl_heap.specs.declared.property.Defined.TheVariants.{Done, Rejected}
use Rattle.jl_heap.specs.declared.property.Prop.{Prop}
use Rattle.jl_heap.specs.declared.property.Prop.TheVariants.{Plain}
use Rattle.jl_heap.proofs.ReadOnly.{property_after-read_only}
use Rattle.jl_heap.proofs.Items.{item_in, item_in-filter, item_in-with_item, named_so}
use Rattle.jl_heap.proofs.LawsLemmas.{Same, other, pick, same, same_or_other}
use Rattle.jl_heap.proofs.Plainly.{own-define_ordinary}
use Rattle.jl_heap.proofs.Puts.{Within, inside, past, own-put, own-with_property, put_past, within_or_past}

-- an element that is found under its name counts in how far elements are deleted
pub reachable_length-item : (low high : ℕ) (x : List ℕ) (p : Prop) (es : List (Entry Prop)) → item_in x es ≡ Some p
    → index_after low high x p ≤ reachable_length low high es
reachable_length-item low high x p [] found = cc
reachable_length-item low high x p (e ∷ es) found = step (has_name x e) refl (reachable_length-item low high x p es)
  where
    step : (b : Bool) → has_name x e ≡ b
        → (item_in x es ≡ Some p → index_after low high x p ≤ reachable_length low high es) →
        index_after low high x p ≤ reachable_length low high (e ∷ es)
    step true is rest =
        let named = named_so x e is in
        let item : e.item ≡ p = (let f : Some e.item ≡ Some p = (rw is at found) in cc) in
        let here : index_after low high e.name e.item ≡ index_after low high x p =
        ap (λ n. index_after low high n e.item) named ∙ ap (index_after low high x) item in
        omega (arith, here)
    step false is rest = omega (arith, rest (rw is at found))

pub reachable_length-low : (low high : ℕ) (es : List (Entry Prop)) → low ≤ reachable_length low high es
reachable_length-low low high [] = omega arith
reachable_length-low low high (e ∷ es) = omega (arith, reachable_length-low low high es)

-- one that can't be deleted lies below where deleting ends
below_end : (index : Option ℕ) (low high end : ℕ) → low ≤ end →
    (if option_map_or (λ i. nat_le low i && nat_lt i high) index false && true then option_map_or (λ i. i + 1) index low
    else low) ≤ end →
    option_map_or (λ i. nat_le end i && nat_lt i high) index false ≡ false
below_end None low high end above after = refl
below_end (Some i) low high end above after = grind (arith, nat_tests)

module _ (h : Objects) (k : ℕ) (x : List ℕ) (v : Value) (e : Bool) (c : Change) (one : IsOneKind c) (here : own h k x
    ≡ Some (Plain v false e false)) where
  read_only : Prop
  read_only = Plain v false e false

  on_read_only : (b : Bool) → is_same (Plain v false e false) c ≡ b → (n : List ℕ)
      → (define_on h k n c (Some (Plain v false e false))).0 ≡ h
  on_read_only true s n = ap
      (λ b. (pick b (h, Done) (store_property h k n (property_after (Plain v false e false) c))).0) s
  on_read_only false s n =
      ap (λ b. (pick b (h, Done) (store_property h k n (property_after (Plain v false e false) c))).0) s
      ∙ ap (λ o. (store_property h k n o).0) (property_after-read_only v e c one s)

  plainly : (n : List ℕ) → Same x n → own (define_ordinary h k n c).0 k x ≡ Some (Plain v false e false)
  plainly n (other ne) = own-define_ordinary h k n x c ne ∙ here
  plainly n (same equal) =
      let there : own_or_unit h k n ≡ Some (Plain v false e false) =
      ap (λ o. option_or o (option_map unit_property (unit_at h k n))) (ap (own h k) (sym equal) ∙ here) in
      ap (λ g. own g k x) (ap (λ o. (define_on h k n c o).0) there
      ∙ on_read_only (is_same (Plain v false e false) c) refl n) ∙ here

  -- the property isn't `length` where that can be written
  not_length : (l : Option Prop) → own h k length_name ≡ l → is_writable l ≡ true → x ≢ length_name
  not_length l l_is writable equal =
      let there : l ≡ Some (Plain v false e false) = sym l_is ∙ ap (own h k) (sym equal) ∙ here in
      let closed : is_writable l ≡ false = ap is_writable there in
      cc

  lengthened : (g : Objects) (i : ℕ) (l : Option Prop) → x ≢ length_name → own g k x ≡ Some (Plain v false e false) →
      own (with_length g k i l) k x ≡ Some (Plain v false e false)
  lengthened g i None ne there = there
  lengthened g i (Some p) ne there = own-with_property g k length_name x (with_count i true p) ne ∙ there

  counted_so : (i : ℕ) (l : Option Prop) (g : Objects) (d : Defined) (b : Bool) → nat_le (length_of l) i ≡ b
      → (b ≡ true → x ≢ length_name) →
      own g k x ≡ Some (Plain v false e false) → own (grow_length k i l (g, d)).0 k x ≡ Some (Plain v false e false)
  counted_so i l g Rejected b is ne there = there
  counted_so i l g Done true is ne there = rw is (lengthened g (i + 1) l (ne refl) there)
  counted_so i l g Done false is ne there = rw is there

  element_if : (n : List ℕ) (i : ℕ) (l : Option Prop) → own h k length_name ≡ l → (b w : Bool) → nat_le (length_of l) i
      ≡ b → is_writable l ≡ w →
      own (pick (b && not w) (h, Rejected) (grow_length k i l (define_ordinary h k n c))).0 k x
      ≡ Some (Plain v false e false)
  element_if n i l l_is true false b_is w_is = here
  element_if n i l l_is true true b_is w_is =
      counted_so i l (define_ordinary h k n c).0 (define_ordinary h k n c).1 true b_is (λ _. not_length l l_is w_is)
      (plainly n (same_or_other x n))
  element_if n i l l_is false w b_is w_is =
      counted_so i l (define_ordinary h k n c).0 (define_ordinary h k n c).1 false b_is (λ absurd_so. let f : false
      ≡ true = absurd_so in cc) (plainly n (same_or_other x n))

  kept_in : (low high : ℕ) → not (is_between (reachable_length low high (object_at h k).properties) high x) ≡ true
  kept_in low high =
      ap not (below_end (index_of x) low high (reachable_length low high (object_at h k).properties)
      (reachable_length-low low high (object_at h k).properties)
      (reachable_length-item low high x (Plain v false e false) (object_at h k).properties here))

  shortened_so : (low high : ℕ) (w : Bool) (q : Prop) → x ≢ length_name → Within h.objects k
      → own (shorten_array h k q low high w).0 k x ≡ Some (Plain v false e false)
  shortened_so low high w q ne (inside i) =
      let end = reachable_length low high (object_at h k).properties in
      own-put h k _ x i
      ∙ item_in-with_item x length_name (with_count end w q) ne (entries_outside end high (object_at h k).properties)
      ∙ item_in-filter (λ y. not (is_between end high y)) x (kept_in low high) (object_at h k).properties
      ∙ here
  shortened_so low high w q ne (past i) = ap (λ g. own g k x) (put_past h k _ i) ∙ here

  shorter_to : (low high : ℕ) (w : Bool) (q : Option Prop) → x ≢ length_name → own (shortened_to h k low high w q).0 k x
      ≡ Some (Plain v false e false)
  shorter_to low high w None ne = here
  shorter_to low high w (Some q) ne = shortened_so low high w q ne (within_or_past h.objects k)

  shorter_if : (b : Bool) (p : Prop) (low : ℕ) → own h k length_name ≡ Some p → is_writable (Some p) ≡ b →
      own (pick b (shortened_to h k low (length_of (Some p)) (unwrap_or c.writable true)
      (property_after p (kept_open c))) (h, Rejected)).0 k x ≡ Some (Plain v false e false)
  shorter_if true p low l_is b_is =
      shorter_to low (length_of (Some p)) (unwrap_or c.writable true) (property_after p (kept_open c))
      (not_length (Some p) l_is b_is)
  shorter_if false p low l_is b_is = here

  shorter : (low : ℕ) (l : Option Prop) → own h k length_name ≡ l → own (defined_shorter h k c low l).0 k x
      ≡ Some (Plain v false e false)
  shorter low None l_is = here
  shorter low (Some p) l_is = shorter_if (is_writable (Some p)) p low l_is refl

  length_if : (b : Bool) (low : ℕ) (l : Option Prop) → own h k length_name ≡ l →
      own (pick b (define_ordinary h k length_name c) (defined_shorter h k c low l)).0 k x
      ≡ Some (Plain v false e false)
  length_if true low l l_is = plainly length_name (same_or_other x length_name)
  length_if false low l l_is = shorter low l l_is

  of_length : (u : Option Value) (l : Option Prop) → own h k length_name ≡ l → own (define_array_length h k c u l).0 k x
      ≡ Some (Plain v false e false)
  of_length None l l_is = plainly length_name (same_or_other x length_name)
  of_length (Some u) l l_is = length_if (nat_le (length_of l) (count_of u)) (count_of u) l l_is

  at : (n : List ℕ) (i : Option ℕ) → own (defined_at h k n c i).0 k x ≡ Some (Plain v false e false)
  at n None = plainly n (same_or_other x n)
  at n (Some i) =
      element_if n i (own h k length_name) refl (nat_le (length_of (own h k length_name)) i)
      (is_writable (own h k length_name)) refl refl

  named_if : (b : Bool) (n : List ℕ) →
      own (pick b (define_array_length h k c c.value (own h k length_name)) (defined_at h k n c (index_of n))).0 k x
      ≡ Some (Plain v false e false)
  named_if true n = of_length c.value (own h k length_name) refl
  named_if false n = at n (index_of n)

  array_if : (b : Bool) (n : List ℕ) →
      own (pick b (pick (bytes_eq n length_name) (define_array_length h k c c.value (own h k length_name))
      (defined_at h k n c (index_of n))) (define_ordinary h k n c)).0 k x
      ≡ Some (Plain v false e false)
  array_if true n = named_if (bytes_eq n length_name) n
  array_if false n = plainly n (same_or_other x n)

pub read_only_stays : (h : Objects) (k : ℕ) (x n : List ℕ) (c : Change) (v : Value) (e : Bool) → IsOneKind c →
    own h k x ≡ Some (Plain v false e false) → own (define_own_property h k n c).0 k x ≡ Some (Plain v false e false)
read_only_stays h k x n c v e one here = array_if h k x v e c one here (is_array (object_at h k).class) n
