-- The loops that shorten an array do what its definition says.
use Rattle.std.proofs.Common.{◌≡◌, ◌∙◌, ℕ, zero, suc, ◌<◌, ◌≤◌, Bool, true, false, cond, not, ◌&&◌, List, [], ◌∷◌}
use Rattle.std.proofs.Common.{length, get_or, refl, ap, sym, subst, arith}
use Rattle.std.proofs.Math.ListN.{set}
use Rattle.std.specs.Prelude.{All, IsSome, Option, None, Some, nat_le, nat_lt, if◌then◌else◌}
use Rattle.std.specs.List.{filter}
use Rattle.std.specs.Option.{option_map, option_map_or}
use Rattle.std.specs.Str.{bytes_eq}
use Rattle.std.proofs.lemmas.List.{length-set}
use Rattle.std.proofs.lemmas.Bool.{false≢true}
use Rattle.std.proofs.lemmas.Option.{none-some, same_Some}
use Rattle.std.proofs.lemmas.Slice.Eq.{bytes_eq-Decides}
use Rattle.jl_value.specs.Indices.{index_of}
use Rattle.jl_props.specs.Entries.{IsInOrder, has_name, with_item, without}
use Rattle.jl_props.specs.declared.entries.Entry.{Entry}
use Rattle.jl_props.proofs.LawsLemmas.{finds_each}
use Rattle.jl_heap.specs.Define.{entries_outside, index_after, is_between, length_name, reachable_length, shorten_array}
use Rattle.jl_heap.specs.Define.{with_count, with_property}
use Rattle.jl_heap.specs.Objects.{Object, Objects, object_at, own, with_properties}
use Rattle.jl_heap.specs.inner.Steps.{Covers, is_listed, reached_over, without_elements}
use Rattle.jl_heap.specs.declared.property.Defined.TheVariants.{Done, Rejected}
use Rattle.jl_heap.specs.declared.property.Prop.{Prop}
use Rattle.jl_heap.proofs.Items.{item_in, item_in-filter, named_so}
use Rattle.jl_heap.proofs.Plainly.{length_is_no_index}
use Rattle.jl_heap.proofs.Puts.{object_at-put, own-put, put_same}

pub reached_over-above : (h : Objects) (k low high : ℕ) (ns : List (List ℕ × ℕ)) → low ≤ reached_over h k low high ns
reached_over-above h k low high [] = omega arith
reached_over-above h k low high (n ∷ ns) = omega (arith, reached_over-above h k low high ns)

reachable-above : (low high : ℕ) (es : List (Entry Prop)) → low ≤ reachable_length low high es
reachable-above low high [] = omega arith
reachable-above low high (e ∷ es) = omega (arith, reachable-above low high es)

-- the index after an entry that is found under its name is not past what is reached
found_after : (low high : ℕ) (n : List ℕ) (p : Prop) (es : List (Entry Prop)) → item_in n es ≡ Some p
    → index_after low high n p ≤ reachable_length low high es
found_after low high n p [] found = absurd (none-some p found)
found_after low high n p (e ∷ es) found = step (has_name n e) refl (found_after low high n p es)
  where
    step : (b : Bool) → has_name n e ≡ b
        → (item_in n es ≡ Some p → index_after low high n p ≤ reachable_length low high es)
        → index_after low high n p ≤ reachable_length low high (e ∷ es)
    step true fits rest =
        let name : e.name ≡ n = named_so n e fits in
        let item : e.item ≡ p = same_Some e.item p (rw fits at found) in
        let same : index_after low high e.name e.item ≡ index_after low high n p =
        λ i. index_after low high (name i) (item i) in
        omega (arith, same)
    step false fails rest = let below = rest (rw fails at found) in omega (arith, below)

outside_after : (low high : ℕ) (n : List ℕ) (p : Prop) → is_between low high n ≡ false → index_after low high n p ≡ low
outside_after low high n p outside = rw outside refl

module _ (h : Objects) (k low high : ℕ) where
  -- a name that is listed is reached over
  listed_after : (n : List ℕ) (ns : List (List ℕ × ℕ)) → is_listed n ns ≡ true
      → option_map_or (index_after low high n) (own h k n) low ≤ reached_over h k low high ns
  listed_after n [] listed = absurd (false≢true listed)
  listed_after n (m ∷ ns) listed = step (bytes_eq m.0 n) refl (listed_after n ns)
    where
      step : (b : Bool) → bytes_eq m.0 n ≡ b
          → (is_listed n ns ≡ true → option_map_or (index_after low high n) (own h k n) low ≤ reached_over h k low high
          ns)
          → option_map_or (index_after low high n) (own h k n) low ≤ reached_over h k low high (m ∷ ns)
      step true is rest =
          let name : m.0 ≡ n = (bytes_eq-Decides m.0 n).0 is in
          let same = ap (λ x. option_map_or (index_after low high x) (own h k x) low) name in
          omega (arith, same)
      step false other rest = let below = rest (rw other at listed) in omega (arith, below)

  -- names that cover the elements lead as far as the entries do
  entries_reached : (ns : List (List ℕ × ℕ)) → Covers h k low high ns → (es : List (Entry Prop))
      → All (λ e. own h k e.name ≡ Some e.item) es → reachable_length low high es ≤ reached_over h k low high ns
  entries_reached ns covers [] found = reached_over-above h k low high ns
  entries_reached ns covers (e ∷ es) found =
      let rest = entries_reached ns covers es (λ i d within. found (suc i) d (omega (arith, within))) in
      let here = found 0 e (omega arith) in
      let first = step here (is_between low high e.name) refl in
      omega (arith, rest, first)
    where
      step : own h k e.name ≡ Some e.item → (b : Bool) → is_between low high e.name ≡ b
          → index_after low high e.name e.item ≤ reached_over h k low high ns
      step here true inside =
          let listed = covers e.name (rw here refl) inside in
          let reached = listed_after e.name ns listed in
          let same : option_map_or (index_after low high e.name) (own h k e.name) low
          ≡ index_after low high e.name e.item =
          ap (λ o. option_map_or (index_after low high e.name) o low) here in
          omega (arith, reached, same)
      step here false outside =
          omega (arith, outside_after low high e.name e.item outside, reached_over-above h k low high ns)

  names_reached : (ns : List (List ℕ × ℕ))
      → reached_over h k low high ns ≤ reachable_length low high (object_at h k).properties
  names_reached [] = reachable-above low high (object_at h k).properties
  names_reached (n ∷ ns) =
      let rest = names_reached ns in
      let first = step (own h k n.0) refl in
      omega (arith, rest, first)
    where
      step : (o : Option Prop) → own h k n.0 ≡ o
          → option_map_or (index_after low high n.0) (own h k n.0) low ≤ reachable_length low high
          (object_at h k).properties
      step None none = rw none (reachable-above low high (object_at h k).properties)
      step (Some p) found = rw found (found_after low high n.0 p (object_at h k).properties found)

  pub reached_over-covering : (ns : List (List ℕ × ℕ)) → Covers h k low high ns → IsInOrder (object_at h k).properties →
      reached_over h k low high ns ≡ reachable_length low high (object_at h k).properties
  reached_over-covering ns covers ordered =
      let more = entries_reached ns covers (object_at h k).properties
      (λ i d within. ap (λ o. option_map (λ (e : Entry Prop). e.item) o)
      (finds_each (object_at h k).properties ordered i d within)) in
      omega (arith, more, names_reached ns)

and_false : (b : Bool) → (b && false) ≡ false
and_false true = refl
and_false false = refl

-- a second write of properties is the one that counts
set_set : {A : Type 0} (xs : List A) (k : ℕ) (x y : A) → set (set xs k x) k y ≡ set xs k y
set_set [] k x y = refl
set_set (z ∷ xs) zero x y = refl
set_set (z ∷ xs) (suc k) x y = ap (λ l. z ∷ l) (set_set xs k x y)

pub with_properties-twice : (h : Objects) (k : ℕ) (es fs : List (Entry Prop)) → k < length h.objects →
    with_properties (with_properties h k es) k fs ≡ with_properties h k fs
with_properties-twice h k es fs within =
    ap (λ (o : Object). record h {
      objects = set (set h.objects k (record (object_at h k) { properties = es })) k
          (record o { properties = fs });
    })
    (object_at-put h k es within)
    ∙ ap (λ l. record h { objects = l }) (set_set h.objects k _ _)

module _ (low high : ℕ) where
  -- whether an entry of a name stays where the elements of these names are taken out
  abbrev stays_of : List (List ℕ × ℕ) → List ℕ → Bool
  stays_of [] x = true
  stays_of (n ∷ ns) x = cond (is_between low high n.0) (not (bytes_eq x n.0)) true && stays_of ns x

  abbrev after_names : List (List ℕ × ℕ) → List (Entry Prop) → List (Entry Prop)
  after_names [] es = es
  after_names (n ∷ ns) es = after_names ns (cond (is_between low high n.0) (without es n.0) es)

  filter_all : (es : List (Entry Prop)) → es ≡ filter (λ e. true) es
  filter_all [] = refl
  filter_all (e ∷ es) = ap (λ l. e ∷ l) (filter_all es)

  filter_twice : (p q : List ℕ → Bool) (es : List (Entry Prop)) →
      filter (λ e. q e.name) (filter (λ e. p e.name) es) ≡ filter (λ e. p e.name && q e.name) es
  filter_twice p q [] = refl
  filter_twice p q (e ∷ es) = step (filter_twice p q es) (p e.name) refl (q e.name) refl
    where
      step : filter (λ e. q e.name) (filter (λ e. p e.name) es) ≡ filter (λ e. p e.name && q e.name) es →
          (b : Bool) → p e.name ≡ b → (c : Bool) → q e.name ≡ c →
          filter (λ e. q e.name) (filter (λ e. p e.name) (e ∷ es)) ≡ filter (λ e. p e.name && q e.name) (e ∷ es)
      step rest true pe true qe = rw (pe, qe) (ap (λ l. e ∷ l) rest)
      step rest true pe false qe = rw (pe, qe) rest
      step rest false pe c qe = rw pe rest

  after_names-filter : (ns : List (List ℕ × ℕ)) (es : List (Entry Prop))
      → after_names ns es ≡ filter (λ e. stays_of ns e.name) es
  after_names-filter [] es = filter_all es
  after_names-filter (n ∷ ns) es = step (is_between low high n.0) refl (after_names-filter ns)
    where
      step : (b : Bool) → is_between low high n.0 ≡ b
          → ((fs : List (Entry Prop)) → after_names ns fs ≡ filter (λ e. stays_of ns e.name) fs) →
          after_names (n ∷ ns) es ≡ filter (λ e. stays_of (n ∷ ns) e.name) es
      step true is rest =
          rw is (rest (without es n.0) ∙ filter_twice (λ x. not (bytes_eq x n.0)) (stays_of ns) es)
      step false is rest = rw is (rest es)

  -- a name that is no element in these bounds stays
  stays_outside : (ns : List (List ℕ × ℕ)) (x : List ℕ) → is_between low high x ≡ false → stays_of ns x ≡ true
  stays_outside [] x out = refl
  stays_outside (n ∷ ns) x out = step (is_between low high n.0) refl (bytes_eq x n.0) refl (stays_outside ns x out)
    where
      step : (b : Bool) → is_between low high n.0 ≡ b → (s : Bool) → bytes_eq x n.0 ≡ s → stays_of ns x ≡ true
          → stays_of (n ∷ ns) x ≡ true
      step false is s same rest = rw (is, rest) refl
      step true is false same rest = rw (is, same, rest) refl
      step true is true same rest =
          let equal : x ≡ n.0 = (bytes_eq-Decides x n.0).0 same in
          let out2 : is_between low high n.0 ≡ false = subst (λ y. is_between low high y ≡ false) equal out in
          cc

  -- one that is goes, where it is among the names
  goes_inside : (ns : List (List ℕ × ℕ)) (x : List ℕ) → is_between low high x ≡ true → is_listed x ns ≡ true
      → stays_of ns x ≡ false
  goes_inside [] x is listed = absurd (false≢true listed)
  goes_inside (n ∷ ns) x is listed = step (bytes_eq n.0 x) refl (goes_inside ns x is)
    where
      step : (b : Bool) → bytes_eq n.0 x ≡ b → (is_listed x ns ≡ true → stays_of ns x ≡ false)
          → stays_of (n ∷ ns) x ≡ false
      step true same rest =
          let name : n.0 ≡ x = (bytes_eq-Decides n.0 x).0 same in
          let at : is_between low high n.0 ≡ true = ap (is_between low high) name ∙ is in
          let equal : bytes_eq x n.0 ≡ true = (bytes_eq-Decides x n.0).1 (sym name) in
          rw (at, equal) refl
      step false other rest =
          rw (rest (rw other at listed)) (and_false (cond (is_between low high n.0) (not (bytes_eq x n.0)) true))

  stays_same : (ns : List (List ℕ × ℕ)) (es : List (Entry Prop))
      → ((x : List ℕ) → IsSome (item_in x es) → is_between low high x ≡ true → is_listed x ns ≡ true)
      → All (λ e. item_in e.name es ≡ Some e.item) es
      → (i : ℕ) (d : Entry Prop) → i < length es → stays_of ns (get_or es i d).name
      ≡ not (is_between low high (get_or es i d).name)
  stays_same ns es covers found i d within = step (is_between low high (get_or es i d).name) refl
    where
      step : (b : Bool) → is_between low high (get_or es i d).name ≡ b →
          stays_of ns (get_or es i d).name ≡ not (is_between low high (get_or es i d).name)
      step true is = rw is (goes_inside ns (get_or es i d).name is
          (covers (get_or es i d).name (rw (found i d within) refl) is))
      step false is = rw is (stays_outside ns (get_or es i d).name is)

  filter_same : (p q : List ℕ → Bool) (es : List (Entry Prop)) →
      ((i : ℕ) (d : Entry Prop) → i < length es → p (get_or es i d).name ≡ q (get_or es i d).name) →
      filter (λ e. p e.name) es ≡ filter (λ e. q e.name) es
  filter_same p q [] same = refl
  filter_same p q (e ∷ es) same =
      let here : p e.name ≡ q e.name = same 0 e (omega arith) in
      let rest = filter_same p q es (λ i d within. same (suc i) d (omega (arith, within))) in
      ap (λ b. cond b (e ∷ filter (λ e. p e.name) es) (filter (λ e. p e.name) es)) here
      ∙ ap (λ l. cond (q e.name) (e ∷ l) l) rest

  after_names-entries_outside : (ns : List (List ℕ × ℕ)) (es : List (Entry Prop))
      → ((x : List ℕ) → IsSome (item_in x es) → is_between low high x ≡ true → is_listed x ns ≡ true)
      → All (λ e. item_in e.name es ≡ Some e.item) es → after_names ns es ≡ entries_outside low high es
  after_names-entries_outside ns es covers found =
      after_names-filter ns es
      ∙ filter_same (stays_of ns) (λ x. not (is_between low high x)) es (stays_same ns es covers found)

  name_by_name : (ns : List (List ℕ × ℕ)) (h : Objects) (k : ℕ) → k < length h.objects →
      without_elements h k low high ns ≡ with_properties h k (after_names ns (object_at h k).properties)
  name_by_name [] h k within = sym (put_same h k)
  name_by_name (n ∷ ns) h k within = step (is_between low high n.0) refl (λ g. name_by_name ns g k)
    where
      step : (b : Bool) → is_between low high n.0 ≡ b →
          ((g : Objects) → k < length g.objects → without_elements g k low high ns
          ≡ with_properties g k (after_names ns (object_at g k).properties)) →
          without_elements h k low high (n ∷ ns) ≡ with_properties h k (after_names (n ∷ ns) (object_at h k).properties)
      step true is rest =
          let es = (object_at h k).properties in
          let g : Objects = with_properties h k (without es n.0) in
          let inside : k < length g.objects =
          omega (arith, within, length-set h.objects k (record (object_at h k) { properties = without es n.0 })) in
          rw is (rest g inside
          ∙ ap (λ (o : Object). with_properties g k (after_names ns o.properties))
          (object_at-put h k (without es n.0) within)
          ∙ with_properties-twice h k (without es n.0) (after_names ns (without es n.0)) within)
      step false is rest = rw is (rest h within)

  -- deleting the elements of names that cover those in these bounds cuts the properties
  pub without_elements-entries_outside : (h : Objects) (k : ℕ) (ns : List (List ℕ × ℕ)) → k < length h.objects
      → Covers h k low high ns → IsInOrder (object_at h k).properties
      → without_elements h k low high ns ≡ with_properties h k (entries_outside low high (object_at h k).properties)
  without_elements-entries_outside h k ns within covers ordered =
      name_by_name ns h k within
      ∙ ap (λ es. with_properties h k es) (after_names-entries_outside ns (object_at h k).properties covers
      (λ i d inside. ap (λ o. option_map (λ (e : Entry Prop). e.item) o)
      (finds_each (object_at h k).properties ordered i d inside)))

  length_stays : not (is_between low high length_name) ≡ true
  length_stays = ap (λ o. not (option_map_or (λ i. nat_le low i && nat_lt i high) o false)) length_is_no_index

  -- `length` is there after it as before
  pub own-entries_outside : (h : Objects) (k : ℕ) → k < length h.objects →
      own (with_properties h k (entries_outside low high (object_at h k).properties)) k length_name
      ≡ own h k length_name
  own-entries_outside h k within =
      own-put h k _ length_name within
      ∙ item_in-filter (λ x. not (is_between low high x)) length_name length_stays (object_at h k).properties

-- bounds within others are covered too
inside_bounds : (low end high : ℕ) (x : List ℕ) → low ≤ end → is_between end high x ≡ true → is_between low high x
    ≡ true
inside_bounds low end high x above is = step (index_of x) is
  where
    step : (o : Option ℕ) → option_map_or (λ i. nat_le end i && nat_lt i high) o false ≡ true
        → option_map_or (λ i. nat_le low i && nat_lt i high) o false ≡ true
    step None none = none
    step (Some i) between = grind (arith, above)

-- what the loops of `shorten` and the write after them come to
module _ (h g : Objects) (k low high end : ℕ) (within : k < length h.objects)
    (ordered : IsInOrder (object_at h k).properties)
    (names : List (List ℕ × ℕ)) (covers : Covers h k low high names)
    (first : List (List ℕ × ℕ)) (first_is : first ≡ names) (end_is : end ≡ reached_over h k low high first)
    (second : List (List ℕ × ℕ)) (second_is : second ≡ names) (cut_is : g ≡ without_elements h k end high second) where
  end_reached : end ≡ reachable_length low high (object_at h k).properties
  end_reached =
      end_is ∙ ap (λ l. reached_over h k low high l) first_is ∙ reached_over-covering h k low high names covers ordered

  is_cut : g ≡ with_properties h k (entries_outside end high (object_at h k).properties)
  is_cut =
      let above : low ≤ end = omega (arith, end_reached, reachable-above low high (object_at h k).properties) in
      cut_is ∙ ap (λ l. without_elements h k end high l) second_is
      ∙ without_elements-entries_outside end high h k names within
      (λ x there is. covers x there (inside_bounds low end high x above is)) ordered

  pub there_after : (n : List ℕ) → n ≡ length_name → IsSome (own h k length_name) → IsSome (own g k n)
  there_after n n_is there =
      subst (λ x. IsSome (own g k x)) (sym n_is)
      (subst (λ o. IsSome (own o k length_name)) (sym is_cut)
      (subst (λ o. IsSome o) (sym (own-entries_outside end high h k within)) there))

  written : (p : Prop) → with_property g k length_name p
      ≡ with_properties h k (with_item (entries_outside end high (object_at h k).properties) length_name p)
  written p =
      let es = entries_outside end high (object_at h k).properties in
      ap (λ o. with_property o k length_name p) is_cut
      ∙ ap (λ (o : Object). with_properties (with_properties h k es) k (with_item o.properties length_name p))
      (object_at-put h k es within)
      ∙ with_properties-twice h k es (with_item es length_name p) within

  pub shortened_is : (f : Objects) (n : List ℕ) (p q : Prop) (stays : Bool) (b : Bool) → n ≡ length_name
      → q ≡ with_count end stays p →
      f ≡ with_property g k n q → nat_le end low ≡ b → (f, (if b then Done else Rejected))
      ≡ shorten_array h k p low high stays
  shortened_is f n p q stays b n_is q_is f_is b_is =
      let at : f ≡ with_properties h k (with_item (entries_outside end high (object_at h k).properties) length_name
      (with_count end stays p)) =
      f_is ∙ ap (λ x. with_property g k x q) n_is ∙ ap (λ x. with_property g k length_name x) q_is
      ∙ written (with_count end stays p) in
      ap (λ c. (f, (if c then Done else Rejected))) (sym b_is)
      ∙ ap (λ o. (o, (if nat_le end low then Done else Rejected))) at
      ∙ ap (λ e. (
        with_properties h k (with_item (entries_outside e high (object_at h k).properties) length_name
            (with_count e stays p)),
        (if nat_le e low then Done else Rejected),
      )) end_reached
