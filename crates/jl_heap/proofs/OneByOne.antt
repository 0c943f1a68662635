-- An array is cut as if its elements were deleted one by one.
use Rattle.std.proofs.Common.{◌≡◌, ◌≢◌, ◌∙◌, ℕ, zero, suc, ◌+◌, ◌<◌, ◌≤◌, max, Bool, true, false, cond, not, ◌&&◌, List}
use Rattle.std.proofs.Common.{[], ◌∷◌, length, get_or, refl, ap, sym, subst, arith}
use Rattle.std.specs.Prelude.{Option, None, Some, nat_le, nat_lt, if◌then◌else◌}
use Rattle.std.specs.Option.{option_map, option_map_or}
use Rattle.std.specs.Str.{bytes_eq}
use Rattle.std.proofs.lemmas.Bool.Decides.{nat_tests}
use Rattle.jl_num.specs.Digits.{digits_of}
use Rattle.jl_props.specs.Entries.{IsInOrder, has_name, without}
use Rattle.jl_props.specs.declared.entries.Entry.{Entry}
use Rattle.jl_props.proofs.EntriesLemmas.{without-IsInOrder}
use Rattle.jl_props.proofs.LawsLemmas.{finds_each}
use Rattle.jl_value.specs.Indices.{index_of}
use Rattle.jl_value.proofs.Numerals.{index_is, index_of_is}
use Rattle.jl_heap.specs.Define.{entries_outside, index_after, is_between, reachable_length}
use Rattle.jl_heap.specs.Laws.{delete_elements_down, is_non_configurable}
use Rattle.jl_heap.specs.Property.{is_configurable}
use Rattle.jl_heap.specs.declared.property.Prop.{Prop}
use Rattle.jl_heap.proofs.ReadOnlyStays.{reachable_length-item, reachable_length-low}
use Rattle.jl_heap.proofs.Items.{bytes_eq-same, item_in, named_so}

abbrev Entries : Type 0
Entries = List (Entry Prop)

abbrev Alike : ℕ × Entries → ℕ × Entries → Type 0
Alike x y = x ≡ y

-- between a bound and itself there is nothing
none_between : (o : Option ℕ) (a : ℕ) → option_map_or (λ i. nat_le a i && nat_lt i a) o false ≡ false
none_between None a = refl
none_between (Some i) a = grind (arith, nat_tests)

-- but for the last index, one bound more makes no difference
one_more : (o : Option ℕ) (a i : ℕ) → o ≢ Some i →
    option_map_or (λ j. nat_le a j && nat_lt j (i + 1)) o false ≡ option_map_or (λ j. nat_le a j && nat_lt j i) o false
one_more None a i ne = refl
one_more (Some j) a i ne =
    let apart : j ≢ i = (λ e. ne (ap Some e)) in
    grind (arith, nat_tests)

last_between : (o : Option ℕ) (a i : ℕ) → o ≡ Some i → a ≤ i
    → option_map_or (λ j. nat_le a j && nat_lt j (i + 1)) o false ≡ true
last_between None a i is below = cc
last_between (Some j) a i is below = let same : j ≡ i = cc in grind (arith, nat_tests)

index_at_most : (o : Option ℕ) (low high : ℕ) (b : Bool) → low ≤ high →
    (if option_map_or (λ i. nat_le low i && nat_lt i high) o false && b then option_map_or (λ i. i + 1) o low else low)
    ≤ high
index_at_most None low high b below = below
index_at_most (Some i) low high b below = grind (arith, nat_tests)

reachable_length-high : (low high : ℕ) (es : Entries) → low ≤ high → reachable_length low high es ≤ high
reachable_length-high low high [] below = below
reachable_length-high low high (e ∷ es) below =
    omega (
      arith,
      reachable_length-high low high es below,
      index_at_most (index_of e.name) low high
          (not (is_configurable e.item)) below,
    )

reachable_length-none : (a : ℕ) (es : Entries) → reachable_length a a es ≡ a
reachable_length-none a es = omega (arith, reachable_length-low a a es, reachable_length-high a a es (omega arith))

entries_outside-none : (a : ℕ) (es : Entries) → entries_outside a a es ≡ es
entries_outside-none a [] = refl
entries_outside-none a (e ∷ es) =
    ap (λ b. cond (not b) (e ∷ entries_outside a a es) (entries_outside a a es)) (none_between (index_of e.name) a)
    ∙ ap (λ l. e ∷ l) (entries_outside-none a es)

not_true : (b : Bool) → not b ≡ true → b ≡ false
not_true true e = cc
not_true false e = refl

not_false : (b : Bool) → not b ≡ false → b ≡ true
not_false true e = refl
not_false false e = cc

both_ways : (c : Bool) (o : Option ℕ) (low : ℕ) → (if c && false then option_map_or (λ k. k + 1) o low else low) ≡ low
both_ways true o low = refl
both_ways false o low = refl

-- one that can be deleted doesn't end it
adds_nothing : (low high : ℕ) (o : Option ℕ) (b : Bool) → b ≡ true →
    (if option_map_or (λ k. nat_le low k && nat_lt k high) o false && not b then option_map_or (λ k. k + 1) o low
    else low) ≡ low
adds_nothing low high o true e = both_ways (option_map_or (λ k. nat_le low k && nat_lt k high) o false) o low
adds_nothing low high o false e = cc

module _ (i : ℕ) (fits : i < 4294967295) where
  index_of_last : index_of (digits_of 10 i) ≡ Some i
  index_of_last = index_is (digits_of 10 i) i (record { digits = refl; below = fits })

  not_last : (x : List ℕ) → x ≢ digits_of 10 i → index_of x ≢ Some i
  not_last x ne e = ne ((index_of_is x i e).digits)

  -- where the last element can be deleted, the rest is done without it
  reachable_length-without : (low : ℕ) (es : Entries) → low ≤ i →
      ((j : ℕ) (d : Entry Prop) → j < length es → (get_or es j d).name ≡ digits_of 10 i
      → is_configurable (get_or es j d).item ≡ true) →
      reachable_length low (i + 1) es ≡ reachable_length low i (without es (digits_of 10 i))
  reachable_length-without low [] below free = refl
  reachable_length-without low (e ∷ es) below free =
      step (reachable_length-without low es below (λ j d within. free (suc j) d (omega (arith, within))))
      (has_name (digits_of 10 i) e) refl
    where
      step : reachable_length low (i + 1) es ≡ reachable_length low i (without es (digits_of 10 i)) → (b : Bool)
          → has_name (digits_of 10 i) e ≡ b →
          reachable_length low (i + 1) (e ∷ es) ≡ reachable_length low i (without (e ∷ es) (digits_of 10 i))
      step rest true is =
          let open_here : is_configurable e.item ≡ true = free 0 e (omega arith) (named_so (digits_of 10 i) e is) in
          let here : index_after low (i + 1) e.name e.item ≡ low =
          adds_nothing low (i + 1) (index_of e.name) (is_configurable e.item) open_here in
          rw is (omega (arith, here, rest, reachable_length-low low (i + 1) es))
      step rest false is =
          let ne : e.name ≢ digits_of 10 i =
          (λ same. let f : has_name (digits_of 10 i) e
          ≡ true = subst (λ y. bytes_eq e.name y ≡ true) same (bytes_eq-same e.name) in cc) in
          let here : is_between low (i + 1) e.name ≡ is_between low i e.name =
          one_more (index_of e.name) low i (not_last e.name ne) in
          rw is (ap (λ b. max (if b && not (is_configurable e.item) then option_map_or (λ k. k + 1) (index_of e.name)
          low else low) (reachable_length low (i + 1) es)) here
          ∙ ap (max (index_after low i e.name e.item)) rest)

  entries_outside-without : (low : ℕ) (es : Entries) → low ≤ i → entries_outside low (i + 1) es
      ≡ entries_outside low i (without es (digits_of 10 i))
  entries_outside-without low [] below = refl
  entries_outside-without low (e ∷ es) below =
      step (entries_outside-without low es below) (has_name (digits_of 10 i) e) refl
    where
      step : entries_outside low (i + 1) es ≡ entries_outside low i (without es (digits_of 10 i)) → (b : Bool)
          → has_name (digits_of 10 i) e ≡ b →
          entries_outside low (i + 1) (e ∷ es) ≡ entries_outside low i (without (e ∷ es) (digits_of 10 i))
      step rest true is =
          let at : index_of e.name ≡ Some i = ap index_of (named_so (digits_of 10 i) e is) ∙ index_of_last in
          let gone : is_between low (i + 1) e.name ≡ true = last_between (index_of e.name) low i at below in
          rw is (ap (λ b. cond (not b) (e ∷ entries_outside low (i + 1) es) (entries_outside low (i + 1) es)) gone
          ∙ rest)
      step rest false is =
          let ne : e.name ≢ digits_of 10 i =
          (λ same. let f : has_name (digits_of 10 i) e
          ≡ true = subst (λ y. bytes_eq e.name y ≡ true) same (bytes_eq-same e.name) in cc) in
          let here : is_between low (i + 1) e.name ≡ is_between low i e.name =
          one_more (index_of e.name) low i (not_last e.name ne) in
          rw is (ap (λ b. cond (not b) (e ∷ entries_outside low (i + 1) es) (entries_outside low (i + 1) es)) here
          ∙ ap (λ l. cond (not (is_between low i e.name)) (e ∷ l) l) rest)

  index_after_last : (low : ℕ) (p : Prop) → low ≤ i → is_configurable p ≡ false
      → index_after low (i + 1) (digits_of 10 i) p ≡ i + 1
  index_after_last low p below non_configurable =
      let between : is_between low (i + 1) (digits_of 10 i) ≡ true =
      last_between (index_of (digits_of 10 i)) low i index_of_last below in
      ap (λ b. if b && not (is_configurable p) then option_map_or (λ k. k + 1) (index_of (digits_of 10 i)) low else low)
      between
      ∙ ap (λ b. if true && not b then option_map_or (λ k. k + 1) (index_of (digits_of 10 i)) low else low)
      non_configurable
      ∙ ap (λ o. option_map_or (λ k. k + 1) o low) index_of_last

  reachable_length-non_configurable : (low : ℕ) (es : Entries) (o : Option Prop) → low ≤ i → item_in (digits_of 10 i) es
      ≡ o → is_non_configurable o ≡ true → reachable_length low (i + 1) es ≡ i + 1
  reachable_length-non_configurable low es None below found non_configurable = cc
  reachable_length-non_configurable low es (Some p) below found non_configurable =
      let no = not_true (is_configurable p) non_configurable in
      let here = index_after_last low p below no in
      let least = reachable_length-item low (i + 1) (digits_of 10 i) p es found in
      let most = reachable_length-high low (i + 1) es (omega (arith, below)) in
      omega (arith, here, least, most)

  free_if : (es : Entries) → IsInOrder es → is_non_configurable (item_in (digits_of 10 i) es) ≡ false
      → (j : ℕ) (d : Entry Prop) → j < length es →
      (get_or es j d).name ≡ digits_of 10 i → is_configurable (get_or es j d).item ≡ true
  free_if es ordered free j d within named =
      let found : item_in (get_or es j d).name es ≡ Some (get_or es j d).item =
      ap (λ o. option_map (λ (e : Entry Prop). e.item) o) (finds_each es ordered j d within) in
      let here : item_in (digits_of 10 i) es ≡ Some (get_or es j d).item = sym (ap (λ n. item_in n es) named) ∙ found in
      not_false (is_configurable (get_or es j d).item) (sym (ap is_non_configurable here) ∙ free)

step_down : (low n : ℕ) (es : Entries) → IsInOrder es → low + n < 4294967295 →
    delete_elements_down low n (without es (digits_of 10 (low + n)))
    ≡ (
      reachable_length low (low + n) (without es (digits_of 10 (low + n))),
      entries_outside (reachable_length low (low + n) (without es (digits_of 10 (low + n)))) (low + n)
          (without es (digits_of 10 (low + n))),
    ) →
    (b : Bool) → is_non_configurable (item_in (digits_of 10 (low + n)) es) ≡ b →
    delete_elements_down low (suc n) es
    ≡ (reachable_length low (low + n + 1) es, entries_outside (reachable_length low (low + n + 1) es) (low + n + 1) es)
step_down low n es ordered fits rest true is =
    let all = reachable_length-non_configurable (low + n) fits low es (item_in (digits_of 10 (low + n)) es)
    (omega arith) refl is in
    rw is (subst (λ r. Alike (low + n + 1, es) (r, entries_outside r (low + n + 1) es)) (sym all)
    (ap (λ l. (low + n + 1, l)) (sym (entries_outside-none (low + n + 1) es))))
step_down low n es ordered fits rest false is =
    let i = low + n in
    let less = without es (digits_of 10 i) in
    let far = reachable_length-without i fits low es (omega arith) (free_if i fits es ordered is) in
    let cuts = entries_outside-without i fits (reachable_length low i less) es
    (reachable_length-high low i less (omega arith)) in
    rw is (rest ∙ ap (λ l. (reachable_length low i less, l)) (sym cuts)
    ∙ ap (λ r. (r, entries_outside r (i + 1) es)) (sym far))

pub cuts_one_by_one : (low n : ℕ) (es : Entries) → IsInOrder es → low + n ≤ 4294967295 →
    delete_elements_down low n es
    ≡ (reachable_length low (low + n) es, entries_outside (reachable_length low (low + n) es) (low + n) es)
cuts_one_by_one low zero es ordered fits =
    let same : low ≡ low + zero = omega arith in
    subst (λ h. Alike (low, es) (reachable_length low h es, entries_outside (reachable_length low h es) h es)) same
    (subst (λ r. Alike (low, es) (r, entries_outside r low es)) (sym (reachable_length-none low es))
    (ap (λ l. (low, l)) (sym (entries_outside-none low es))))
cuts_one_by_one low (suc n) es ordered fits =
    let same : low + n + 1 ≡ low + suc n = omega arith in
    let below : low + n < 4294967295 = omega (arith, fits) in
    let rest = cuts_one_by_one low n (without es (digits_of 10 (low + n)))
    (without-IsInOrder es (digits_of 10 (low + n)) ordered) (omega (arith, below)) in
    subst (λ h. delete_elements_down low (suc n) es
    ≡ (reachable_length low h es, entries_outside (reachable_length low h es) h es)) same
    (step_down low n es ordered below rest (is_non_configurable (item_in (digits_of 10 (low + n)) es)) refl)
