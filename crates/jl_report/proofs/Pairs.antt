-- A pair is found among pairs in order.
use Rattle.std.proofs.Common.{◌≡◌, ℕ, ◌≤◌, Bool, true, false, ◌&&◌, nat_lt, ◌==◌, List, length, get_or}
use Rattle.std.proofs.Common.{Result, Ok, Err, refl, sym, ap, ◌∙◌, subst, arith, All}
use Rattle.std.proofs.lemmas.Bool.Decides.{nat_tests}
use Rattle.std.proofs.lemmas.List.Folds.{list_any_none, list_any_at}
use Rattle.std.proofs.lemmas.Map.Keys.{Less-from_sorted}
use Rattle.std.specs.Cmp.{IsTotalOrder}
use Rattle.std.proofs.lemmas.Cmp.{on_total, then_total, nat_cmp_total}
use Rattle.std.specs.List.Sorted.{IsStrictlySortedBy, IsNonDecreasingBy, IsBinarySearchResult, IsSearchInRange}
use Rattle.std.specs.Ordering.{nat_cmp, ordering_index, ordering_reverse, is_eq}
use Rattle.std.specs.Result.{is_ok}
use Rattle.std.specs.declared.cmp.Ordering.{Ordering}
use Rattle.std.specs.declared.cmp.Ordering.TheVariants.{Less, Equal, Greater}
use Rattle.jl_report.specs.Off.{Pair, by_line, is_off}
use Rattle.jl_report.proofs.Keys.{both_equal, equal}

by_line_total : IsTotalOrder by_line
by_line_total = then_total (on_total (λ (p : Pair). p.0) nat_cmp_total) (on_total (λ (p : Pair). p.1) nat_cmp_total)

reversed : (a b : Ordering) → a ≡ ordering_reverse b → b ≡ Greater → a ≡ Less
reversed a b e f = e ∙ ap ordering_reverse f

backward : (a b : Ordering) → a ≡ ordering_reverse b → b ≡ Less → a ≡ Greater
backward a b e f = e ∙ ap ordering_reverse f

-- what comes earlier compares no higher
compares_lower : (a b x : Pair) → by_line a b ≡ Less
    → ordering_index (by_line a x) ≤ ordering_index (by_line b x)
compares_lower a b x e = by_order (by_line b x) refl where
  by_order : (o : Ordering) → by_line b x ≡ o → ordering_index (by_line a x) ≤ ordering_index o
  by_order Less f = subst (λ o. ordering_index o ≤ 0) (sym (by_line_total.trans a b x e f)) (omega arith)
  by_order Equal f =
      let back : by_line b a ≡ Greater = backward (by_line b a) (by_line a b) (by_line_total.antisymm b a) e in
      let over : by_line x a ≡ Greater = sym (by_line_total.congr b x a f) ∙ back in
      subst (λ o. ordering_index o ≤ 1)
      (sym (reversed (by_line a x) (by_line x a) (by_line_total.antisymm a x) over)) (omega arith)
  by_order Greater f = at_most (by_line a x) where
    at_most : (o : Ordering) → ordering_index o ≤ 2
    at_most Less = omega arith
    at_most Equal = omega arith
    at_most Greater = omega arith

comparisons_rise : (pairs : List Pair) (x : Pair) → IsStrictlySortedBy by_line pairs
    → IsNonDecreasingBy (λ y. ordering_index (by_line y x)) pairs
comparisons_rise pairs x s i j d h l = by_place (nat_lt i j) refl where
  by_place : (b : Bool) → nat_lt i j ≡ b
      → ordering_index (by_line (get_or pairs i d) x) ≤ ordering_index (by_line (get_or pairs j d) x)
  by_place true e =
      compares_lower (get_or pairs i d) (get_or pairs j d) x
      (Less-from_sorted by_line pairs i j d s (grind (arith, nat_tests)) l)
  by_place false e =
      let same : i ≡ j = grind (arith, nat_tests) in
      subst (λ k. ordering_index (by_line (get_or pairs i d) x) ≤ ordering_index (by_line (get_or pairs k d) x)) same
      (omega arith)

abbrev is_pair : Pair → Pair → Bool
is_pair x y = y.0 == x.0 && y.1 == x.1

same_pair : (x y : Pair) → is_pair x y ≡ is_eq (by_line y x)
same_pair x y =
    ap (λ b. b && y.1 == x.1) (sym (equal y.0 x.0)) ∙ ap (λ b. is_eq (nat_cmp y.0 x.0) && b) (sym (equal y.1 x.1))
    ∙ sym (both_equal (nat_cmp y.0 x.0) (nat_cmp y.1 x.1))

pub searched : (pairs : List Pair) (line rule : ℕ) (r : Result ℕ ℕ) → IsStrictlySortedBy by_line pairs
    → IsSearchInRange r (length pairs)
    → IsBinarySearchResult (λ y. by_line y (line, rule)) pairs r → is_ok r ≡ is_off pairs line rule
searched pairs line rule (Ok i) s within is =
    sym (list_any_at (is_pair (line, rule)) pairs i (0, 0) within
    (same_pair (line, rule) (get_or pairs i (0, 0)) ∙ ap is_eq (is (0, 0))))
searched pairs line rule (Err i) s within is = sym (list_any_none (is_pair (line, rule)) pairs each) where
  each : All (λ y. is_pair (line, rule) y ≡ false) pairs
  each k d h = by_place (nat_lt k i) refl where
    by_place : (b : Bool) → nat_lt k i ≡ b → is_pair (line, rule) (get_or pairs k d) ≡ false
    by_place true e =
        same_pair (line, rule) (get_or pairs k d)
        ∙ ap is_eq ((is (comparisons_rise pairs (line, rule) s)).0 k d (omega arith) (grind (arith, nat_tests)))
    by_place false e =
        same_pair (line, rule) (get_or pairs k d)
        ∙ ap is_eq ((is (comparisons_rise pairs (line, rule) s)).1 k d (grind (arith, nat_tests)) h)
