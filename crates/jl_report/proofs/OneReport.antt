-- A report is one list of lines.
use Rattle.std.proofs.Common.{◌≡◌, ℕ, Bool, true, false, List, [], ◌∷◌, map, Option, None, Some, refl, sym, ap, ◌∙◌}
use Rattle.std.proofs.lemmas.Cmp.{nat_cmp_total, then_total}
use Rattle.std.specs.Cmp.{IsTotalOrder}
use Rattle.std.specs.List.Sorted.{IsStrictlySortedBy}
use Rattle.std.specs.Ordering.{is_eq, nat_cmp, ordering_reverse}
use Rattle.std.specs.Prelude.{if◌then◌else◌}
use Rattle.std.specs.declared.cmp.Ordering.{Ordering}
use Rattle.std.specs.declared.cmp.Ordering.TheVariants.{Less, Equal, Greater}
use Rattle.jl_report.specs.declared.line.Line.{Line}
use Rattle.jl_report.specs.Laws.{OneReport}
use Rattle.jl_report.specs.Reports.{Key, key, by_place, count_of}
use Rattle.jl_report.proofs.Keys.{same_key, same_is, is_same}

on_total : {K : Type 0} (part : K → ℕ) → IsTotalOrder (λ a b. nat_cmp (part a) (part b))
on_total part = record {
  antisymm = λ a b. nat_cmp_total.antisymm (part a) (part b);
  trans = λ a b c. nat_cmp_total.trans (part a) (part b) (part c);
  congr = λ a b c. nat_cmp_total.congr (part a) (part b) (part c);
}

total : IsTotalOrder by_place
total = then_total (then_total (on_total (λ k. k.0)) (on_total (λ k. k.1))) (on_total (λ k. k.2))

-- the number at a key
abbrev at_key : List Line → Key → Option ℕ
at_key lines k = count_of lines k.2 (k.0, k.1)

-- each line is above the key
data Above (k : Key) : List Line → Type 0 where
  none : Above k []
  more : {x : Line} {lines : List Line} → by_place k (key x) ≡ Less → Above k lines → Above k (x ∷ lines)

above_all : (k : Key) (x : Line) (lines : List Line) → by_place k (key x) ≡ Less
    → IsStrictlySortedBy by_place (map key (x ∷ lines)) → Above k (x ∷ lines)
unfolding IsStrictlySortedBy
above_all k x [] less sorted = more less none
above_all k x (y ∷ lines) less sorted =
    more less (above_all k y lines (total.trans k (key x) (key y) less sorted.0.0) sorted.1)

after_head : (x : Line) (lines : List Line) → IsStrictlySortedBy by_place (map key (x ∷ lines)) → Above (key x) lines
unfolding IsStrictlySortedBy
after_head x [] sorted = none
after_head x (y ∷ lines) sorted = above_all (key x) y lines sorted.0.0 sorted.1

apart : (k q : Key) → by_place k q ≡ Less → is_same k q ≡ false
apart k q less = sym (same_key k q) ∙ ap is_eq less

-- no line stands at a key that is below all
not_there : (k : Key) (lines : List Line) → Above k lines → at_key lines k ≡ None
not_there k [] none = refl
not_there k (x ∷ lines) (more less rest) =
    ap (λ b. if b then Some x.count else at_key lines k) (apart k (key x) less) ∙ not_there k lines rest

itself : (k : Key) → is_same k k ≡ true
itself k = sym (same_key k k) ∙ by_answer (by_place k k) (total.antisymm k k)
  where
    by_answer : (r : Ordering) → r ≡ ordering_reverse r → is_eq r ≡ true
    by_answer Less e = absurd (cc)
    by_answer Equal e = refl
    by_answer Greater e = absurd (cc)

at_head : (x : Line) (lines : List Line) → at_key (x ∷ lines) (key x) ≡ Some x.count
at_head x lines = ap (λ b. if b then Some x.count else at_key lines (key x)) (itself (key x))

no_line : {n : ℕ} {o : Option ℕ} → o ≡ Some n → o ≡ None → ⊥
no_line e f = cc

same_line : (x y : Line) → key x ≡ key y → x.count ≡ y.count → x ≡ y
same_line x y e f =
    let of_key : Key → ℕ → Line = λ k n. record { line = k.0; column = k.1; rule = k.2; count = n } in
    ap (λ k. of_key k x.count) e ∙ ap (of_key (key y)) f

is_equal : (r : Ordering) → is_eq r ≡ true → r ≡ Equal
is_equal Less e = absurd (cc)
is_equal Equal e = refl
is_equal Greater e = absurd (cc)

some_same : {a b : ℕ} → Some a ≡ Some b → a ≡ b
some_same e = cc

-- Two reports that begin with a line each.
module _ (x y : Line) (xs ys : List Line) (sorted_xs : IsStrictlySortedBy by_place (map key (x ∷ xs)))
    (sorted_ys : IsStrictlySortedBy by_place (map key (y ∷ ys)))
    (same : (k : Key) → at_key (x ∷ xs) k ≡ at_key (y ∷ ys) k) where
  same_key_at : (r : Ordering) → by_place (key x) (key y) ≡ r → key x ≡ key y
  same_key_at Less e =
      absurd (no_line (at_head x xs) (same (key x) ∙ not_there (key x) (y ∷ ys)
      (above_all (key x) y ys e sorted_ys)))
  same_key_at Equal e = same_is (key x) (key y) (sym (same_key (key x) (key y)) ∙ ap is_eq e)
  same_key_at Greater e =
      absurd (no_line (at_head y ys) (sym (same (key y)) ∙ not_there (key y) (x ∷ xs)
      (above_all (key y) x xs (total.antisymm (key y) (key x) ∙ ap ordering_reverse e) sorted_xs)))

  heads : key x ≡ key y
  heads = same_key_at (by_place (key x) (key y)) refl

  first_lines : x ≡ y
  first_lines =
      same_line x y heads
      (some_same (sym (at_head x xs) ∙ same (key x) ∙ ap (at_key (y ∷ ys)) heads ∙ at_head y ys))

  other_lines : (k : Key) → at_key xs k ≡ at_key ys k
  other_lines k = by_head (is_same k (key x)) refl
    where
      by_head : (b : Bool) → is_same k (key x) ≡ b → at_key xs k ≡ at_key ys k
      by_head true e =
          let here : k ≡ key x = same_is k (key x) e in
          ap (at_key xs) here ∙ not_there (key x) xs (after_head x xs sorted_xs)
          ∙ sym (ap (at_key ys) (here ∙ heads) ∙ not_there (key y) ys (after_head y ys sorted_ys))
      by_head false e =
          sym (ap (λ b. if b then Some x.count else at_key xs k) e)
          ∙ same k
          ∙ ap (λ b. if b then Some y.count else at_key ys k) (ap (is_same k) (sym heads) ∙ e)

same_lines : (xs ys : List Line) → IsStrictlySortedBy by_place (map key xs) → IsStrictlySortedBy by_place (map key ys)
    → ((k : Key) → at_key xs k ≡ at_key ys k) → xs ≡ ys
unfolding IsStrictlySortedBy
same_lines [] [] s t same = refl
same_lines [] (y ∷ ys) s t same = absurd (no_line (at_head y ys) (sym (same (key y))))
same_lines (x ∷ xs) [] s t same = absurd (no_line (at_head x xs) (same (key x)))
same_lines (x ∷ xs) (y ∷ ys) s t same =
    ap (λ z. z ∷ xs) (first_lines x y xs ys s t same)
    ∙ ap (λ zs. y ∷ zs) (same_lines xs ys s.1 t.1 (other_lines x y xs ys s t same))

pub one_report : OneReport
one_report shown number some others a b =
    same_lines some others a.in_order b.in_order (λ k. a.counts k.2 (k.0, k.1) ∙ sym (b.counts k.2 (k.0, k.1)))
