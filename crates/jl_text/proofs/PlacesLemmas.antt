-- Lines by their starts.
use Rattle.std.proofs.Common.{◌≡◌, ℕ, zero, suc, ◌+◌, ◌-◌, ◌<◌, ◌≤◌, Bool, true, false, cond, List, [], ◌∷◌, refl, sym}
use Rattle.std.proofs.Common.{ap, ◌∙◌, length, get_or, nat_le, arith}
use Rattle.std.proofs.lemmas.Bool.{le-leb, lt-leb}
use Rattle.std.proofs.lemmas.List.Sums.{sum_by-cons}
use Rattle.std.specs.List.{All, count_by}
use Rattle.std.specs.List.Sorted.{IsNonDecreasing, IsPartitionPoint}
use Rattle.jl_text.specs.Places.{ends_line, starts_after, line_table, line_col, position_from, position_of, line_at}
use Rattle.jl_text.specs.Places.{IsLineTable}

IsNonDecreasing-cons : (x : ℕ) (xs : List ℕ) → All (λ y. x < y) xs → IsNonDecreasing xs → IsNonDecreasing (x ∷ xs)
IsNonDecreasing-cons x xs low rising zero zero d order within = omega arith
IsNonDecreasing-cons x xs low rising zero (suc j) d order within = omega (arith, low j d (omega arith))
IsNonDecreasing-cons x xs low rising (suc i) zero d order within = absurd (omega arith)
IsNonDecreasing-cons x xs low rising (suc i) (suc j) d order within = rising i j d (omega arith) (omega arith)

All-cons-above : (x : ℕ) (xs : List ℕ) → All (λ y. x + 1 < y) xs → All (λ y. x < y) ((x + 1) ∷ xs)
All-cons-above x xs above zero d within = omega arith
All-cons-above x xs above (suc k) d within = omega (arith, above k d (omega arith))

-- the starts of lines rise, behind the place at which the units begin, and there are no more than units
pub record RiseAbove (at most : ℕ) (starts : List ℕ) : Type 0 where
  pub above : All (λ y. at < y) starts
  pub rising : IsNonDecreasing starts
  pub few : length starts ≤ most

more_starts : (at most : ℕ) (b : Bool) (starts : List ℕ) → RiseAbove (at + 1) most starts
    → RiseAbove at (suc most) (cond b ((at + 1) ∷ starts) starts)
more_starts at most true starts rise = record {
  above = All-cons-above at starts rise.above;
  rising = IsNonDecreasing-cons (at + 1) starts rise.above rise.rising;
  few = omega arith;
}
more_starts at most false starts rise = record {
  above = λ k d within. omega (arith, rise.above k d within);
  rising = rise.rising;
  few = omega arith;
}

pub starts_after-RiseAbove : (at : ℕ) (us : List ℕ) → RiseAbove at (length us) (starts_after at us)
starts_after-RiseAbove at [] =
    record {
      above = λ k d within. absurd (omega arith);
      rising = λ i j d order within. absurd (omega arith);
      few =
          omega arith;
    }
starts_after-RiseAbove at (u ∷ us) = more_starts at (length us) (ends_line u (get_or us 0 0))
    (starts_after (at + 1) us) (starts_after-RiseAbove (at + 1) us)

pub line_table-IsLineTable : (units : List ℕ) → length units < 4294967295
    → IsLineTable (0 ∷ starts_after 0 units) (length units)
line_table-IsLineTable units short =
    let rise = starts_after-RiseAbove 0 units in record {
      first = refl;
      some = omega arith;
      rising = IsNonDecreasing-cons 0 (starts_after 0 units) rise.above rise.rising;
      few = omega arith;
      short = short;
    }

-- as many elements pass a test as stand before the place where it turns
pub count_by-partition : (p : ℕ → Bool) (xs : List ℕ) (i : ℕ) → i ≤ length xs
    → IsPartitionPoint (λ y. p y ≡ true) (λ y. p y ≡ false) xs i → count_by p xs ≡ i
count_by-partition p [] i within point = omega arith
count_by-partition p (x ∷ xs) zero within point =
    let fails : cond {A = ℕ} (p x) 1 0 ≡ 0 = ap (λ b. cond b 1 0) (point.1 0 x (omega arith) (omega arith)) in
    let rest = count_by-partition p xs 0 (omega arith)
    (λ k d low high. absurd (omega arith), λ k d low high. point.1 (suc k) d (omega arith) (omega arith)) in
    omega (arith, sum_by-cons (λ y. cond (p y) 1 0) x xs, fails, rest)
count_by-partition p (x ∷ xs) (suc i) within point =
    let passes : cond {A = ℕ} (p x) 1 0 ≡ 1 = ap (λ b. cond b 1 0) (point.0 0 x (omega arith) (omega arith)) in
    let rest = count_by-partition p xs i (omega arith) (
      λ k d low high. point.0 (suc k) d (omega arith) (omega arith),
      λ k d low high. point.1 (suc k) d (omega arith) (omega arith),
    ) in
    omega (arith, sum_by-cons (λ y. cond (p y) 1 0) x xs, passes, rest)

line_at-before : (at : ℕ) (starts : List ℕ) → All (λ y. at < y) starts → line_at starts at ≡ 0
line_at-before at starts above = count_by-partition (λ start. nat_le start at) starts 0 (omega arith)
    (λ k d low high. absurd (omega arith), λ k d low high. lt-leb _ _ (above k d high))

line_at-cons : (at start : ℕ) (starts : List ℕ) → start ≤ at → line_at (start ∷ starts) at ≡ suc (line_at starts at)
line_at-cons at start starts low =
    let passes : cond {A = ℕ} (nat_le start at) 1 0 ≡ 1 = ap (λ b. cond b 1 0) (le-leb start at low) in
    omega (arith, sum_by-cons (λ y. cond (nat_le y at) 1 0) start starts, passes)

-- the line and the column at `at`, by the starts of lines behind the line that starts at `start` and has the number
-- `line`
abbrev by_starts : ℕ → ℕ → List ℕ → ℕ → ℕ → ℕ × ℕ
by_starts line start starts at passed = (line + passed, at - get_or (start ∷ starts) passed 0 + 1)

module _ (line start from at n : ℕ) (us : List ℕ) (low : start ≤ from) (place : at ≡ from + suc n) where
  -- the two ways on after one unit, from what holds of the units behind it
  after_one : (b : Bool) → position_from (line + 1) 1 us n
      ≡ by_starts (line + 1) (from + 1) (starts_after (from + 1) us) at (line_at (starts_after (from + 1) us) at)
      → position_from line (from - start + 1 + 1) us n ≡ by_starts line start (starts_after (from + 1) us) at
      (line_at (starts_after (from + 1) us) at)
      → cond b (position_from (line + 1) 1 us n) (position_from line (from - start + 1 + 1) us n)
      ≡ by_starts line start (cond b ((from + 1) ∷ starts_after (from + 1) us) (starts_after (from + 1) us)) at
      (line_at (cond b ((from + 1) ∷ starts_after (from + 1) us) (starts_after (from + 1) us)) at)
  after_one true next same =
      let passed = line_at (starts_after (from + 1) us) at in
      next ∙ ap (λ l. (l, at - get_or ((from + 1) ∷ starts_after (from + 1) us) passed 0 + 1)) {x = line + 1 + passed}
      {y = line + suc passed} (omega arith)
      ∙ ap (by_starts line start ((from + 1) ∷ starts_after (from + 1) us) at)
      (sym (line_at-cons at (from + 1) (starts_after (from + 1) us) (omega arith)))
  after_one false next same = same

pub same_position : (l m c d : ℕ) → l ≡ m → c ≡ d → ◌≡◌ {A = ℕ × ℕ} (l, c) (m, d)
same_position l m c d lines columns = cc

position_from-starts : (us : List ℕ) (line start from n at : ℕ) → n ≤ length us → start ≤ from → at ≡ from + n
    → position_from line (from - start + 1) us n ≡ by_starts line start (starts_after from us) at
    (line_at (starts_after from us) at)
position_from-starts [] line start from n at within low place =
    same_position line (line + 0) (from - start + 1) (at - start + 1) (omega arith) (omega arith)
position_from-starts (u ∷ us) line start from zero at within low place =
    let before = line_at-before at (starts_after from (u ∷ us))
    (λ k d h. omega (arith, (starts_after-RiseAbove from (u ∷ us)).above k d h)) in
    same_position line (line + 0) (from - start + 1) (at - start + 1) (omega arith) (omega arith)
    ∙ ap (by_starts line start (starts_after from (u ∷ us)) at) (sym before)
position_from-starts (u ∷ us) line start from (suc n) at within low place =
    after_one line start from at n us low place (ends_line u (get_or us 0 0))
    (ap (λ c. position_from (line + 1) c us n) {x = 1} {y = from + 1 - (from + 1) + 1} (omega arith)
    ∙ position_from-starts us (line + 1) (from + 1) (from + 1) n at (omega arith) (omega arith) (omega arith))
    (ap (λ c. position_from line c us n) {x = from - start + 1 + 1} {y = from + 1 - start + 1} (omega arith)
    ∙ position_from-starts us line start (from + 1) n at (omega arith) (omega arith) (omega arith))

abbrev place_on : List ℕ → ℕ → ℕ → ℕ × ℕ
place_on starts line at = (line, at - get_or starts (line - 1) 0 + 1)

pub line_col-line_table : (units : List ℕ) (at : ℕ) → at ≤ length units
    → line_col (line_table units) at ≡ position_of units at
line_col-line_table units at within =
    let passed = line_at (starts_after 0 units) at in
    let counted = line_at-cons at 0 (starts_after 0 units) (omega arith) in
    ap (λ l. place_on (0 ∷ starts_after 0 units) l at) counted
    ∙ same_position (suc passed) (1 + passed) (at - get_or (0 ∷ starts_after 0 units) (suc passed - 1) 0 + 1)
    (at - get_or (0 ∷ starts_after 0 units) passed 0 + 1)
    (omega arith) (ap (λ l. at - get_or (0 ∷ starts_after 0 units) l 0 + 1) {x = suc passed - 1} {y = passed}
    (omega arith))
    ∙ sym (position_from-starts units 1 0 0 at at within (omega arith) (omega arith))

pub line_at-some : (starts : List ℕ) (at : ℕ) → 0 < length starts → get_or starts 0 0 ≡ 0 → 1 ≤ line_at starts at
line_at-some [] at some first = absurd (omega arith)
line_at-some (start ∷ starts) at some first = omega (arith, line_at-cons at start starts (omega arith))
