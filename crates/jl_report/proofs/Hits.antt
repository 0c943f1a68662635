-- What checkers find that were told of operations are the hits of their rules.
use Rattle.std.proofs.Common.{◌≡◌, ℕ, zero, suc, ◌+◌, ◌^◌, ◌<◌, ◌≤◌, Bool, true, false, nat_eq, nat_lt, ◌==◌, List}
use Rattle.std.proofs.Common.{[], ◌∷◌, ◌++◌, length, map}
use Rattle.std.proofs.Common.{sum_by, refl, sym, ap, ◌∙◌, arith, inl, inr}
use Rattle.std.proofs.lemmas.List.Sums.{sum_by-cons, count_by-le-length}
use Rattle.std.proofs.lemmas.Option.{slice_get_past}
use Rattle.std.specs.Prelude.{if◌then◌else◌, count_by, fold, None, ◌⊎◌}
use Rattle.jl_op.specs.declared.op.Op.{Op}
use Rattle.jl_op.specs.declared.op.OpId.{OpId}
use Rattle.jl_op.specs.Operations.{Operation}
use Rattle.jl_analysis.specs.Memories.{one_more}
use Rattle.jl_analysis.specs.Rules.{hit, hits_by, rule_at, all_rules, rules}
use Rattle.jl_analysis.specs.Summary.{Counts, add_hit, hits_after, hits, summary}
use Rattle.jl_report.specs.Reports.{Place, Findings, saturate_u64, nth, is_place, place_of, total_at, found_at, hits_at}
use Rattle.jl_report.proofs.Totals.{number, here}

-- One more hit.

one_more_is : (n : ℕ) → n + 1 < 2 ^ 64 → one_more n ≡ n + 1
one_more_is n h = omega arith

counted_sum : (c : Counts) (id : OpId) → sum_by number c + 1 < 2 ^ 64
    → sum_by number (add_hit c id) ≡ sum_by number c + 1
counted_sum [] id h = refl
counted_sum (x ∷ c) id h =
    counted_sum_by (nat_eq id.0 x.0.0) (counted_sum c id (omega (arith, sum_by-cons number x c)))
  where
    counted_sum_by : (b : Bool) → sum_by number (add_hit c id) ≡ sum_by number c + 1
        → sum_by number (if b then (x.0, one_more x.1) ∷ c else x ∷ add_hit c id) ≡ sum_by number (x ∷ c) + 1
    counted_sum_by true r = omega (arith, sum_by-cons number x c, sum_by-cons number (x.0, one_more x.1) c)
    counted_sum_by false r = omega (arith, sum_by-cons number x c, sum_by-cons number x (add_hit c id))

-- whether an id is at a place, as a number
abbrev one_at : List Place → Place → OpId → ℕ
one_at places at id = if is_place at (place_of places id) then 1 else 0

if_more : (b : Bool) (n : ℕ) → (if b then n + 1 else 0) ≡ (if b then n else 0) + (if b then 1 else 0)
if_more true n = refl
if_more false n = refl

same_at : (places : List Place) (at : Place) (i j : OpId) → nat_eq i.0 j.0 ≡ true
    → one_at places at j ≡ one_at places at i
same_at places at i j e = let same : j.0 ≡ i.0 = grind arith in
    ap (λ n. if is_place at (nth places n) then 1 else 0) same

counted_total : (places : List Place) (at : Place) (c : Counts) (id : OpId) → sum_by number c + 1 < 2 ^ 64
    → total_at places (add_hit c id) at ≡ total_at places c at + one_at places at id
counted_total places at [] id h = omega arith
counted_total places at (x ∷ c) id h =
    counted_total_by (nat_eq id.0 x.0.0) refl
    (counted_total places at c id (omega (arith, sum_by-cons number x c)))
  where
    counted_total_by : (b : Bool) → nat_eq id.0 x.0.0 ≡ b
        → total_at places (add_hit c id) at ≡ total_at places c at + one_at places at id
        → total_at places (if b then (x.0, one_more x.1) ∷ c else x ∷ add_hit c id) at
        ≡ total_at places (x ∷ c) at + one_at places at id
    counted_total_by true e r =
        let more : here places at (x.0, one_more x.1) ≡ here places at x + one_at places at x.0 =
        ap (λ n. if is_place at (place_of places x.0) then n else 0)
        (one_more_is x.1 (omega (arith, sum_by-cons number x c)))
        ∙ if_more (is_place at (place_of places x.0)) x.1 in
        omega (
          arith,
          sum_by-cons (here places at) x c,
          sum_by-cons (here places at) (x.0, one_more x.1) c,
          same_at places at id x.0 e,
        )
    counted_total_by false e r =
        omega (arith, sum_by-cons (here places at) x c, sum_by-cons (here places at) x (add_hit c id))

-- All hits.

fold_sum : (ids : List OpId) (c : Counts) → sum_by number c + length ids < 2 ^ 64
    → sum_by number (fold add_hit c ids) ≡ sum_by number c + length ids
fold_sum [] c h = omega arith
fold_sum (id ∷ ids) c h =
    let one = counted_sum c id (omega arith) in
    let rest = fold_sum ids (add_hit c id) (omega arith) in
    omega arith

fold_total : (places : List Place) (at : Place) (ids : List OpId) (c : Counts) → sum_by number c + length ids < 2 ^ 64
    → total_at places (fold add_hit c ids) at
    ≡ total_at places c at + count_by (λ id. is_place at (place_of places id)) ids
fold_total places at [] c h = omega arith
fold_total places at (id ∷ ids) c h =
    let sum = counted_sum c id (omega arith) in
    let one = counted_total places at c id (omega arith) in
    let rest = fold_total places at ids (add_hit c id) (omega arith) in
    omega (arith, sum_by-cons (one_at places at) id ids)

-- there are no more hits than operations
hits_within : (rule : ℕ) (before : List Op) (ops : List Operation) → length (hits_after rule before ops) ≤ length ops
hits_within rule before [] = omega arith
hits_within rule before (x ∷ ops) = within_by (hit rule before x.1) (hits_within rule (before ++ x.1 ∷ []) ops)
  where
    within_by : (b : Bool) → length (hits_after rule (before ++ x.1 ∷ []) ops) ≤ length ops
        → length ((if b then x.0 ∷ [] else []) ++ hits_after rule (before ++ x.1 ∷ []) ops) ≤ suc (length ops)
    within_by true h = omega arith
    within_by false h = omega arith

hits_few : (rule : ℕ) (ops : List Operation) → length ops < 2 ^ 64 → length (hits rule ops) < 2 ^ 64
hits_few rule ops h = let w = hits_within rule [] ops in omega arith

-- the hits at a place are those of the counts there
pub summary_total : (rule : ℕ) (places : List Place) (at : Place) (ops : List Operation) → length ops < 2 ^ 64
    → total_at places (summary rule ops).counts at ≡ hits_at places ops rule at
summary_total rule places at ops h =
    let few = hits_few rule ops h in
    let e = fold_total places at (hits rule ops) [] (omega arith) in
    omega arith

-- what the checkers of these rules find that were told of the operations
abbrev pub findings_of : (rules : List ℕ) → List Operation → Findings
findings_of rules ops = map (λ rule. (rule, (summary rule ops).counts)) rules

-- so many for each time that the rule is among these
abbrev amount : ℕ → ℕ → List ℕ → ℕ
amount rule n rules = sum_by (λ other. if other == rule then n else 0) rules

findings_total : (rules : List ℕ) (rule : ℕ) (places : List Place) (at : Place) (ops : List Operation)
    → length ops < 2 ^ 64
    → found_at places (findings_of rules ops) rule at ≡ amount rule (hits_at places ops rule at) rules
findings_total [] rule places at ops h = refl
findings_total (r ∷ rules) rule places at ops h =
    sum_by-cons (λ f. if f.0 == rule then total_at places f.1 at else 0) (r, (summary r ops).counts)
    (findings_of rules ops)
    ∙ ap (λ n. (if r == rule then total_at places (summary r ops).counts at else 0) + n)
    (findings_total rules rule places at ops h)
    ∙ ap (λ n. n + amount rule (hits_at places ops rule at) rules) (one (nat_eq r rule) refl)
    ∙ sym (sum_by-cons (λ other. if other == rule then hits_at places ops rule at else 0) r rules)
  where
    one : (b : Bool) → nat_eq r rule ≡ b → (if b then total_at places (summary r ops).counts at else 0)
        ≡ (if b then hits_at places ops rule at else 0)
    one true e =
        let same : r ≡ rule = grind arith in
        summary_total r places at ops h ∙ ap (λ x. hits_at places ops x at) same
    one false e = refl

-- so many numbers from a on
abbrev from : (a k : ℕ) → List ℕ
from a zero = []
from a (suc k) = a ∷ from (suc a) k

below : (rule n a k : ℕ) → rule < a → amount rule n (from a k) ≡ 0
below rule n a zero h = refl
below rule n a (suc k) h = step (nat_eq a rule) refl (below rule n (suc a) k (omega arith))
    (sum_by-cons (λ other. if other == rule then n else 0) a (from (suc a) k))
  where
    step : (b : Bool) → nat_eq a rule ≡ b → {rest all : ℕ} → rest ≡ 0 → all ≡ (if b then n else 0) + rest → all ≡ 0
    step true e r f = absurd (grind arith)
    step false e r f = omega (arith, r, f)

not_same : (a b : ℕ) → a ≤ b → nat_eq a b ≡ false → a < b
not_same a b h e = grind arith

within : (rule n a k : ℕ) → a ≤ rule → rule < a + k → amount rule n (from a k) ≡ n
within rule n a zero h l = absurd (omega arith)
within rule n a (suc k) h l = step (nat_eq a rule) refl (λ m. within rule n (suc a) k m (omega arith))
    (sum_by-cons (λ other. if other == rule then n else 0) a (from (suc a) k))
  where
    step : (b : Bool) → nat_eq a rule ≡ b → (suc a ≤ rule → amount rule n (from (suc a) k) ≡ n) → {all : ℕ}
        → all ≡ (if b then n else 0) + amount rule n (from (suc a) k) → all ≡ n
    step true e r f =
        let same : a ≡ rule = grind arith in
        omega (arith, f, below rule n (suc a) k (omega arith))
    step false e r f =
        let other : a < rule = not_same a rule h e in
        omega (arith, f, r (omega arith))

above : (rule n a k : ℕ) → a + k ≤ rule → amount rule n (from a k) ≡ 0
above rule n a zero h = refl
above rule n a (suc k) h = step (nat_eq a rule) refl (above rule n (suc a) k (omega arith))
    (sum_by-cons (λ other. if other == rule then n else 0) a (from (suc a) k))
  where
    step : (b : Bool) → nat_eq a rule ≡ b → {rest all : ℕ} → rest ≡ 0 → all ≡ (if b then n else 0) + rest → all ≡ 0
    step true e r f = absurd (grind arith)
    step false e r f = omega (arith, r, f)

small : (k : ℕ) → nat_lt k 20 ≡ true → suc k < 21
small k e = grind arith

great : (k : ℕ) → nat_lt k 20 ≡ false → 21 ≤ suc k
great k e = grind arith

-- each number is that of one rule, or of none
once : (rule n : ℕ) → (amount rule n all_rules ≡ n) ⊎ ((amount rule n all_rules ≡ 0) × (rule_at rule ≡ None))
unfolding rules
once zero n = inr (refl, refl)
once (suc k) n = by_size (nat_lt k 20) refl
  where
    by_size : (b : Bool) → nat_lt k 20 ≡ b
        → (amount (suc k) n all_rules ≡ n) ⊎ ((amount (suc k) n all_rules ≡ 0) × (rule_at (suc k) ≡ None))
    by_size true e = inl (within (suc k) n 1 20 (omega arith) (small k e))
    by_size false e = inr (above (suc k) n 1 20 (great k e), slice_get_past rules k (omega (arith, great k e)))

-- a number that is no rule's has no hits
pub no_hits_after : (rule : ℕ) (before : List Op) (ops : List Operation) → rule_at rule ≡ None
    → hits_after rule before ops ≡ []
unfolding hit
no_hits_after rule before [] e = refl
no_hits_after rule before (x ∷ ops) e =
    ap (λ row. (if hits_by row before x.1 then x.0 ∷ [] else []) ++ hits_after rule (before ++ x.1 ∷ []) ops) e
    ∙ no_hits_after rule (before ++ x.1 ∷ []) ops e

-- the checkers of all rules find the hits of each
pub all_total : (rule : ℕ) (places : List Place) (at : Place) (ops : List Operation) → length ops < 2 ^ 64
    → found_at places (findings_of all_rules ops) rule at ≡ hits_at places ops rule at
all_total rule places at ops h = findings_total all_rules rule places at ops h
    ∙ (elim (once rule (hits_at places ops rule at)) [
      | inl one ↦ one
      | inr none ↦ none.0 ∙ sym
          (ap (count_by (λ id. is_place at (place_of places id))) (no_hits_after rule [] ops none.1))
    ])

-- so few hits are not capped
pub hits_capped : (places : List Place) (ops : List Operation) (rule : ℕ) (at : Place) → length ops < 2 ^ 64
    → saturate_u64 (hits_at places ops rule at) ≡ hits_at places ops rule at
hits_capped places ops rule at h =
    let few = hits_few rule ops h in
    let within = count_by-le-length (λ id. is_place at (place_of places id)) (hits rule ops) in
    omega arith
