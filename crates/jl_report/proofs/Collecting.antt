-- The numbers grow by what each checker of a chosen rule found, and are in the end those of the report.
use Rattle.std.proofs.Common.{◌≡◌, ℕ, ◌+◌, ◌<◌, ◌^◌, Bool, true, false, nat_eq, ◌==◌, List, length, take}
use Rattle.std.proofs.Common.{get_or, map}
use Rattle.std.proofs.Common.{Option, None, Some, Result, Ok, Err, IfOk, Vec, Global, slice_get, option_map}
use Rattle.std.proofs.Common.{refl, sym, ap, ◌∙◌, subst, arith, inl, inr}
use Rattle.std.proofs.Math.Seq.{take-length}
use Rattle.std.proofs.lemmas.Option.{slice_get_within, slice_get_cases}
use Rattle.std.specs.BTreeMap.{IsOrdered}
use Rattle.std.specs.Prelude.{if◌then◌else◌, filter, not}
use Rattle.jl_analysis.specs.Rules.{all_rules}
use Rattle.jl_analysis.specs.Summary.{Counts, summary}
use Rattle.jl_op.specs.Operations.{Operation}
use Rattle.jl_report.specs.declared.line.Line.{Line}
use Rattle.jl_report.specs.inner.Collected.{Collected, number_in, HasHits}
use Rattle.jl_report.specs.Off.{Pair, is_off}
use Rattle.jl_report.specs.Reports.{Key, Place, Findings, key, by_place, total_at, found_at, saturate_u64, is_shown}
use Rattle.jl_report.specs.Reports.{IsReport, IsReportOfFindings, if_any}
use Rattle.jl_report.proofs.Hits.{findings_of, all_total, hits_capped}
use Rattle.jl_report.proofs.Listing.{lists}
use Rattle.jl_report.proofs.Totals.{found_at-next}

-- what a pair is whose parts are known
pub pair_at : (o : Option (ℕ × Counts)) (rule : ℕ) (found : Counts) → option_map (λ x. x.0) o ≡ Some rule
    → option_map (λ x. x.1) o ≡ Some found → o ≡ Some (rule, found)
pair_at None rule found e f = cc
pair_at (Some x) rule found e f =
    let first : x.0 ≡ rule = cc in
    let second : x.1 ≡ found = cc in
    ap (λ r. Some (r, x.1)) first ∙ ap (λ c. Some (rule, c)) second

pub some_at : (o : Option (ℕ × Counts)) (rule : ℕ) → option_map (λ x. x.0) o ≡ Some rule
    → (found : Counts) × (o ≡ Some (rule, found))
some_at None rule e = cc
some_at (Some x) rule e = let first : x.0 ≡ rule = cc in (x.1, ap (λ r. Some (r, x.1)) first)

get_or_at : (fs : Findings) (i : ℕ) (x : ℕ × Counts) → slice_get fs i ≡ Some x → get_or fs i x ≡ x
get_or_at fs i x e = elim ((slice_get_cases fs i).1) [
  | inl w ↦ let same : w.0 ≡ x = some_same (sym w.2 ∙ e) in
      subst (λ y. get_or fs i y ≡ y) same w.3
  | inr w ↦ absurd (none_some (sym w.1 ∙ e))
]
  where
    some_same : {a b : ℕ × Counts} → Some a ≡ Some b → a ≡ b
    some_same e = cc

    none_some : {b : ℕ × Counts} → None ≡ Some b → ⊥
    none_some e = cc

-- the numbers that are collected fit their type
pub few_here : (chosen : Bool) (n number : ℕ) → number ≡ (if chosen then saturate_u64 n else 0) → number < 2 ^ 64
few_here true n number is = omega arith
few_here false n number is = omega arith

-- one checker more
next : (places : List Place) (fs : Findings) (i rule : ℕ) (found : Counts) (other : ℕ) (at : Place)
    → slice_get fs i ≡ Some (rule, found)
    → found_at places (take (i + 1) fs) other at
    ≡ found_at places (take i fs) other at + (if rule == other then total_at places found at else 0)
next places fs i rule found other at here =
    found_at-next places fs i (rule, found) other at (slice_get_within fs i (rule, found) here)
    ∙ ap (λ x. found_at places (take i fs) other at + (if x.0 == other then total_at places x.1 at else 0))
    (get_or_at fs i (rule, found) here)

capped_twice : (n m : ℕ) → saturate_u64 (saturate_u64 n + m) ≡ saturate_u64 (n + m)
capped_twice n m = omega arith

taken_by : (chosen same : Bool) (n t old new : ℕ) → (same ≡ true → chosen ≡ true)
    → old ≡ (if chosen then saturate_u64 n else 0)
    → new ≡ saturate_u64 (old + (if same then t else 0))
    → new ≡ (if chosen then saturate_u64 (n + (if same then t else 0)) else 0)
taken_by true same n t old new h e f =
    f ∙ ap (λ x. saturate_u64 (x + (if same then t else 0))) e ∙ capped_twice n (if same then t else 0)
taken_by false true n t old new h e f = let no : false ≡ true = h refl in absurd (cc)
taken_by false false n t old new h e f = omega arith

passed_by : (chosen same : Bool) (n t old : ℕ) → (same ≡ true → chosen ≡ false)
    → old ≡ (if chosen then saturate_u64 n else 0)
    → old ≡ (if chosen then saturate_u64 (n + (if same then t else 0)) else 0)
passed_by false same n t old h e = e
passed_by true true n t old h e = let no : true ≡ false = h refl in absurd (cc)
passed_by true false n t old h e = omega arith

same_number : (a b : ℕ) → nat_eq a b ≡ true → a ≡ b
same_number a b e = grind arith

-- what the checker of a chosen rule found is added
pub taken : (places : List Place) (fs : Findings) (i rule : ℕ) (found : Counts) (chosen : ℕ
    → Bool) (k : Key) (old new : ℕ)
    → slice_get fs i ≡ Some (rule, found) → chosen rule ≡ true
    → old ≡ (if chosen k.2 then saturate_u64 (found_at places (take i fs) k.2 (k.0, k.1)) else 0)
    → new ≡ saturate_u64 (old + (if rule == k.2 then total_at places found (k.0, k.1) else 0))
    → new ≡ (if chosen k.2 then saturate_u64 (found_at places (take (i + 1) fs) k.2 (k.0, k.1)) else 0)
taken places fs i rule found chosen k old new here is e f =
    taken_by (chosen k.2) (rule == k.2) _ _ old new (λ s. ap chosen (sym (same_number rule k.2 s)) ∙ is) e f
    ∙ ap (λ n. if chosen k.2 then saturate_u64 n else 0) (sym (next places fs i rule found k.2 (k.0, k.1) here))

-- and of any other passed over
pub passed : (places : List Place) (fs : Findings) (i rule : ℕ) (found : Counts) (chosen : ℕ → Bool) (k : Key) (old : ℕ)
    → slice_get fs i ≡ Some (rule, found) → chosen rule ≡ false
    → old ≡ (if chosen k.2 then saturate_u64 (found_at places (take i fs) k.2 (k.0, k.1)) else 0)
    → old ≡ (if chosen k.2 then saturate_u64 (found_at places (take (i + 1) fs) k.2 (k.0, k.1)) else 0)
passed places fs i rule found chosen k old here is e =
    passed_by (chosen k.2) (rule == k.2) _ (total_at places found (k.0, k.1)) old
    (λ s. ap chosen (sym (same_number rule k.2 s)) ∙ is) e
    ∙ ap (λ n. if chosen k.2 then saturate_u64 n else 0) (sym (next places fs i rule found k.2 (k.0, k.1) here))

-- the report of all that was found
pub all_listed : (chosen : ℕ → Bool) (off : List Pair) (places : List Place) (fs : Findings) (i : ℕ) (hits : Collected)
    (lines : List Line)
    → i ≡ length fs
    → map (λ x. (key x, x.count)) lines ≡ filter (λ e. not (is_off off e.0.0 e.0.2)) hits.entries
    → IsOrdered by_place hits → HasHits hits
    → ((k : Key) → number_in hits k
    ≡ (if chosen k.2 then saturate_u64 (found_at places (take i fs) k.2 (k.0, k.1)) else 0))
    → IsReportOfFindings chosen off places fs lines
all_listed chosen off places fs i hits lines e listed ordered some numbers =
    lists chosen off (λ rule at. saturate_u64 (found_at places fs rule at)) hits lines listed ordered some
    (λ k. numbers k ∙ ap (λ l. if chosen k.2 then saturate_u64 (found_at places l k.2 (k.0, k.1)) else 0)
    (ap (λ j. take j fs) e ∙ take-length fs))

-- is the report of the operations that checkers of all rules were told of
pub is_done : (chosen : ℕ → Bool) (off : List Pair) (places : List Place) (fs : Findings) (rules : List ℕ)
    (told : List Operation) (lines : List Line)
    → IsReportOfFindings chosen off places fs lines → rules ≡ all_rules
    → fs ≡ map (λ rule. (rule, (summary rule told).counts)) rules → length told < 2 ^ 64
    → IsReport chosen off places told lines
is_done chosen off places fs rules told lines are r f h = record {
  in_order = are.in_order;
  counts = λ rule at. are.counts rule at
      ∙ ap (λ n. if is_shown chosen off rule at then if_any n else None)
      (ap (λ x. saturate_u64 (found_at places x rule at)) (f ∙ ap (λ l. findings_of l told) r)
      ∙ ap saturate_u64 (all_total rule places at told h) ∙ hits_capped places told rule at h);
}

-- what holds of lines that are made
pub made : {E : Type 0} (r : Result (Vec Line Global) E) (P Q : List Line → Type 0) → ((lines : List Line) → P lines
    → Q lines)
    → IfOk r (λ v. P v.items) → IfOk r (λ v. Q v.items)
made (Ok v) P Q f p = f v.items p
made (Err e) P Q f p = tt
