-- Reports by tests that agree on all rules: a number that is no rule's has no hits.
use Rattle.std.proofs.Common.{◌≡◌, ℕ, zero, suc, ◌≤◌, Bool, true, false, ◌&&◌, not, nat_lt, List, [], None}
use Rattle.std.proofs.Common.{if◌then◌else◌}
use Rattle.std.proofs.Common.{◌⊎◌, inl, inr, refl, sym, ap, ◌∙◌, arith, count_by}
use Rattle.std.proofs.lemmas.Option.{slice_get_past}
use Rattle.jl_analysis.specs.Rules.{IsRule, rule_at, rules}
use Rattle.jl_op.specs.Operations.{Operation}
use Rattle.jl_report.specs.declared.line.Line.{Line}
use Rattle.jl_report.specs.Off.{Pair, is_off}
use Rattle.jl_report.specs.Reports.{Place, is_place, place_of, if_any, hits_at, IsReport}
use Rattle.jl_report.proofs.Hits.{no_hits_after}

small : (k : ℕ) → nat_lt k 20 ≡ true → suc k ≤ 20
small k e = grind arith

great : (k : ℕ) → nat_lt k 20 ≡ false → 20 ≤ k
great k e = grind arith

-- each number is that of a rule, or of none
rule_or_none : (rule : ℕ) → IsRule rule ⊎ (rule_at rule ≡ None)
unfolding rules
rule_or_none zero = inr refl
rule_or_none (suc k) = by_size (nat_lt k 20) refl
  where
    by_size : (b : Bool) → nat_lt k 20 ≡ b → IsRule (suc k) ⊎ (rule_at (suc k) ≡ None)
    by_size true e = inl (omega arith, small k e)
    by_size false e = inr (slice_get_past rules k (omega (arith, great k e)))

none_at : (places : List Place) (ops : List Operation) (rule : ℕ) (at : Place) → rule_at rule ≡ None
    → hits_at places ops rule at ≡ 0
none_at places ops rule at e = ap (count_by (λ id. is_place at (place_of places id))) (no_hits_after rule [] ops e)

no_line : (b d on : Bool) (n : ℕ) → n ≡ 0 → (if b && on then if_any n else None) ≡ (if d && on then if_any n else None)
no_line true true on n e = refl
no_line false false on n e = refl
no_line true false true n e = ap if_any e
no_line true false false n e = refl
no_line false true true n e = sym (ap if_any e)
no_line false true false n e = refl

-- reports by tests that agree on all rules
pub same_reports : (chosen other : ℕ → Bool) → ((rule : ℕ) → IsRule rule → chosen rule ≡ other rule)
    → (off : List Pair) (places : List Place) (ops : List Operation) (lines : List Line)
    → IsReport chosen off places ops lines → IsReport other off places ops lines
same_reports chosen other same off places ops lines is = record {
  in_order = is.in_order;
  counts = λ rule at. is.counts rule at ∙ (elim (rule_or_none rule) [
    | inl listed ↦ ap (λ b. if b && not (is_off off at.0 rule) then if_any (hits_at places ops rule at) else None)
        (same rule listed)
    | inr none ↦ no_line (chosen rule) (other rule) (not (is_off off at.0 rule)) (hits_at places ops rule at)
        (none_at places ops rule at none)
  ]);
}

-- where all rules are chosen, no number has to be asked for
pub of_every_rule : (chosen : ℕ → Bool) (off : List Pair) (places : List Place) (ops : List Operation)
    (lines : List Line)
    → ((rule : ℕ) → IsRule rule → chosen rule ≡ true) → IsReport chosen off places ops lines
    → IsReport (λ rule. true) off places ops lines
of_every_rule chosen off places ops lines all = same_reports chosen (λ rule. true) all off places ops lines
