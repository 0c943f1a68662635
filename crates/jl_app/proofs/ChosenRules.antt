-- A choice of rules, by a set and by numbers: the kinds that they look at, and their reports, are the same.
use Rattle.std.proofs.Common.{◌≡◌, ℕ, zero, suc, ◌+◌, ◌≤◌, ◌<◌, Bool, true, false, ◌&&◌, ◌||◌, not}
use Rattle.std.proofs.Common.{List, None, if◌then◌else◌, refl, ap, ap₂, ◌∙◌, arith, count_by}
use Rattle.std.specs.List.{list_any}
use Rattle.jl_analysis.specs.Chosen.{is_chosen}
use Rattle.jl_analysis.specs.Laws.{NeededIsEnough}
use Rattle.jl_analysis.specs.Rules.{is_needed, looks_at, numbers}
use Rattle.jl_analysis.specs.Summary.{hits}
use Rattle.jl_analysis.specs.declared.rule_set.RuleSet.{RuleSet}
use Rattle.jl_op.specs.Chosen.{is_kept}
use Rattle.jl_op.specs.KindSets.{of_kinds}
use Rattle.jl_op.specs.Operations.{Operation}
use Rattle.jl_op.specs.declared.kind.OpKind.{OpKind}
use Rattle.jl_report.specs.declared.line.Line.{Line}
use Rattle.jl_report.specs.Off.{Pair, is_off}
use Rattle.jl_report.specs.Reports.{IsReport, Place, hits_at, if_any, is_place, place_of}
use Rattle.jl_command.specs.Asked.{is_among}
use Rattle.jl_app.specs.Headline.{kept_of}
use Rattle.jl_command.specs.Meant.{IsChoice}
use Rattle.jl_app.specs.WovenText.{kinds_of}

-- two tests that agree on numbers in a row
same_any : (f g : ℕ → Bool) (first count : ℕ) → ((n : ℕ) → first ≤ n → n < first + count → f n ≡ g n)
    → list_any f (numbers first count) ≡ list_any g (numbers first count)
same_any f g first zero same = refl
same_any f g first (suc count) same =
    ap₂ (λ a b. a || b) (same first (omega arith) (omega arith))
    (same_any f g (first + 1) count (λ n low high. same n (omega (arith, low)) (omega (arith, high))))

-- the kinds that the rules of a choice look at
pub same_kinds : (set : RuleSet) (chosen : List ℕ) → IsChoice set chosen → (kind : OpKind)
    → is_needed (is_chosen set) kind ≡ kinds_of chosen kind
same_kinds set chosen is kind =
    same_any (λ rule. is_chosen set rule && looks_at rule kind) (λ rule. is_among chosen rule && looks_at rule kind)
    1 20
    (λ rule low high. ap (λ b. b && looks_at rule kind) (is rule (low, omega (arith, high))))

shown_line : (b on : Bool) (n m : ℕ) → (b ≡ true → n ≡ m)
    → (if b && on then if_any n else None) ≡ (if b && on then if_any m else None)
shown_line true true n m same = ap if_any (same refl)
shown_line true false n m same = refl
shown_line false on n m same = refl

kept_are : (chosen : List ℕ) (ops : List Operation) → kept_of chosen ops ≡ of_kinds (kinds_of chosen) ops
unfolding is_kept
kept_are chosen ops = refl

-- the report of the operations that chosen rules look at is that of all
pub of_kept : NeededIsEnough → (chosen : List ℕ) (off : List Pair) (places : List Place) (ops : List Operation)
    (lines : List Line) → IsReport (is_among chosen) off places (kept_of chosen ops) lines
    → IsReport (is_among chosen) off places ops lines
of_kept enough chosen off places ops lines is = record {
  in_order = is.in_order;
  counts = λ rule at. is.counts rule at
      ∙ shown_line (is_among chosen rule) (not (is_off off at.0 rule)) (hits_at places (kept_of chosen ops) rule at)
      (hits_at places ops rule at)
      (λ yes. ap (count_by (λ id. is_place at (place_of places id)))
      (ap (hits rule) (kept_are chosen ops)
      ∙ enough (is_among chosen) (kinds_of chosen) (λ kind needed. needed) rule yes ops));
}
