-- The report: how often each rule hit at each place.
use Rattle.std.specs.Prelude.{◌≡◌, ℕ, zero, suc, ◌^◌, ◌-◌, min, Bool, false, not, ◌&&◌, ◌==◌, List, [], ◌∷◌, map}
use Rattle.std.specs.Prelude.{Option}
use Rattle.std.specs.Prelude.{None, Some, slice_get, count_by, sum_by, if◌then◌else◌}
use Rattle.std.specs.Ordering.{nat_cmp, ordering_then}
use Rattle.std.specs.declared.cmp.Ordering.{Ordering}
use Rattle.std.specs.List.Sorted.{IsStrictlySortedBy}
use Rattle.jl_op.specs.declared.op.OpId.{OpId}
use Rattle.jl_op.specs.Map.{MapRow}
use Rattle.jl_op.specs.Operations.{Operation}
use Rattle.jl_text.specs.Places.{LineTable, line_col}
use Rattle.jl_analysis.specs.Summary.{Counts, hits}
use Rattle.jl_report.specs.Off.{Pair, is_off}
use Rattle.jl_report.specs.declared.line.Line.{Line}

-- a line and a column
abbrev pub Place : Type 0
Place = ℕ × ℕ

abbrev pub nth : List Place → ℕ → Option Place
nth places zero = None
nth places (suc n) = slice_get places n

-- where the part of the script with this id begins, of which the first has the id 1; an id that no part has, has no
-- place
abbrev pub place_of : (places : List Place) → OpId → Option Place
place_of places id = nth places id.0

-- the places where the parts of a map begin, by the lines of the source
abbrev pub places_of : LineTable → List MapRow → List Place
places_of lines rows = map (λ row. line_col lines row.1.from) rows

-- it is this place
abbrev pub is_place : (at : Place) → Option Place → Bool
is_place at None = false
is_place at (Some place) = place.0 == at.0 && place.1 == at.1

-- how often the rule hits at this place
abbrev pub hits_at : (places : List Place) → List Operation → (rule : ℕ) → (at : Place) → ℕ
hits_at places operations rule at = count_by (λ id. is_place at (place_of places id)) (hits rule operations)

-- how many of these hits are at this place
abbrev pub total_at : (places : List Place) → Counts → (at : Place) → ℕ
total_at places counts at = sum_by (λ x. if is_place at (place_of places x.0) then x.1 else 0) counts

-- what checkers found: the number of each one's rule, and its counts
abbrev pub Findings : Type 0
Findings = List (ℕ × Counts)

-- how many hits of the rule they found at this place
abbrev pub found_at : (places : List Place) → Findings → (rule : ℕ) → (at : Place) → ℕ
found_at places findings rule at = sum_by (λ f. if f.0 == rule then total_at places f.1 at else 0) findings

-- a number that stands still at the end of its type
abbrev pub saturate_u64 : ℕ → ℕ
saturate_u64 n = min n (2 ^ 64 - 1)

-- a line stands only where there is a hit
abbrev pub if_any : ℕ → Option ℕ
if_any zero = None
if_any (suc n) = Some (suc n)

-- the number in the line for this rule and place, if there is a line for them
abbrev pub count_of : List Line → (rule : ℕ) → (at : Place) → Option ℕ
count_of [] rule at = None
count_of (x ∷ lines) rule at =
    if (at.0 == x.line && at.1 == x.column) && rule == x.rule then Some x.count else count_of lines rule at

-- what lines are ordered by: the line, the column and then the rule
abbrev pub Key : Type 0
Key = ℕ × ℕ × ℕ

abbrev pub key : Line → Key
key x = (x.line, x.column, x.rule)

abbrev pub by_place : Key → Key → Ordering
by_place a b = ordering_then (ordering_then (nat_cmp a.0 b.0) (nat_cmp a.1 b.1)) (nat_cmp a.2 b.2)

-- These are the lines, where it is given which may stand and how many hits there are: each rule has one at each place
-- where it may stand and the rule hits, with the number of hits there, and there are no others.
pub record AreLines (shown : (rule : ℕ) → Place → Bool) (number : (rule : ℕ) → Place → ℕ) (lines : List Line)
    : Type 0 where
  pub in_order : IsStrictlySortedBy by_place (map key lines)
  pub counts : (rule : ℕ) (at : Place)
      → count_of lines rule at ≡ (if shown rule at then if_any (number rule at) else None)

-- a line may stand for a chosen rule, unless the rule is switched off for that line of the source
abbrev pub is_shown : (chosen : ℕ → Bool) → (off : List Pair) → (rule : ℕ) → Place → Bool
is_shown chosen off rule at = chosen rule && not (is_off off at.0 rule)

-- the report of these operations
abbrev pub IsReport : (chosen : ℕ → Bool) → (off : List Pair) → List Place → List Operation → List Line → Type 0
IsReport chosen off places operations = AreLines (is_shown chosen off) (hits_at places operations)

-- the report of what checkers found
abbrev pub IsReportOfFindings : (chosen : ℕ → Bool) → (off : List Pair) → List Place → Findings → List Line → Type 0
IsReportOfFindings chosen off places findings =
    AreLines (is_shown chosen off) (λ rule at. saturate_u64 (found_at places findings rule at))
