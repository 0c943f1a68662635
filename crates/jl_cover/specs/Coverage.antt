-- What a run leaves out, row by row of the map: functions that were never entered, conditions that were never true or
-- never false.
use Rattle.std.specs.Prelude.{ℕ, Bool, true, false, not, ◌&&◌, ◌==◌, List, [], ◌∷◌, Option, None, Some, is_none, map}
use Rattle.std.specs.Prelude.{fold, count_by, codes, ◌++◌}
use Rattle.std.specs.BTreeMap.{insert_entry}
use Rattle.std.specs.Fmt.{decimal}
use Rattle.std.specs.List.{list_any, enumerate_from, flat_map}
use Rattle.std.specs.Ordering.{nat_cmp, ordering_then}
use Rattle.std.specs.declared.cmp.Ordering.{Ordering}
use Rattle.jl_text.specs.Places.{LineTable, line_col}
use Rattle.jl_conv.specs.Conversions.{truth_of}
use Rattle.jl_op.specs.declared.kind.OpKind.{OpKind}
use Rattle.jl_op.specs.declared.kind.OpKind.TheVariants as kinds
use Rattle.jl_op.specs.declared.op.Op.{Op}
use Rattle.jl_op.specs.declared.op.Op.TheVariants as ops
use Rattle.jl_op.specs.Kinds.{number_of}
use Rattle.jl_op.specs.Map.{MapRow}
use Rattle.jl_op.specs.Operations.{Operation}
use Rattle.jl_cover.specs.declared.missed.Gap.{Gap}
use Rattle.jl_cover.specs.declared.missed.Gap.TheVariants as gaps
use Rattle.jl_cover.specs.declared.missed.Missed.{Missed}
use Rattle.jl_cover.specs.declared.totals.Totals.{Totals}

-- the operation has this id
abbrev pub has_id : ℕ → Operation → Bool
has_id id o = id == o.0.0

-- a condition's value is true by ToBoolean (9.2)
abbrev pub is_true : Op → Bool
is_true (ops.Conditional value) = truth_of value.value
is_true _ = false

-- and this one is false
abbrev pub is_false : Op → Bool
is_false (ops.Conditional value) = not (truth_of value.value)
is_false _ = false

-- some operation has the id
abbrev pub was_reached : List Operation → (id : ℕ) → Bool
was_reached observed id = list_any (has_id id) observed

abbrev pub was_true : List Operation → (id : ℕ) → Bool
was_true observed id = list_any (λ o. has_id id o && is_true o.1) observed

abbrev pub was_false : List Operation → (id : ℕ) → Bool
was_false observed id = list_any (λ o. has_id id o && is_false o.1) observed

-- what a function lacks
abbrev pub function_gap : (entered : Bool) → Option Gap
function_gap false = Some gaps.NeverEntered
function_gap true = None

-- what a condition lacks
abbrev pub condition_gap : (reached was_true was_false : Bool) → Option Gap
condition_gap false was_true was_false = Some gaps.NeverReached
condition_gap true false was_false = Some gaps.NeverTrue
condition_gap true true false = Some gaps.NeverFalse
condition_gap true true true = None

-- what a row of this kind lacks; rows of other kinds lack nothing
abbrev pub gap_of : OpKind → (reached was_true was_false : Bool) → Option Gap
gap_of kinds.FunctionEnter reached was_true was_false = function_gap reached
gap_of kinds.Conditional reached was_true was_false = condition_gap reached was_true was_false
gap_of _ reached was_true was_false = None

-- what the row with this id and kind lacks, if anything
abbrev pub Lacks : Type 0
Lacks = (id : ℕ) → OpKind → Option Gap

-- after these operations
abbrev pub gap_after : List Operation → Lacks
gap_after observed id kind = gap_of kind (was_reached observed id) (was_true observed id) (was_false observed id)

-- rows with their ids, of which the first is 1
abbrev pub numbered : List MapRow → List (ℕ × MapRow)
numbered rows = enumerate_from 1 rows

-- what gaps are ordered by: the line, the column and then the id
abbrev pub Key : Type 0
Key = ℕ × ℕ × ℕ

abbrev pub by_place : Key → Key → Ordering
by_place a b = ordering_then (ordering_then (nat_cmp a.0 b.0) (nat_cmp a.1 b.1)) (nat_cmp a.2 b.2)

-- the gap of a row, where there is one, with the line and the column where its part of the source begins
abbrev pub placed : LineTable → ℕ × MapRow → Option Gap → List (Key × Gap)
placed lines row None = []
placed lines row (Some found) =
    let place = line_col lines row.1.1.from in ((place.0, place.1, row.0), found) ∷ []

-- the gaps of all rows
abbrev pub gaps_of : LineTable → Lacks → List (ℕ × MapRow) → List (Key × Gap)
gaps_of lines lacks rows = flat_map (λ row. placed lines row (lacks row.0 row.1.0)) rows

-- in order
abbrev pub in_order : List (Key × Gap) → List (Key × Gap)
in_order found = fold (λ sorted e. insert_entry by_place sorted e.0 e.1) [] found

abbrev pub missed_at : Key × Gap → Missed
missed_at e = record { line = e.0.0; column = e.0.1; gap = e.1 }

-- what is missed: the gap of each row that has one, by line, column and id
abbrev pub missed_by : LineTable → List MapRow → Lacks → List Missed
missed_by lines rows lacks = map missed_at (in_order (gaps_of lines lacks (numbered rows)))

-- what is missed after these operations
abbrev pub missed_in : LineTable → List MapRow → List Operation → List Missed
missed_in lines rows observed = missed_by lines rows (gap_after observed)

abbrev pub is_kind : OpKind → ℕ × MapRow → Bool
is_kind kind row = number_of row.1.0 == number_of kind

-- how many rows are of this kind
abbrev pub row_count : List MapRow → OpKind → ℕ
row_count rows kind = count_by (is_kind kind) (numbered rows)

-- how many of these lack nothing
abbrev pub covered_count : List MapRow → Lacks → OpKind → ℕ
covered_count rows lacks kind = count_by (λ row. is_kind kind row && is_none (lacks row.0 row.1.0)) (numbered rows)

-- the functions that were entered, of all, and the conditions that were both true and false, of all
abbrev pub totals_by : List MapRow → Lacks → Totals
totals_by rows lacks = record {
  entered = covered_count rows lacks kinds.FunctionEnter;
  functions = row_count rows kinds.FunctionEnter;
  decided = covered_count rows lacks kinds.Conditional;
  conditions = row_count rows kinds.Conditional;
}

abbrev pub totals_in : List MapRow → List Operation → Totals
totals_in rows observed = totals_by rows (gap_after observed)

-- how a gap is written
abbrev pub gap_text : Gap → List ℕ
gap_text gaps.NeverEntered = codes "function never entered"
gap_text gaps.NeverReached = codes "condition never reached"
gap_text gaps.NeverTrue = codes "condition never true"
gap_text gaps.NeverFalse = codes "condition never false"

-- `LINE:COLUMN GAP`
abbrev pub missed_bytes : Missed → List ℕ
missed_bytes x = decimal x.line ++ (codes ":" ++ (decimal x.column ++ (codes " " ++ gap_text x.gap)))

-- the kinds of operations that are looked at
abbrev pub is_covered : OpKind → Bool
is_covered kinds.FunctionEnter = true
is_covered kinds.Conditional = true
is_covered _ = false
