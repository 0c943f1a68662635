-- The run that `record` tells of, of an accepted script, has rows with places, what is switched off in order, and
-- operations that have rows of their kinds and see their values with their classes.
use Rattle.std.proofs.Common.{◌≡◌, ◌∙◌, ◌*◌, ◌+◌, ◌≤◌, ◌<◌, ◌^◌, ℕ, suc, All, List, [], ◌∷◌, Some, ap, arith}
use Rattle.std.proofs.Common.{length, option_map, refl, subst, sym}
use Rattle.std.proofs.lemmas.List.{length-map}
use Rattle.std.proofs.lemmas.List.Sums.{count_by-le-length}
use Rattle.std.proofs.lemmas.Option.{slice_get-map}
use Rattle.std.specs.List.{AllByRecursion}
use Rattle.std.specs.Prelude.{nat_le}
use Rattle.jl_ast.specs.Tree.{Program}
use Rattle.jl_effects.specs.Running.{Over, Spent, state_of as world_of, steps_taken}
use Rattle.jl_grammar.specs.Program.{Reads}
use Rattle.jl_meaning.specs.Mean as mean
use Rattle.jl_op.specs.Chosen.{every_kind, Kinds}
use Rattle.jl_op.specs.IdMap.{id_map}
use Rattle.jl_op.specs.Kinds.{kind_of}
use Rattle.jl_op.specs.Map.{BeginsIn, MapRow}
use Rattle.jl_op.specs.Operations.{Operation}
use Rattle.jl_operation_rows.specs.Rows.{HasRow}
use Rattle.jl_operation_rows.specs.Seeing.{SeesValues}
use Rattle.jl_record.specs.Recording.{rows_of}
use Rattle.jl_record.specs.Records.{IsOperation, IsPlaceNumber, IsRow, IsStored, Row, kind_at}
use Rattle.jl_record.specs.Storing.{CanBeStored}
use Rattle.jl_report.specs.Laws.{OffNamesRules}
use Rattle.jl_scope.specs.EarlyErrors.{early_errors_of}
use Rattle.jl_simulation.specs.Weaving.{woven_program}
use Rattle.jl_text.proofs.PlacesLemmas.{line_at-some, line_table-IsLineTable}
use Rattle.jl_text.specs.Encoding.{units_of}
use Rattle.jl_text.specs.Places.{LineTable, line_col, line_table, starts_after}
use Rattle.jl_text.specs.declared.span.Span.{Span}
use Rattle.jl_token.specs.Tokens.{Tokens}
use Rattle.jl_token.specs.declared.token.Comment.{Comment}
use Rattle.jl_token.specs.declared.token.Token.{Token}
use Rattle.jl_app.specs.Accepting.{IsAccepted}
use Rattle.jl_app.specs.Recording.{stored_run}
use Rattle.jl_app.specs.WovenRuns.{woven_budget, woven_run}
use Rattle.jl_app.specs.inner.RecordedRuns.{RecordedRunsAreStored, recorded_operations}
use Rattle.jl_app.proofs.Legal.{nothing_wrong}
use Rattle.jl_app.proofs.OffInOrder.{each, few_off, off_are_stored, off_in_order}
use Rattle.jl_app.proofs.SeenClasses.{have_classes}
use Rattle.jl_app.proofs.Sizes.{few_accepted_tokens}
use Rattle.jl_read_back.proofs.Bytes.{units_within}

-- ---- rows

place_numbers : (units : List ℕ) (at : ℕ) → length units < 4294967290 → at ≤ length units
    → IsPlaceNumber (line_col (line_table units) at).0 × IsPlaceNumber (line_col (line_table units) at).1
place_numbers units at short within =
    let starts = 0 ∷ starts_after 0 units in
    let table = line_table-IsLineTable units (omega arith) in
    let some = line_at-some starts at (omega arith) refl in
    let counted = count_by-le-length (λ start. nat_le start at) starts in
    let few = table.few in
    ((some, omega (arith, counted, few)), (omega arith, omega (arith, within)))

rows_are : (units : List ℕ) → length units < 4294967290 → (rows : List MapRow)
    → AllByRecursion (BeginsIn (line_table units)) rows → AllByRecursion IsRow (rows_of (line_table units) rows)
rows_are units short [] begin = tt
rows_are units short (row ∷ rows) begin = (
  place_numbers units row.1.from short begin.0,
  rows_are units short rows begin.1,
)

-- a row with the place at which its part begins
abbrev place_of_row : LineTable → MapRow → Row
place_of_row lines row = let place = line_col lines row.1.from in (row.0, place.0, place.1)

row_count : (units : List ℕ) (p : Program Span)
    → length (rows_of (line_table units) (id_map p)) ≡ length (id_map p)
row_count units p = length-map (id_map p) (place_of_row (line_table units))

-- ---- operations

kind_there : (units : List ℕ) (p : Program Span) (o : Operation) → HasRow p o
    → kind_at (rows_of (line_table units) (id_map p)) o.0.0 ≡ Some (kind_of o.1)
kind_there units p o has =
    let index : has.before + 1 ≡ suc has.before = omega arith in
    ap (kind_at (rows_of (line_table units) (id_map p))) (has.id ∙ index)
    ∙ ap (option_map (λ (row : Row). row.0))
    (slice_get-map (place_of_row (line_table units)) (id_map p) has.before
    ∙ ap (option_map (place_of_row (line_table units))) has.row)

operations_are : (units : List ℕ) (p : Program Span) (operations : List Operation)
    → AllByRecursion (HasRow p) operations → AllByRecursion SeesValues operations
    → AllByRecursion (λ o. CanBeStored o.1) operations
    → AllByRecursion (IsOperation (rows_of (line_table units) (id_map p))) operations
operations_are units p [] rows values can = tt
operations_are units p (o ∷ operations) rows values can = (
  (kind_there units p o rows.0, can.0 (have_classes o values.0)),
  operations_are units p operations rows.1 values.1 can.1,
)

-- the hooks of the run are those of what the woven script means
same_hooks : (p : Program Span) (budget : ℕ) → recorded_operations p budget
    ≡ (world_of (mean.mean every_kind (woven_program every_kind p) (woven_budget budget))).hooks
unfolding woven_run
same_hooks p budget = refl

taken_at_most : (n : ℕ) (r : mean.Run) → steps_taken n r ≤ n
taken_at_most n (Over e left w) = omega arith
taken_at_most n (Spent w) = omega arith

-- ---- the run

-- what is known of rows and of operations
pub record Laws : Type 0 where
  pub rules : OffNamesRules
  pub places : (text : List ℕ) (ts : List Token) (limit : ℕ) (p : Program Span) → Tokens text ts → Reads ts limit p
      → All (BeginsIn (line_table text)) (id_map p)
  pub few_rows : (ts : List Token) (limit : ℕ) (p : Program Span) → Reads ts limit p
      → length (id_map p) ≤ 4 * length ts + 2
  pub rows : (chosen : Kinds) (ts : List Token) (limit : ℕ) (p : Program Span) → Reads ts limit p
      → early_errors_of p ≡ [] → length ts < 1073741823 → (n : ℕ)
      → All (HasRow p) (world_of (mean.mean chosen (woven_program chosen p) n)).hooks
  pub values : (chosen : Kinds) (ts : List Token) (limit : ℕ) (p : Program Span) → Reads ts limit p
      → early_errors_of p ≡ [] → length ts < 1073741823 → (n : ℕ)
      → All SeesValues (world_of (mean.mean chosen (woven_program chosen p) n)).hooks
  pub few_hooks : (chosen : Kinds) (w : Program (Unit {0})) (n : ℕ)
      → length (world_of (mean.mean chosen w n)).hooks ≤ steps_taken n (mean.mean chosen w n)

module _ (laws : Laws) (bytes : List ℕ) (p : Program Span) (is : IsAccepted bytes p) (comments : List Comment)
    (budget : ℕ) where
  short : length (units_of bytes) < 4294967290
  short = omega (arith, units_within bytes is.decoded, is.short)

  few_rows : length (id_map p) < 2 ^ 32
  few_rows = omega (arith, laws.few_rows is.tokens 200 p is.read, few_accepted_tokens bytes p is)

  same : recorded_operations p budget
      ≡ (world_of (mean.mean every_kind (woven_program every_kind p) (woven_budget budget))).hooks
  same = same_hooks p budget

  have_rows : AllByRecursion (HasRow p) (recorded_operations p budget)
  have_rows =
      each (HasRow p) (recorded_operations p budget)
      (subst (λ (l : List Operation). All (HasRow p) l) (sym same)
      (laws.rows every_kind is.tokens 200 p is.read (nothing_wrong bytes p is) (few_accepted_tokens bytes p is)
      (woven_budget budget)))

  see_values : AllByRecursion SeesValues (recorded_operations p budget)
  see_values =
      each SeesValues (recorded_operations p budget)
      (subst (λ (l : List Operation). All SeesValues l) (sym same)
      (laws.values every_kind is.tokens 200 p is.read (nothing_wrong bytes p is) (few_accepted_tokens bytes p is)
      (woven_budget budget)))

  few_operations : budget ≤ 1000000000 → length (recorded_operations p budget) < 2 ^ 64
  few_operations least =
      let run = mean.mean every_kind (woven_program every_kind p) (woven_budget budget) in
      let taken = laws.few_hooks every_kind (woven_program every_kind p) (woven_budget budget) in
      let few = taken_at_most (woven_budget budget) run in
      let count = ap (λ (l : List Operation). length l) same in
      omega (arith, taken, few, count, least)

  is_stored : budget ≤ 1000000000 → AllByRecursion (λ o. CanBeStored o.1) (recorded_operations p budget)
      → IsStored (stored_run (units_of bytes) p comments (recorded_operations p budget))
  is_stored least can = record {
    rows = rows_are (units_of bytes) short (id_map p)
        (each (BeginsIn (line_table (units_of bytes))) (id_map p)
        (laws.places (units_of bytes) is.tokens 200 p is.lexed is.read));
    few_rows = (let count = row_count (units_of bytes) p in let few = few_rows in omega (arith, count, few));
    off = off_are_stored laws.rules (units_of bytes) comments short;
    off_in_order = off_in_order (units_of bytes) comments;
    few_off = few_off laws.rules (units_of bytes) comments short;
    operations = operations_are (units_of bytes) p (recorded_operations p budget) have_rows see_values can;
    few_operations = few_operations least;
  }

pub recorded_are_stored : Laws → RecordedRunsAreStored
recorded_are_stored laws bytes p is comments budget least can = is_stored laws bytes p is comments budget least can
