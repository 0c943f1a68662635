-- Each operation of a run has the row of the node that performs it.
use Rattle.std.proofs.Common.{◌≡◌, ◌∙◌, ℕ, Option, Some, None, option_map, slice_get, refl, sym, ap, subst}
use Rattle.std.proofs.lemmas.Option.{slice_get-map}
use Rattle.jl_ast.specs.Spans.{map_spans, without_spans}
use Rattle.jl_ast.specs.Tree.{Program}
use Rattle.jl_op.specs.Chosen.{Kinds}
use Rattle.jl_op.specs.IdMap.{id_map, place_of, MapEntry}
use Rattle.jl_op.specs.Ids.{program_with_ids}
use Rattle.jl_op.specs.Kinds.{kind_of}
use Rattle.jl_op.specs.Operations.{Operation}
use Rattle.jl_op.specs.declared.kind.OpKind.{OpKind}
use Rattle.jl_effects.specs.Running.{state_of}
use Rattle.jl_meaning.specs.Mean.{mean, run_of}
use Rattle.jl_operation_rows.specs.Places.{first_of, second_of, shown, test_of, third_of, OneByOne}
use Rattle.jl_operation_rows.specs.Places.{Origin, PerformedAt, SameRow}
use Rattle.jl_operation_rows.proofs.Blank.{same_but_for_places}
use Rattle.jl_operation_rows.proofs.MapRows.{id_at}
use Rattle.jl_operation_rows.proofs.MappedEntries.{program_said, SaysAfter}
use Rattle.jl_operation_rows.proofs.PlacedRows.{counted_entry, origin, origins, row_at, same_entry, same_rows_of}
use Rattle.jl_operation_rows.proofs.Shapes.{places, program_numbered}

abbrev moved : {S T : Type 0} → (S → T) → Origin S → Origin T
moved f (first_of s) = first_of (f s)
moved f (second_of s) = second_of (f s)
moved f (third_of s) = third_of (f s)
moved f (test_of s e) = test_of (f s) (f e)

module _ {S T : Type 0} (f : S → T) where
  says_origins : SaysAfter origin origin f (moved f)
  says_origins = record { first = λ s. refl; second = λ s. refl; third = λ s. refl; test = λ s e. refl }

  says_places : SaysAfter origin place_of f (λ o. shown (moved f o))
  says_places = record { first = λ s. refl; second = λ s. refl; third = λ s. refl; test = λ s e. refl }

  abbrev moved_entry : MapEntry (Origin S) → MapEntry (Origin T)
  moved_entry e = (e.0, moved f e.1)

  abbrev shown_entry : MapEntry (Origin T) → MapEntry T
  shown_entry e = (e.0, shown e.1)

  -- the map shows the origins
  shown_row : (t : Program S) (k : ℕ) (e : MapEntry (Origin T)) → slice_get (origins (map_spans f t)) k ≡ Some e
      → slice_get (id_map (map_spans f t)) k ≡ Some (shown_entry e)
  shown_row t k e is =
      at (slice_get (origins t) k)
      (sym (slice_get-map moved_entry (origins t) k) ∙ ap (λ l. slice_get l k) (sym (program_said says_origins t)) ∙ is)
      (ap (λ l. slice_get l k) (program_said says_places t)
      ∙ slice_get-map (λ (e : MapEntry (Origin S)). (e.0, shown (moved f e.1))) (origins t) k)
    where
      at : (o : Option (MapEntry (Origin S))) → option_map moved_entry o ≡ Some e
          → {row : Option (MapEntry T)} → row ≡ option_map (λ e. shown_entry (moved_entry e)) o
          → row ≡ Some (shown_entry e)
      at None there row = absurd (let none = there in cc)
      at (Some d) there row = row ∙ ap (option_map shown_entry) there

-- what the map shows of an operation
in_map : {S : Type 0} (p : Program S) (k : ℕ) (e : MapEntry (Origin S)) → slice_get (origins p) k ≡ Some e
    → slice_get (id_map p) k ≡ Some (e.0, shown e.1)
in_map p k e is =
    let there = places p in
    subst (λ (q : Program _). slice_get (origins q) k ≡ Some e → slice_get (id_map q) k ≡ Some (e.0, shown e.1))
    there.same (shown_row there.at (program_numbered (without_spans p)) k e) is

module _ {S : Type 0} (p : Program S) (number : S → ℕ) where
  performed_at : (a b : Operation) → SameRow (program_with_ids p) (map_spans number p) a b → PerformedAt p number a b
  performed_at a b h = at (slice_get (origins p) h.row) refl (sym (row_at number p h.row) ∙ h.second)
    where
      at : (o : Option (MapEntry (Origin S))) → slice_get (origins p) h.row ≡ o
          → option_map (counted_entry number) o ≡ Some (kind_of a.1, b.0.0) → PerformedAt p number a b
      at None is there = absurd (let none = there in cc)
      at (Some e) is there =
          let same : counted_entry number e ≡ (kind_of a.1, b.0.0) = same_entry there in
          record {
            operation = h.operation;
            before = h.row;
            origin = e.1;
            id = id_at p h.row (kind_of a.1, a.0.0) h.first;
            row = in_map p h.row e is ∙ ap (λ (k : OpKind). Some (k, shown e.1)) (ap (λ (x : MapEntry ℕ). x.0) same);
            counted = sym (ap (λ (x : MapEntry ℕ). x.1) same);
          }

  pub each_performed_at : (chosen : Kinds) (n : ℕ)
      → OneByOne (PerformedAt p number) (state_of (mean chosen p n)).operations
      (state_of (run_of chosen (map_spans number p) n)).operations
  each_performed_at chosen n =
      let rows = same_rows_of chosen (program_with_ids p) (map_spans number p) (same_but_for_places p number) n in
      record { as_many = rows.as_many; each = λ k a b is has. performed_at a b (rows.each k a b is has) }
