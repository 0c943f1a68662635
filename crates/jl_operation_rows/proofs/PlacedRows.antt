-- The rows of the operations of two programs that are the same but for their places.
use Rattle.std.proofs.Common.{◌≡◌, ◌∙◌, ℕ, zero, suc, ◌+◌, List, [], ◌∷◌, Option, Some, None, length, option_map}
use Rattle.std.proofs.Common.{slice_get, refl, sym, ap, ap₂, subst, arith}
use Rattle.std.proofs.lemmas.Option.{slice_get-map}
use Rattle.jl_ast.specs.Spans.{map_spans, without_spans}
use Rattle.jl_ast.specs.Tree.{Program}
use Rattle.jl_op.specs.Chosen.{Kinds}
use Rattle.jl_op.specs.IdMap.{id_of, operation_ids, program_entries, MapEntries, MapEntry, Saying}
use Rattle.jl_op.specs.Kinds.{kind_of}
use Rattle.jl_op.specs.Operations.{Operation}
use Rattle.jl_op.specs.declared.kind.OpKind.{OpKind}
use Rattle.jl_op.specs.declared.op.Op.{Op}
use Rattle.jl_effects.specs.Running.{state_of}
use Rattle.jl_effects.proofs.Tells.{Each}
use Rattle.jl_meaning.specs.Mean.{run_of}
use Rattle.jl_operation_rows.specs.Places.{counted_from, first_of, second_of, test_of, third_of, OneByOne, Origin}
use Rattle.jl_operation_rows.specs.Places.{SameRow}
use Rattle.jl_operation_rows.proofs.MapRows.{each_from}
use Rattle.jl_operation_rows.proofs.MappedEntries.{program_said, SaysAfter}
use Rattle.jl_operation_rows.proofs.Pairs.{AllPaired}
use Rattle.jl_operation_rows.proofs.Programs.{run_told, same_entries}
use Rattle.jl_operation_rows.proofs.Relation.{IsOwn}
use Rattle.jl_operation_rows.proofs.Renaming.{Renaming, SameOperation}
use Rattle.jl_operation_rows.proofs.SamePrograms.{performed_same}
use Rattle.jl_operation_rows.proofs.Shapes.{places, program_numbered}

-- NUMBERS WITH ROOM FOR THREE IDS
abbrev triple : ℕ → ℕ
triple zero = zero
triple (suc n) = suc (suc (suc (triple n)))

-- what an id that is counted from the triple of a number is, counted from f of it
abbrev counted : (ℕ → ℕ) → ℕ → ℕ
counted f zero = f zero
counted f (suc zero) = f zero + 1
counted f (suc (suc zero)) = f zero + 2
counted f (suc (suc (suc n))) = counted (λ j. f (suc j)) n

counted_first : (f : ℕ → ℕ) (s : ℕ) → counted f (triple s) ≡ f s
counted_first f zero = refl
counted_first f (suc s) = counted_first (λ j. f (suc j)) s

counted_second : (f : ℕ → ℕ) (s : ℕ) → counted f (suc (triple s)) ≡ f s + 1
counted_second f zero = refl
counted_second f (suc s) = counted_second (λ j. f (suc j)) s

counted_third : (f : ℕ → ℕ) (s : ℕ) → counted f (suc (suc (triple s))) ≡ f s + 2
counted_third f zero = refl
counted_third f (suc s) = counted_third (λ j. f (suc j)) s

counted_next : (f : ℕ → ℕ) (s : ℕ) → counted f (triple s + 1) ≡ f s + 1
counted_next f s = let next : triple s + 1 ≡ suc (triple s) = omega arith in ap (counted f) next ∙ counted_second f s

counted_last : (f : ℕ → ℕ) (s : ℕ) → counted f (triple s + 2) ≡ f s + 2
counted_last f s =
    let last : triple s + 2 ≡ suc (suc (triple s)) = omega arith in ap (counted f) last ∙ counted_third f s

abbrev renaming : (f : ℕ → ℕ) → Renaming
renaming f = record {
  from = triple;
  to = f;
  rename = counted f;
  first = counted_first f;
  second = counted_next f;
  third = counted_last f;
}

-- ROWS
abbrev of_number : {S : Type 0} → S → ℕ → Origin S
of_number s zero = first_of s
of_number s (suc zero) = second_of s
of_number s _ = third_of s

abbrev pub origin : {S : Type 0} → Saying S (Origin S)
origin = record { of_node = of_number; of_test = test_of }

abbrev pub origins : {S : Type 0} → Program S → MapEntries (Origin S)
origins p = program_entries origin p

abbrev pub counted_entry : {S : Type 0} → (S → ℕ) → MapEntry (Origin S) → MapEntry ℕ
counted_entry f e = (e.0, counted_from f e.1)

-- numbers that are given to places
module _ {S : Type 0} (f : S → ℕ) where
  from_zero : (s : S) → f s + 0 ≡ f s
  from_zero s = omega arith

  says_ids : SaysAfter origin id_of f (counted_from f)
  says_ids = record {
    first = from_zero;
    second = λ s. refl;
    third = λ s. refl;
    test = λ s e. refl;
  }

  pub row_at : (p : Program S) (k : ℕ)
      → slice_get (operation_ids (map_spans f p)) k ≡ option_map (counted_entry f) (slice_get (origins p) k)
  row_at p k =
      ap (λ l. slice_get l k) (program_said says_ids p) ∙ slice_get-map (counted_entry f) (origins p) k

-- an id of the tripled numbers, renamed
renamed_id : (f : ℕ → ℕ) (o : Origin ℕ) → counted f (counted_from triple o) ≡ counted_from f o
renamed_id f (first_of s) = counted_first f s
renamed_id f (second_of s) = counted_next f s
renamed_id f (third_of s) = counted_last f s
renamed_id f (test_of s e) = counted_first f s

pub same_entry : {a b : MapEntry ℕ} → Some a ≡ Some b → a ≡ b
same_entry is = cc

module _ (t : Program ℕ) where
  abbrev numbers : (ℕ → ℕ) → MapEntries ℕ
  numbers f = operation_ids (map_spans f t)

  -- the row of an id of the tripled numbers has what it is renamed to for other places
  renamed_row : (f : ℕ → ℕ) (k : ℕ) (kind : OpKind) (id : ℕ) → slice_get (numbers triple) k ≡ Some (kind, id)
      → slice_get (numbers f) k ≡ Some (kind, counted f id)
  renamed_row f k kind id is = at (slice_get (origins t) k) (sym (row_at triple t k) ∙ is) (row_at f t k)
    where
      at : (o : Option (MapEntry (Origin ℕ)))
          → option_map (counted_entry triple) o ≡ Some (kind, id)
          → {row : Option (MapEntry ℕ)} → row ≡ option_map (counted_entry f) o
          → row ≡ Some (kind, counted f id)
      at None there row = absurd (let none = there in cc)
      at (Some e) there row =
          let is : counted_entry triple e ≡ (kind, id) = same_entry there in
          row ∙ ap₂ (λ (k : OpKind) (i : ℕ). Some (k, i)) (ap (λ (e : MapEntry ℕ). e.0) is)
          (sym (renamed_id f e.1) ∙ ap (λ (e : MapEntry ℕ). counted f e.1) is)

  -- a row of the tripled numbers
  abbrev IsRow : MapEntry ℕ → Type 0
  IsRow e = (k : ℕ) × (slice_get (numbers triple) k ≡ Some e)

  module _ (f g : ℕ → ℕ) where
    same_row : (o a b : Operation) → IsRow (kind_of o.1, o.0.0) → SameOperation (renaming f) o a
        → SameOperation (renaming g) o b → SameRow (map_spans f t) (map_spans g t) a b
    same_row o a b row x y = record {
      operation = y.same ∙ sym x.same;
      row = row.0;
      first = renamed_row f row.0 (kind_of o.1) o.0.0 row.1
          ∙ ap₂ (λ (x : Op) (i : ℕ). Some (kind_of x, i)) (sym x.same) x.ids.same;
      second = renamed_row g row.0 (kind_of o.1) o.0.0 row.1
          ∙ ap₂ (λ (x : Op) (i : ℕ). Some (kind_of x, i)) (sym x.same) y.ids.same;
    }

    same_rows : (l m n : List Operation) → Each (IsOwn IsRow) l → AllPaired (SameOperation (renaming f)) l m
        → AllPaired (SameOperation (renaming g)) l n
        → AllPaired (SameRow (map_spans f t) (map_spans g t)) m n
    same_rows [] [] [] rows x y = tt
    same_rows (o ∷ l) (a ∷ m) (b ∷ n) rows x y =
        (same_row o a b rows.0.0 x.0 y.0, same_rows l m n rows.1 x.1 y.1)
    same_rows [] (a ∷ m) n rows x y = absurd x
    same_rows (o ∷ l) [] n rows x y = absurd x
    same_rows [] [] (b ∷ n) rows x y = absurd y
    same_rows (o ∷ l) (a ∷ m) [] rows x y = absurd y

  rows_there : (chosen : Kinds) (n : ℕ)
      → Each (IsOwn IsRow) (state_of (run_of chosen (map_spans triple t) n)).operations
  rows_there chosen n =
      let p = map_spans triple t in
      run_told IsRow p
      (subst (Each IsRow) (sym (same_entries p)) (each_from (operation_ids p) IsRow (λ k e is. (k, is))))
      chosen n

  renamed_rows : (f g : ℕ → ℕ) (chosen : Kinds) (n : ℕ)
      → AllPaired (SameRow (map_spans f t) (map_spans g t)) (state_of (run_of chosen (map_spans f t) n)).operations
      (state_of (run_of chosen (map_spans g t) n)).operations
  renamed_rows f g chosen n =
      same_rows f g (state_of (run_of chosen (map_spans triple t) n)).operations
      (state_of (run_of chosen (map_spans f t) n)).operations (state_of (run_of chosen (map_spans g t) n)).operations
      (rows_there chosen n) (performed_same (renaming f) t chosen n) (performed_same (renaming g) t chosen n)

-- LISTS
one_by_one : {X Y : Type 0} (IsRelated : X → Y → Type 0) (l : List X) (m : List Y) → AllPaired IsRelated l m
    → OneByOne IsRelated l m
one_by_one IsRelated l m h = record { as_many = as_many l m h; each = each l m h }
  where
    as_many : (l : List _) (m : List _) → AllPaired IsRelated l m → length m ≡ length l
    as_many [] [] h = refl
    as_many (x ∷ l) (y ∷ m) h = ap suc (as_many l m h.1)
    as_many [] (y ∷ m) h = absurd h
    as_many (x ∷ l) [] h = absurd h

    each : (l : List _) (m : List _) → AllPaired IsRelated l m → (k : ℕ) (x y : _) → slice_get l k ≡ Some x
        → slice_get m k ≡ Some y → IsRelated x y
    each [] m h k x y is has = absurd (let none = is in cc)
    each (a ∷ l) [] h k x y is has = absurd h
    each (a ∷ l) (b ∷ m) h zero x y is has =
        let first : a ≡ x = cc in
        let second : b ≡ y = cc in
        subst (λ b. IsRelated x b) second (subst (λ a. IsRelated a b) first h.0)
    each (a ∷ l) (b ∷ m) h (suc k) x y is has = each l m h.1 k x y is has

-- programs that are the same but for their places
pub same_rows_of : (chosen : Kinds) (p q : Program ℕ) → without_spans p ≡ without_spans q → (n : ℕ)
    → OneByOne (SameRow p q) (state_of (run_of chosen p n)).operations (state_of (run_of chosen q n)).operations
same_rows_of chosen p q e n =
    let t = program_numbered (without_spans p) in
    let here = places p in
    let there = places q in
    let second : map_spans there.at t ≡ q = ap (λ r. map_spans there.at (program_numbered r)) e ∙ there.same in
    one_by_one (SameRow p q) (state_of (run_of chosen p n)).operations (state_of (run_of chosen q n)).operations
    (subst (λ (r : Program ℕ). AllPaired (SameRow p r) (state_of (run_of chosen p n)).operations
    (state_of (run_of chosen r n)).operations) second
    (subst (λ (r : Program ℕ). AllPaired (SameRow r (map_spans there.at t)) (state_of (run_of chosen r n)).operations
    (state_of (run_of chosen (map_spans there.at t) n)).operations) here.same
    (renamed_rows t here.at there.at chosen n)))
