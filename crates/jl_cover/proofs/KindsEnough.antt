-- Operations of other kinds change nothing that is missed.
use Rattle.std.proofs.Common.{◌≡◌, ◌+◌, ◌&&◌, ◌||◌, ℕ, suc, Bool, true, false, List, [], ◌∷◌, ◌++◌}
use Rattle.std.proofs.Common.{Some}
use Rattle.std.proofs.Common.{slice_get, refl, sym, ap, ◌∙◌, arith, map}
use Rattle.std.proofs.lemmas.List.Elements.{All-head, All-tail}
use Rattle.std.specs.List.{enumerate_from, flat_map, list_any}
use Rattle.std.specs.Prelude.{All, cond, filter, fold, if◌then◌else◌, is_none, option_map, slice_index_or}
use Rattle.jl_op.specs.declared.kind.OpKind.{OpKind}
use Rattle.jl_op.specs.declared.kind.OpKind.TheVariants as kinds
use Rattle.jl_op.specs.KindSets.{of_kinds}
use Rattle.jl_op.specs.Kinds.{kind_of}
use Rattle.jl_op.specs.Map.{MapRow}
use Rattle.jl_op.specs.Operations.{Operation}
use Rattle.jl_cover.specs.Coverage.{covered_count, gap_after, gaps_of, has_id, in_order, is_covered}
use Rattle.jl_cover.specs.Coverage.{is_false, is_kind, is_true, missed_at, numbered, placed, row_count}
use Rattle.jl_cover.specs.Coverage.{condition_gap, function_gap, was_false, was_reached, was_true}
use Rattle.jl_cover.specs.Laws.{HasRowOfKind, KindsAreEnough}

is_false_if : (b : Bool) → (b ≡ true → ⊥) → b ≡ false
is_false_if true never = absurd (never refl)
is_false_if false never = refl

no_true : {b : Bool} → b ≡ false → b ≡ true → ⊥
no_true e f = cc

-- what only elements that are kept pass, the others don't change
any_kept : {X : Type 0} (p q : X → Bool) (xs : List X) → All (λ x. p x ≡ true → q x ≡ true) xs
    → list_any p (filter q xs) ≡ list_any p xs
any_kept p q [] h = refl
any_kept p q (x ∷ xs) h = by_test (q x) refl (any_kept p q xs (All-tail (λ y. p y ≡ true → q y ≡ true) x xs h))
  where
    first : All (λ y. p y ≡ true → q y ≡ true) (x ∷ xs) → p x ≡ true → q x ≡ true
    first all = All-head (λ y. p y ≡ true → q y ≡ true) x xs all

    by_test : (b : Bool) → q x ≡ b → list_any p (filter q xs) ≡ list_any p xs
        → list_any p (if b then x ∷ filter q xs else filter q xs) ≡ (p x || list_any p xs)
    by_test true e rest = ap (λ c. p x || c) rest
    by_test false e rest =
        rest ∙ ap (λ c. c || list_any p xs) (sym (is_false_if (p x) (λ t. no_true e (first h t))))

both_first : (a b : Bool) → a && b ≡ true → a ≡ true
both_first true b e = refl
both_first false b e = absurd (no_true refl e)

-- an operation with the id of a row is of the row's kind
abbrev HasKind : (id : ℕ) → OpKind → Operation → Type 0
HasKind id kind o = has_id id o ≡ true → kind_of o.1 ≡ kind

of_that_kind : (rows : List MapRow) (before : ℕ) (kind : OpKind)
    → option_map (λ row. row.0) (slice_get rows before) ≡ Some kind → (o : Operation) → HasRowOfKind rows o
    → HasKind (before + 1) kind o
of_that_kind rows before kind is o has same =
    let id : o.0.0 ≡ before + 1 = grind arith in
    let both : Some kind ≡ Some (kind_of o.1) = sym is ∙ has before id in cc

module _ (kept : OpKind → Bool) (holds : (kind : OpKind) → is_covered kind ≡ true → kept kind ≡ true) where
  keeps : (id : ℕ) (kind : OpKind) → is_covered kind ≡ true → (o : Operation) → HasKind id kind o
      → has_id id o ≡ true → kept (kind_of o.1) ≡ true
  keeps id kind covered o has same = ap kept (has same) ∙ holds kind covered

  module _ (id : ℕ) (kind : OpKind) (observed : List Operation) (have : All (HasKind id kind) observed) where
    reached_kept : is_covered kind ≡ true → was_reached (of_kinds kept observed) id ≡ was_reached observed id
    reached_kept covered =
        any_kept (has_id id) (λ o. kept (kind_of o.1)) observed
        (λ k d within same. keeps id kind covered _ (have k d within) same)

    true_kept : is_covered kind ≡ true → was_true (of_kinds kept observed) id ≡ was_true observed id
    true_kept covered =
        any_kept (λ o. has_id id o && is_true o.1) (λ o. kept (kind_of o.1)) observed
        (λ k d within both. keeps id kind covered _ (have k d within) (both_first _ _ both))

    false_kept : is_covered kind ≡ true → was_false (of_kinds kept observed) id ≡ was_false observed id
    false_kept covered =
        any_kept (λ o. has_id id o && is_false o.1) (λ o. kept (kind_of o.1)) observed
        (λ k d within both. keeps id kind covered _ (have k d within) (both_first _ _ both))

  same_gap : (id : ℕ) (kind : OpKind) (observed : List Operation) → All (HasKind id kind) observed
      → gap_after (of_kinds kept observed) id kind ≡ gap_after observed id kind
  same_gap id kinds.FunctionEnter observed have =
      ap function_gap (reached_kept id kinds.FunctionEnter observed have refl)
  same_gap id kinds.Conditional observed have = λ j.
      condition_gap (reached_kept id kinds.Conditional observed have refl j)
      (true_kept id kinds.Conditional observed have refl j) (false_kept id kinds.Conditional observed have refl j)
  same_gap id _ observed have = refl

  -- of each row
  same_gaps : (rows : List MapRow) (observed : List Operation) → All (HasRowOfKind rows) observed
      → (at id : ℕ) (row : MapRow) → id ≡ 1 + at → slice_get rows at ≡ Some row
      → gap_after (of_kinds kept observed) id row.0 ≡ gap_after observed id row.0
  same_gaps rows observed have at id row is here =
      let next : at + 1 ≡ id = omega arith in
      same_gap id row.0 observed (λ k d within. at_id id next (slice_index_or observed k d) (have k d within))
    where
      at_id : (n : ℕ) → at + 1 ≡ n → (o : Operation) → HasRowOfKind rows o → HasKind n row.0 o
      at_id n next o has same =
          of_that_kind rows at row.0 (ap (option_map (λ r. r.0)) here) o has (ap (λ m. has_id m o) next ∙ same)

-- functions that are equal at the rows of a map find the same
flat_map_same : {X : Type 0} (f g : ℕ × MapRow → List X) (first : ℕ) (rows : List MapRow)
    → ((at id : ℕ) (row : MapRow) → id ≡ first + at → slice_get rows at ≡ Some row → f (id, row) ≡ g (id, row))
    → flat_map f (enumerate_from first rows) ≡ flat_map g (enumerate_from first rows)
flat_map_same f g first [] same = refl
flat_map_same f g first (row ∷ rows) same =
    ap (λ l. l ++ flat_map f (enumerate_from (first + 1) rows)) (same 0 first row (omega arith) refl)
    ∙ ap (λ l. g (first, row) ++ l)
    (flat_map_same f g (first + 1) rows (λ at id r is. same (suc at) id r (omega arith)))

count_same : (p q : ℕ × MapRow → Bool) (n first : ℕ) (rows : List MapRow)
    → ((at id : ℕ) (row : MapRow) → id ≡ first + at → slice_get rows at ≡ Some row → p (id, row) ≡ q (id, row))
    → fold (λ a x. a + cond (p x) 1 0) n (enumerate_from first rows)
    ≡ fold (λ a x. a + cond (q x) 1 0) n (enumerate_from first rows)
count_same p q n first [] same = refl
count_same p q n first (row ∷ rows) same =
    ap (λ b. fold (λ a x. a + cond (p x) 1 0) (n + cond b 1 0) (enumerate_from (first + 1) rows))
    (same 0 first row (omega arith) refl)
    ∙ count_same p q (n + cond (q (first, row)) 1 0) (first + 1) rows (λ at id r is. same (suc at) id r (omega arith))

pub kinds_enough : KindsAreEnough
kinds_enough kept holds lines rows observed have =
    let same = same_gaps kept holds rows observed have in
    let gaps_are : gaps_of lines (gap_after (of_kinds kept observed)) (numbered rows)
    ≡ gaps_of lines (gap_after observed) (numbered rows) =
    flat_map_same _ _ 1 rows (λ at id row is here. ap (placed lines (id, row)) (same at id row is here)) in
    let counts_are : (kind : OpKind) → covered_count rows (gap_after (of_kinds kept observed)) kind
    ≡ covered_count rows (gap_after observed) kind =
    λ kind. count_same _ _ 0 1 rows
    (λ at id row is here. ap (λ found. is_kind kind (id, row) && is_none found) (same at id row is here)) in (
      ap (λ l. map missed_at (in_order l)) gaps_are,
      λ j. record {
        entered = counts_are kinds.FunctionEnter j;
        functions = row_count rows kinds.FunctionEnter;
        decided = counts_are kinds.Conditional j;
        conditions = row_count rows kinds.Conditional;
      },
    )
