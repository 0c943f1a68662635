-- The ids of what a program performs name rows of its map, of the same kinds.
use Rattle.std.proofs.Common.{◌≡◌, ℕ, zero, suc, ◌+◌, List, [], ◌∷◌, Bool, true, false, Option, Some, None, All}
use Rattle.std.proofs.Common.{Contains, ◌<◌}
use Rattle.std.proofs.Common.{length, option_map, slice_get, slice_index_or, filter, refl, sym, ap, ◌∙◌, subst, arith}
use Rattle.std.specs.Prelude.{if◌then◌else◌}
use Rattle.std.specs.List.{range_with_len}
use Rattle.std.proofs.lemmas.Option.{slice_get-map}
use Rattle.jl_ast.specs.Tree.{Program}
use Rattle.jl_op.specs.Chosen.{is_kept, Kinds}
use Rattle.jl_op.specs.IdMap.{id_map, ids_in, kinds_in, operation_ids, MapEntries, MapEntry}
use Rattle.jl_op.specs.Ids.{program_with_ids}
use Rattle.jl_op.specs.Kinds.{kind_of}
use Rattle.jl_op.specs.Operations.{Operation}
use Rattle.jl_op.specs.declared.kind.OpKind.{OpKind}
use Rattle.jl_op.proofs.Entries.{program_ids, program_kinds}
use Rattle.jl_effects.specs.Growing.{IsPrefix}
use Rattle.jl_effects.specs.Matching.{Alike, Simulates}
use Rattle.jl_effects.specs.Running.{state_of, IsOver, Over, Spent}
use Rattle.jl_meaning.specs.Mean.{mean, run_of, Run}
use Rattle.jl_operation_rows.specs.Rows.{HasRow}
use Rattle.jl_operation_rows.specs.Seeing.{SeesValues}
use Rattle.jl_operation_rows.proofs.Programs.{run_told, same_entries}
use Rattle.jl_operation_rows.proofs.Relation.{IsOwn}
use Rattle.jl_effects.proofs.Tells.{each_left, Each}

-- LISTS
pub each_from : {X : Type 0} (l : List X) (holds : X → Type 0)
    → ((k : ℕ) (x : X) → slice_get l k ≡ Some x → holds x) → Each holds l
each_from [] holds f = tt
each_from (x ∷ l) holds f = (f 0 x refl, each_from l holds (λ k y is. f (suc k) y is))

each_at : {X : Type 0} (holds : X → Type 0) (l : List X) → Each holds l → (k : ℕ) (d : X) → k < length l
    → holds (slice_index_or l k d)
each_at holds [] h k d less = absurd (omega arith)
each_at holds (x ∷ l) h zero d less = h.0
each_at holds (x ∷ l) h (suc k) d less = each_at holds l h.1 k d (omega arith)

pub each_all : {X : Type 0} (holds : X → Type 0) (l : List X) → Each holds l → All holds l
each_all holds l h = λ k d less. each_at holds l h k d less

each_weaker : {X : Type 0} (holds also : X → Type 0) → ((x : X) → holds x → also x) → (l : List X) → Each holds l
    → Each also l
each_weaker holds also f [] h = tt
each_weaker holds also f (x ∷ l) h = (f x h.0, each_weaker holds also f l h.1)

each_filter : {X : Type 0} (holds : X → Type 0) (kept : X → Bool) (l : List X) → Each holds l
    → Each holds (filter kept l)
each_filter holds kept [] h = tt
each_filter holds kept (x ∷ l) h = at (kept x) (each_filter holds kept l h.1)
  where
    at : (b : Bool) → Each holds (filter kept l) → Each holds (if b then x ∷ filter kept l else filter kept l)
    at true rest = (h.0, rest)
    at false rest = rest

-- what stands at an index is contained
there_at : {X : Type 0} (l : List X) (k : ℕ) (x : X) → slice_get l k ≡ Some x
    → (k < length l) × (slice_index_or l k x ≡ x)
there_at [] k x is = absurd (let none = is in cc)
there_at (y ∷ l) zero x is = let same : y ≡ x = cc in (omega arith, same)
there_at (y ∷ l) (suc k) x is = let rest = there_at l k x is in (omega (arith, rest.0), rest.1)

pub contains_at : {X : Type 0} (l : List X) (k : ℕ) (x : X) → slice_get l k ≡ Some x → Contains l x
contains_at l k x is = let there = there_at l k x is in (k, there.0, there.1)

range_at : (a n k i : ℕ) → slice_get (range_with_len a n) k ≡ Some i → i ≡ k + a
range_at a zero k i is = absurd (let none = is in cc)
range_at a (suc n) zero i is = let same : a ≡ i = cc in omega arith
range_at a (suc n) (suc k) i is = let rest = range_at (a + 1) n k i is in omega arith

-- a row is of the kind that stands there
row_of : {S : Type 0} (kind : OpKind) (o : Option (MapEntry S)) → option_map (λ (e : MapEntry S). e.0) o ≡ Some kind
    → (place : S) × (o ≡ Some (kind, place))
row_of kind None is = absurd (let none = is in cc)
row_of kind (Some e) is = let same : e.0 ≡ kind = cc in (e.1, ap (λ (k : OpKind). Some (k, e.1)) same)

module _ {S : Type 0} (p : Program S) where
  abbrev numbered : MapEntries ℕ
  numbered = operation_ids (program_with_ids p)

  -- it is one of those that the program takes
  abbrev IsRow : MapEntry ℕ → Type 0
  IsRow e = (k : ℕ) × (slice_get numbered k ≡ Some e)

  -- its number is that of the row
  pub id_at : (k : ℕ) (e : MapEntry ℕ) → slice_get numbered k ≡ Some e → e.1 ≡ k + 1
  id_at k e is =
      let number : slice_get (ids_in numbered) k ≡ Some e.1 =
      slice_get-map (λ (e : MapEntry ℕ). e.1) numbered k ∙ ap (option_map (λ (e : MapEntry ℕ). e.1)) is in
      range_at 1 (length (id_map p)) k e.1 (ap (λ l. slice_get l k) (sym (program_ids p)) ∙ number)

  has_row : (o : Operation) → IsRow (kind_of o.1, o.0.0) → HasRow p o
  has_row o h =
      let k : ℕ = h.0 in
      let kind = kind_of o.1 in
      let named : slice_get (kinds_in numbered) k ≡ Some kind =
      slice_get-map (λ (e : MapEntry ℕ). e.0) numbered k ∙ ap (option_map (λ (e : MapEntry ℕ). e.0)) h.1 in
      let there : slice_get (kinds_in (id_map p)) k ≡ Some kind =
      ap (λ l. slice_get l k) (sym (program_kinds p)) ∙ named in
      let row = row_of kind (slice_get (id_map p) k)
      (sym (slice_get-map (λ (e : MapEntry S). e.0) (id_map p) k) ∙ there) in
      record { before = k; place = row.0; id = id_at k (kind, o.0.0) h.1; row = row.1 }

  -- the operations are of its rows
  operations_are_own : (chosen : Kinds) (n : ℕ) → Each (IsOwn IsRow) (state_of (mean chosen p n)).operations
  operations_are_own chosen n =
      let q = program_with_ids p in
      run_told IsRow q (subst (Each IsRow) (sym (same_entries q)) (each_from numbered IsRow (λ k e is. (k, is))))
      chosen n

  pub operations_have_rows : (chosen : Kinds) (n : ℕ) → Each (HasRow p) (state_of (mean chosen p n)).operations
  operations_have_rows chosen n =
      each_weaker (IsOwn IsRow) (HasRow p) (λ o own. has_row o own.0) (state_of (mean chosen p n)).operations
      (operations_are_own chosen n)

  pub operations_see_values : (chosen : Kinds) (n : ℕ) → Each SeesValues (state_of (mean chosen p n)).operations
  operations_see_values chosen n =
      each_weaker (IsOwn IsRow) SeesValues (λ o own. own.1) (state_of (mean chosen p n)).operations
      (operations_are_own chosen n)

module _ (holds : Operation → Type 0) where
  -- of what the first part of a list has
  each_prefix : (l m : List Operation) → IsPrefix l m → Each holds m → Each holds l
  each_prefix l m h x = each_left holds l h.0 (subst (Each holds) (sym h.1) x)

  alike_hooks : (kept : Operation → Bool) (own other : Run) → Alike kept own other
      → Each holds (state_of own).operations → Each holds (state_of other).hooks
  alike_hooks kept (Over e m v) (Over f n w) a x =
      subst (Each holds) (sym a.1.hooks) (each_filter holds kept v.operations x)
  alike_hooks kept (Over e m v) (Spent w) a x = absurd a
  alike_hooks kept (Spent v) r a x = absurd a

  -- what a run that simulates others tells of has what their operations have
  pub simulated_have : (chosen : Kinds) (own second : ℕ → Run) → Simulates (is_kept chosen) own second
      → ((n : ℕ) → Each holds (state_of (own n)).operations) → (n : ℕ)
      → Each holds (state_of (second n)).hooks
  simulated_have chosen own second simulates have n = at (second n) refl
    where
      at : (r : Run) → second n ≡ r → Each holds (state_of (second n)).hooks
      at (Over e left w) is =
          alike_hooks (is_kept chosen) (own n) (second n)
          (simulates.leads n (subst (λ (x : Run). IsOver x) (sym is) tt)) (have n)
      at (Spent w) is =
          subst (λ (x : Run). Each holds (state_of x).hooks) (sym is)
          (each_prefix w.hooks (filter (is_kept chosen) (state_of (own n)).operations)
          (simulates.within n w is).hooks
          (each_filter holds (is_kept chosen) (state_of (own n)).operations (have n)))

-- whatever the places of its nodes are
pub numbered_by_nodes : (chosen : Kinds) (p : Program ℕ) (n : ℕ)
    → Each (λ o. Contains (operation_ids p) (kind_of o.1, o.0.0)) (state_of (run_of chosen p n)).operations
numbered_by_nodes chosen p n =
    let IsNumbered : MapEntry ℕ → Type 0 = λ e. Contains (operation_ids p) e in
    each_weaker (IsOwn IsNumbered) (λ o. IsNumbered (kind_of o.1, o.0.0)) (λ o own. own.0)
    (state_of (run_of chosen p n)).operations
    (run_told IsNumbered p
    (subst (Each IsNumbered) (sym (same_entries p))
    (each_from (operation_ids p) IsNumbered (λ k e is. contains_at (operation_ids p) k e is)))
    chosen n)
