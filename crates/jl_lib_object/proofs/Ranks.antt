-- How much may be done without a step: fields of descriptors, and definitions.
use Rattle.std.proofs.Common.{◌≡◌, ◌≤◌, ◌+◌, ◌*◌, ◌++◌, ◌∙◌, ◌∷◌, [], ap, arith, length, refl, subst, suc, sym, List}
use Rattle.std.proofs.Common.{Option, Some, ℕ}
use Rattle.jl_value.specs.declared.object.ObjId.{ObjId}
use Rattle.jl_heap.specs.Objects.{Name}
use Rattle.jl_heap.specs.declared.property.Change.{Change}
use Rattle.jl_meaning.specs.Store.{Store}
use Rattle.jl_progress.specs.Objects.{fields_after, rank_definitions, rank_object, rank_use}
use Rattle.jl_progress.specs.declared.object.DescriptorField.{DescriptorField}
use Rattle.jl_progress.specs.declared.object.DescriptorField.TheVariants as field_of
use Rattle.jl_progress.specs.declared.object.DescriptorUse.{DescriptorUse}
use Rattle.jl_progress.specs.declared.object.DescriptorUse.TheVariants as use_of
use Rattle.jl_progress.specs.declared.object.ObjectProgress.TheVariants as object
use Rattle.jl_state.specs.Rank.{RankedBelow}
use Rattle.jl_state.specs.declared.act.Act.{Act}
use Rattle.jl_state.specs.declared.state.State.{State}
use Rattle.jl_lib_object.specs.inner.Fields.{fields_from, next_field}

-- after a field there is one less
fields_less : (which : DescriptorField) → fields_from (next_field which) ≡ fields_after which
fields_less field_of.Enumerable = refl
fields_less field_of.Configurable = refl
fields_less field_of.Value = refl
fields_less field_of.Writable = refl
fields_less field_of.Get = refl
fields_less field_of.Set = refl

pub less_left : (which : DescriptorField) (next following : Option DescriptorField) → next ≡ Some which
    → following ≡ next_field which → fields_from next ≡ suc (fields_from following)
less_left which next following is after_is =
    let less : fields_from following ≡ fields_after which = ap fields_from after_is ∙ fields_less which in
    ap fields_from is ∙ ap suc (sym less)

left_after : (which : DescriptorField) (following : Option DescriptorField) → following ≡ next_field which
    → fields_from following ≡ fields_after which
left_after which following is = ap fields_from is ∙ fields_less which

-- a greater bound
falls_within : (s t : State) (a : Act) (m n : ℕ) → m ≤ n → RankedBelow s m t a → RankedBelow s n t a
falls_within s t a m n within bounded =
    record { left = bounded.left; lower = λ same. omega (arith, within, bounded.lower same) }

-- one definition more, which is done first
pub falls_next : (s t : State) (a : Act) (left rest : List (Name × Change)) (named : Name × Change)
    → left ≡ named ∷ rest → RankedBelow s (rank_definitions (length rest) + 40) t a
    → RankedBelow s (rank_definitions (length left) + 2) t a
falls_next s t a left rest named is bounded =
    subst (λ l. RankedBelow s (rank_definitions (length l) + 2) t a) (sym is)
    (falls_within s t a (rank_definitions (length rest) + 40) (rank_definitions (length (named ∷ rest)) + 2)
    (omega arith) bounded)

longer : (l : List (Name × Change)) (named : Name × Change) → length (l ++ named ∷ []) ≡ length l + 1
longer [] named = refl
longer (m ∷ l) named = omega (arith, longer l named)

-- one that was read
pub falls_longer : (s t : State) (a : Act) (changes more : List (Name × Change)) (named : Name × Change)
    → more ≡ changes ++ named ∷ [] → RankedBelow s (rank_definitions (length more) + 2) t a
    → RankedBelow s (rank_definitions (length changes + 1) + 2) t a
falls_longer s t a changes more named is bounded =
    subst (λ n. RankedBelow s (rank_definitions n + 2) t a) (ap length is ∙ longer changes named) bounded

-- no change so far
pub falls_none : (s t : State) (a : Act) (changes : List (Name × Change)) → changes ≡ []
    → RankedBelow s (rank_definitions (length changes) + 2) t a → RankedBelow s 9 t a
falls_none s t a changes none bounded =
    falls_within s t a 8 9 (omega arith) (subst (λ l. RankedBelow s (rank_definitions (length l) + 2) t a) none bounded)

-- what a descriptor is read for

pub falls_one : (s t : State) (a : Act) (purpose : DescriptorUse) (id : ObjId) (x : Name) → purpose ≡ use_of.One id x
    → RankedBelow s 40 t a → RankedBelow s (rank_use purpose) t a
falls_one s t a purpose id x is bounded =
    subst (λ p. RankedBelow s (rank_use p) t a) (sym is) (falls_within s t a 40 44 (omega arith) bounded)

pub falls_read : (s t : State) (a : Act) (purpose : DescriptorUse) (id d : ObjId) (changes more : List (Name × Change))
    (x : Name) (named : Name × Change) (names : List Name) (from : ℕ) → purpose ≡ use_of.Next id d changes x names from
    → more ≡ changes ++ named ∷ [] → RankedBelow s (rank_definitions (length more) + 2) t a
    → RankedBelow s (rank_use purpose) t a
falls_read s t a purpose id d changes more x named names from is grown bounded =
    subst (λ p. RankedBelow s (rank_use p) t a) (sym is) (falls_longer s t a changes more named grown bounded)

-- an error that is thrown in place of that
pub falls_thrown : (s t : State) (a : Act) (purpose : DescriptorUse) → RankedBelow s 3 t a
    → RankedBelow s (rank_use purpose) t a
falls_thrown s t a (use_of.One id x) bounded = falls_within s t a 3 44 (omega arith) bounded
falls_thrown s t a (use_of.Next id d changes x names from) bounded =
    falls_within s t a 3 (rank_definitions (length changes + 1) + 2) (omega arith) bounded

-- fields that are read

module _ (s t : State) (a : Act) (which : DescriptorField) (purpose : DescriptorUse) where
  -- a field that is there, which is got
  pub falls_there : (d : ObjId) (change : Change) (next : Option DescriptorField) → next ≡ Some which
      → RankedBelow s (rank_object (object.Field which d change purpose) + 4) t a
      → RankedBelow s (rank_use purpose + (4 * fields_from next + 4)) t a
  falls_there d change next is bounded =
      subst (λ n. RankedBelow s (rank_use purpose + (4 * fields_from n + 4)) t a) (sym is)
      (falls_within s t a (rank_use purpose + (4 * fields_after which + 4) + 4)
      (rank_use purpose + (4 * suc (fields_after which) + 4)) (omega arith) bounded)

  -- those after one that isn't there
  pub falls_absent : (next following : Option DescriptorField) → next ≡ Some which → following ≡ next_field which
      → RankedBelow s (rank_use purpose + (4 * fields_from following + 4)) t a
      → RankedBelow s (rank_use purpose + (4 * fields_from next + 4)) t a
  falls_absent next following is after_is bounded =
      falls_within s t a (rank_use purpose + (4 * fields_from following + 4))
      (rank_use purpose + (4 * fields_from next + 4))
      (omega (arith, less_left which next following is after_is)) bounded

  -- those after one that was got, in a store that may have changed
  pub falls_after : (x : Store) (d : ObjId) (change : Change) (following : Option DescriptorField)
      → following ≡ next_field which
      → RankedBelow (record s { store = x }) (rank_use purpose + (4 * fields_from following + 4)) t a
      → RankedBelow s (rank_object (object.Field which d change purpose) + 2) t a
  falls_after x d change following is bounded = record {
    left = bounded.left;
    lower = λ same. omega (arith, left_after which following is, bounded.lower same);
  }

-- what is left when no field is
pub falls_read_all : (s t : State) (a : Act) (purpose : DescriptorUse) (next : Option DescriptorField)
    → RankedBelow s (rank_use purpose) t a → RankedBelow s (rank_use purpose + (4 * fields_from next + 4)) t a
falls_read_all s t a purpose next bounded =
    falls_within s t a (rank_use purpose) (rank_use purpose + (4 * fields_from next + 4)) (omega arith) bounded
