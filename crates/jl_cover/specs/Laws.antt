-- What the definitions of this crate come to.
use Rattle.std.specs.Prelude.{◌≡◌, ℕ, ◌+◌, Bool, true, List, Some, All, slice_get, option_map}
use Rattle.jl_text.specs.Places.{LineTable}
use Rattle.jl_op.specs.declared.kind.OpKind.{OpKind}
use Rattle.jl_op.specs.KindSets.{of_kinds}
use Rattle.jl_op.specs.Kinds.{kind_of}
use Rattle.jl_op.specs.Map.{MapRow}
use Rattle.jl_op.specs.Operations.{Operation}
use Rattle.jl_cover.specs.Coverage.{is_covered, missed_in, totals_in}

-- the operation's id names a row of its kind; ids count from 1
abbrev pub HasRowOfKind : List MapRow → Operation → Type 0
HasRowOfKind rows o =
    (before : ℕ) → o.0.0 ≡ before + 1 → option_map (λ row. row.0) (slice_get rows before) ≡ Some (kind_of o.1)

-- Where the operations are kept whose kind is looked at, and of the others some or none, as much is missed as before.
abbrev pub KindsAreEnough : Type 0
KindsAreEnough =
    (kept : OpKind → Bool) → ((kind : OpKind) → is_covered kind ≡ true → kept kind ≡ true)
    → (lines : LineTable) (rows : List MapRow) (observed : List Operation) → All (HasRowOfKind rows) observed
    → (missed_in lines rows (of_kinds kept observed) ≡ missed_in lines rows observed)
    × (totals_in rows (of_kinds kept observed) ≡ totals_in rows observed)
