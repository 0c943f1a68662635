-- What the definitions of this crate come to.
use Rattle.std.specs.Prelude.{◌≡◌, Bool, true, List}
use Rattle.jl_text.specs.Places.{LineTable}
use Rattle.jl_op.specs.declared.kind.OpKind.{OpKind}
use Rattle.jl_op.specs.KindSets.{of_kinds}
use Rattle.jl_op.specs.Map.{MapRow}
use Rattle.jl_op.specs.Operations.{Operation}
use Rattle.jl_profile.specs.Births.{is_profiled, births_in}

-- Where the operations are kept whose kind is looked at, and of the others some or none, the rows are the same.
abbrev pub KindsAreEnough : Type 0
KindsAreEnough =
    (kept : OpKind → Bool) → ((kind : OpKind) → is_profiled kind ≡ true → kept kind ≡ true)
    → (lines : LineTable) (rows : List MapRow) (observed : List Operation)
    → births_in lines rows (of_kinds kept observed) ≡ births_in lines rows observed
