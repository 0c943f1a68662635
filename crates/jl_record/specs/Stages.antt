-- How far the text of a stored run has been read.
use Rattle.std.specs.Prelude.{◌≡◌, ℕ, ◌+◌, ◌-◌, ◌<◌, ◌≤◌, ◌^◌, List, ◌++◌, length, Result, Ok, Err}
use Rattle.std.specs.List.{AllByRecursion}
use Rattle.jl_op.specs.Operations.{Operation}
use Rattle.jl_report.specs.Off.{Pair}
use Rattle.jl_record.specs.declared.record.Record.{Record}
use Rattle.jl_record.specs.declared.record.ReadRecordRefusal.{ReadRecordRefusal}
use Rattle.jl_record.specs.declared.record.ReadRecordRefusal.TheVariants as refusals
use Rattle.jl_record.specs.Fronts.{rows_so_far, off_so_far, operations_so_far}
use Rattle.jl_record.specs.Lines.{with_ends}
use Rattle.jl_record.specs.Ranks.{most_rank, Rising, last_rank}
use Rattle.jl_record.specs.Records.{Row, Stored, IsRow, IsOff, IsOperation, IsStored, text_of}

-- a record as a stored run
abbrev pub stored : Record → Stored
stored r = record { rows = r.rows.items; off = r.off; operations = r.ops.items }

-- what holds of the line where the units were refused
abbrev pub OnBad : {T : Type 0} → Result T ReadRecordRefusal → (ℕ → Type 0) → Type 0
OnBad (Ok x) P = Unit {0}
OnBad (Err (refusals.BadRecord line)) P = P line
OnBad (Err refusals.NoMemory) P = Unit {0}

-- these of `count` rows have been read
pub record AtRows (units rest : List ℕ) (count : ℕ) (rows : List Row) : Type 0 where
  pub rows_are : AllByRecursion IsRow rows
  pub few : count < 2 ^ 32
  pub fit : length rows ≤ count
  pub text : units ≡ with_ends (rows_so_far count rows) ++ rest

-- all rows have been read
pub record HasRows (rows : List Row) : Type 0 where
  pub rows_are : AllByRecursion IsRow rows
  pub few : length rows < 2 ^ 32

-- and these of `count` pairs
pub record AtOff (units rest : List ℕ) (rows : List Row) (count : ℕ) (off : List Pair) : Type 0 where
  pub has_rows : HasRows rows
  pub off_are : AllByRecursion IsOff off
  pub rises : Rising 20 off
  pub fit : length off ≤ count
  pub room : last_rank 20 off + (count - length off) ≤ most_rank
  pub text : units ≡ with_ends (off_so_far rows count off) ++ rest

-- all pairs have been read
pub record HasOff (off : List Pair) : Type 0 where
  pub off_are : AllByRecursion IsOff off
  pub rises : Rising 20 off
  pub few : length off < 2 ^ 64

-- and these of `count` operations
pub record AtOperations (units rest : List ℕ) (rows : List Row) (off : List Pair) (count : ℕ)
    (operations : List Operation)
    : Type 0 where
  pub has_rows : HasRows rows
  pub has_off : HasOff off
  pub operations_are : AllByRecursion (IsOperation rows) operations
  pub few : count < 2 ^ 64
  pub some_row : 0 < count → 0 < length rows
  pub fit : length operations ≤ count
  pub text : units ≡ with_ends (operations_so_far rows off count operations) ++ rest

-- the units are the text of the stored run of these
pub record IsText (units : List ℕ) (rows : List Row) (off : List Pair) (operations : List Operation) : Type 0 where
  pub is : IsStored (record { rows = rows; off = off; operations = operations })
  pub text : text_of (record { rows = rows; off = off; operations = operations }) ≡ units
