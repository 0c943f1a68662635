-- A text in bytes that is kept up to a limit.
use Rattle.std.specs.Prelude.{◌≡◌, ℕ, ◌<◌, ◌≤◌, Bool, true, false, List, ◌++◌, length}
use Rattle.jl_text.specs.Encoding.{bytes_of}
use Rattle.jl_record.specs.declared.bounded.Bounded.{Bounded}

-- the bytes of these units, or only that they are more than the limit
abbrev pub HoldsAs : (passed : Bool) → (limit : ℕ) → (kept : List ℕ) → (units : List ℕ) → Type 0
HoldsAs true limit kept units = limit < length (bytes_of units)
HoldsAs false limit kept units = (kept ≡ bytes_of units) × (length kept ≤ limit)

abbrev pub Holds : Bounded → (units : List ℕ) → Type 0
Holds text units = HoldsAs text.passed text.limit text.bytes.items units

-- whatever it held, it holds that and then these units
pub record Appends (old new : Bounded) (more : List ℕ) : Type 0 where
  pub holds : (units : List ℕ) → Holds old units → Holds new (units ++ more)
