-- What the shelves hold.
use Rattle.std.specs.Prelude.{ℕ, List, [], Option, None, Some}
use Rattle.std.specs.Global.{Vec}

-- the text that was handed, or none
abbrev pub units_of : Option (Vec ℕ) → List ℕ
units_of None = []
units_of (Some text) = text.items

-- a shelf that lends another text: what it was handed, and what it lends
pub record Swap : Type 0 where
  pub handed : List ℕ
  pub lent : List ℕ
