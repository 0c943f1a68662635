-- Rows of a map whose parts stand in the source.
use Rattle.std.specs.Prelude.{◌≤◌, ℕ}
use Rattle.jl_op.specs.Map.{MapRow}

-- the part begins and ends in a text that ends here
abbrev pub LiesIn : (end : ℕ) → MapRow → Type 0
LiesIn end row = (row.1.from ≤ end) × (row.1.to ≤ end)
