-- How long a string may be.
use Rattle.std.specs.Prelude.{ℕ}

-- the most UTF-16 units of a string
abbrev pub most_units : ℕ
most_units = 1048576
