-- Where the units of a text lie.
use Rattle.std.specs.Prelude.{ℕ, ◌≤◌, List, length, take}
use Rattle.jl_text.specs.Limits.{most_units}
use Rattle.jl_text.specs.declared.text.Units.{Units}
use Rattle.jl_text.specs.declared.text.Units.TheVariants.{Few, Many}

abbrev pub units_held : Units → List ℕ
units_held (Few few) = take few.count few.units
units_held (Many units) = units.items

-- few are at most eleven, and many no more than a text may have
abbrev pub IsKept : Units → Type 0
IsKept (Few few) = few.count ≤ 11
IsKept (Many units) = length units.items ≤ most_units
