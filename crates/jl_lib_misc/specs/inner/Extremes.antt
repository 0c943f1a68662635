-- The greatest or least of several numbers (15.8.2.11, 15.8.2.12).
use Rattle.std.specs.Option.{option_map_or}
use Rattle.std.specs.Prelude.{Option}
use Rattle.jl_num.specs.Number.{Number}
use Rattle.jl_meaning.specs.builtins.Math.{one_of}
use Rattle.jl_progress.specs.Numbers.{pick_of}
use Rattle.jl_progress.specs.declared.number.Extreme.{Extreme}

-- the number so far, when there is one more
abbrev pub next_extreme : Extreme → (so_far : Option Number) → Number → Number
next_extreme which so_far n = option_map_or (λ m. one_of (pick_of which) m n) so_far n
