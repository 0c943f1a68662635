-- How functions were called, in numbers.
use Rattle.std.specs.Prelude.{ℕ, List, map}
use Rattle.jl_analysis.specs.Memories.{Memory}
use Rattle.jl_rules_use.specs.declared.mixed_new.Ways.{Ways}
use Rattle.jl_rules_use.specs.declared.mixed_new.Ways.TheVariants as ways

abbrev pub number_of : Ways → ℕ
number_of ways.Call = 1
number_of ways.New = 2
number_of ways.Both = 3

-- what mixed-new remembers
abbrev pub memory_of_ways : List (ℕ × Ways) → Memory
memory_of_ways entries = map (λ x. (x.0, number_of x.1)) entries
