-- What is to be said of a script and its woven one, for each set of kinds.
use Rattle.jl_ast.specs.Tree.{Program}
use Rattle.jl_op.specs.Chosen.{is_kept, Kinds}
use Rattle.jl_effects.specs.Matching.{Simulates}
use Rattle.jl_meaning.specs.Mean.{mean}
use Rattle.jl_simulation.specs.Weaving.{woven_program}

-- the script and its woven one, as they run for the chosen kinds
abbrev pub WovenSimulates : {S : Type 0} → Kinds → Program S → Type 0
WovenSimulates chosen p =
    Simulates (is_kept chosen) (λ n. mean chosen p n) (λ n. mean chosen (woven_program chosen p) n)
