use Rattle.jl_effects.specs.Matching.{ArePaired}
use Rattle.jl_effects.proofs.Simulation.{simulates}
use Rattle.jl_effects.proofs.laws.matching_parts_simulate.Goals as goal

pub returns : goal.returns
returns g c = λ l kept i j first second jobs s p q m.
    simulates l kept (ArePaired i j) first second jobs s p q m
