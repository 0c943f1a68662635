use Rattle.jl_effects.specs.Matching.{ArePaired}
use Rattle.jl_effects.proofs.MatchRuns.{follows}
use Rattle.jl_effects.proofs.laws.matching_parts_follow.Goals as goal

pub returns : goal.returns
returns g c = λ l kept i j first second jobs credit rest n v p q m.
    follows l kept (ArePaired i j) first second jobs n m v.output v.operations v.hooks
