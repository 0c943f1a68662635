use Rattle.jl_effects.specs.Keeping.{IsOneOf}
use Rattle.jl_effects.proofs.Changes.{run_keeps}
use Rattle.jl_effects.proofs.laws.changes_keep.Goals as goal

pub returns : goal.returns
returns g c = λ l stores keeps k jobs n p w h. run_keeps l (IsOneOf stores) keeps k jobs n p w h
