-- What an algorithm comes to that looks at the store and changes it, and neither calls a function nor takes a step.
use Rattle.std.specs.Prelude.{◌≡◌}
use Rattle.jl_effects.specs.Effects.{Change, End, Fail, Look}
use Rattle.jl_effects.specs.Running.{Ends, Fails, Finish}
use Rattle.jl_meaning.specs.Parts.{Algorithm, AlgorithmFault, Answer}
use Rattle.jl_meaning.specs.Store.{Store}
use Rattle.jl_store.specs.Changes.{after}

abbrev pub refines : {A : Type 0} → Algorithm A → (from to : Store) → Finish AlgorithmFault (Answer A) → Type 0
refines (End a) from to end = (Ends a ≡ end) × (from ≡ to)
refines (Fail f) from to end = (Fails f ≡ end) × (from ≡ to)
refines (Look p) from to end = refines (p from) from to end
refines (Change c p) from to end = refines p (after c from) to end
refines _ from to end = ⊥

-- the algorithm comes from this store to that one, and to this end
pub record BigStep {A : Type 0} (p : Algorithm A) (from to : Store) (end : Finish AlgorithmFault (Answer A))
    : Type 0 where
  pub refines : refines p from to end
