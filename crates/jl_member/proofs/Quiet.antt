-- Operations of the script's own, which no run is told of that records hooks alone.
use Rattle.std.proofs.Common.{refl}
use Rattle.jl_value.specs.declared.value.Value.{Value}
use Rattle.jl_op.specs.Operations.{Operation}
use Rattle.jl_effects.specs.Effects.{Look, Perform}
use Rattle.jl_meaning.specs.Parts.{◌>>=◌, Answer, Part}
use Rattle.jl_meaning.specs.Store.{Store}
use Rattle.jl_state.specs.Rest.{RefinesExpression}
use Rattle.jl_state.specs.declared.act.Act.{Act}
use Rattle.jl_state.specs.declared.state.State.{State}
use Rattle.jl_state.proofs.Steps.{gives_alike}

-- an operation before a part
pub performed : (s : State) (o : Store → Operation) (p : Part (Answer Value)) (t : State) (a : Act)
    → RefinesExpression s p t a → RefinesExpression s (Look (λ store. Perform (o store) p)) t a
performed s o p t a refines = record { is = refines.is }

-- an operation after a part, of what it gives
pub performed_after : {A : Type 0} (s : State) (p : Part (Answer A)) (o : Store → A → Operation)
    (k : A → Part (Answer Value)) (t : State) (a : Act)
    → RefinesExpression s (p >>= k) t a → RefinesExpression s (p >>= λ b. Look (λ store. Perform (o store b) (k b))) t a
performed_after s p o k t a refines =
    gives_alike s p k (λ b. Look (λ store. Perform (o store b) (k b))) t a (λ b kept n w. refl) refines
