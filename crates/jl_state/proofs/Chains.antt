-- Parts and algorithms one after another, as the machine's frames put them together.
use Rattle.std.proofs.Common.{◌≡◌, ◌∙◌, ap, subst, sym}
use Rattle.jl_value.specs.declared.value.Value.{Value}
use Rattle.jl_effects.specs.Effects.{and_then, Look}
use Rattle.jl_meaning.specs.Parts.{lift, ◌>>=◌, Algorithm, Answer, Part}
use Rattle.jl_meaning.specs.Store.{Store}
use Rattle.jl_meaning.proofs.Binds.{bind_assoc, lift_bind}
use Rattle.jl_state.specs.Rest.{as_value, continuation_of, run_in, RefinesExpression, RefinesAlgorithm}
use Rattle.jl_state.specs.declared.act.Act.{Act}
use Rattle.jl_state.specs.declared.state.State.{State}
use Rattle.jl_state.proofs.Steps.{gives_works}

-- what follows is put after what goes before
pub works_assoc : {A B : Type 0} (s : State) (p : Algorithm A) (k : A → Algorithm B) (l : B → Algorithm Value)
    (t : State) (a : Act) → RefinesAlgorithm s (p >>= λ b. k b >>= l) t a → RefinesAlgorithm s (p >>= k >>= l) t a
works_assoc s p k l t a refines = subst (λ q. RefinesAlgorithm s q t a) (sym (bind_assoc p k l)) refines

pub gives_assoc : {A B : Type 0} (s : State) (p : Part (Answer A)) (k : A → Part (Answer B))
    (l : B → Part (Answer Value)) (t : State) (a : Act) → RefinesExpression s (p >>= λ b. k b >>= l) t a
    → RefinesExpression s (p >>= k >>= l) t a
gives_assoc s p k l t a refines = subst (λ q. RefinesExpression s q t a) (sym (bind_assoc p k l)) refines

-- an algorithm of two algorithms, as a part of a script
pub gives_lifted : {A : Type 0} (s : State) (p : Algorithm A) (k : A → Algorithm Value) (t : State) (a : Act)
    → RefinesAlgorithm s (p >>= k) t a → RefinesExpression s (lift p >>= λ b. lift (k b)) t a
gives_lifted s p k t a refines = subst (λ q. RefinesExpression s q t a) (lift_bind p k)
    (gives_works s (p >>= k) t a refines)

-- a look at the store
pub gives_looked : (s : State) (k : Store → Part (Answer Value)) (p : Part (Answer Value)) (t : State) (a : Act)
    → p ≡ k s.store → RefinesExpression s p t a → RefinesExpression s (Look k) t a
gives_looked s k p t a e refines = record {
  is = λ kept told. refines.is kept told ∙ ap (λ q. run_in kept told s (and_then (as_value q) (continuation_of s))) e;
}
