-- Steps whose last call makes their act: what holds of the act holds of what the call answers.
use Rattle.std.proofs.Common.{◌≡◌, subst, sym, IfOk, Result, ℕ}
use Rattle.std.proofs.lemmas.Result.{IfOk-weaker}
use Rattle.jl_value.specs.declared.value.Value.{Value}
use Rattle.jl_meaning.specs.Parts.{Algorithm, Answer, Part}
use Rattle.jl_state.specs.Rank.{RankedBelow}
use Rattle.jl_state.specs.Rest.{RefinesExpression, RefinesAlgorithm}
use Rattle.jl_state.specs.declared.act.Act.{Act}
use Rattle.jl_state.specs.declared.state.State.{State}

module _ {E : Type 0} (s t : State) (a : Act) (r : Result Act E) (made : IfOk r (λ b. b ≡ a)) where
  pub works_act : (p : Algorithm Value) → RefinesAlgorithm s p t a → IfOk r (λ b. RefinesAlgorithm s p t b)
  works_act p refines =
      IfOk-weaker r (λ b. b ≡ a) (λ b. RefinesAlgorithm s p t b)
      (λ b is. subst (λ c. RefinesAlgorithm s p t c) (sym is) refines) made

  pub gives_act : (p : Part (Answer Value)) → RefinesExpression s p t a → IfOk r (λ b. RefinesExpression s p t b)
  gives_act p refines =
      IfOk-weaker r (λ b. b ≡ a) (λ b. RefinesExpression s p t b)
      (λ b is. subst (λ c. RefinesExpression s p t c) (sym is) refines) made

  pub falls_act : (n : ℕ) → RankedBelow s n t a → IfOk r (λ b. RankedBelow s n t b)
  falls_act n bounded =
      IfOk-weaker r (λ b. b ≡ a) (λ b. RankedBelow s n t b)
      (λ b is. subst (λ c. RankedBelow s n t c) (sym is) bounded) made
