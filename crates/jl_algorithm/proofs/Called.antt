-- Steps that make a call.
use Rattle.std.proofs.Common.{◌≡◌, ◌+◌, ◌<◌, ◌≤◌, ◌∷◌, [], arith, false, refl, subst, sym, IfOk, List, Result, ℕ}
use Rattle.std.proofs.lemmas.Result.{IfOk-weaker}
use Rattle.jl_value.specs.declared.object.ObjId.{ObjId}
use Rattle.jl_value.specs.declared.value.Value.{Value}
use Rattle.jl_meaning.specs.Parts.{call, give, ◌>>=◌}
use Rattle.jl_state.specs.Rank.{rank_act, rank_algorithm, RankedBelow}
use Rattle.jl_state.specs.Rest.{RefinesAlgorithm}
use Rattle.jl_state.specs.Steps.{AlgorithmWaits}
use Rattle.jl_state.specs.declared.act.Act.{Act}
use Rattle.jl_state.specs.declared.act.Act.TheVariants as act
use Rattle.jl_state.specs.declared.act.Invocation.{Invocation}
use Rattle.jl_state.specs.declared.algorithm_frame.AlgorithmFrame.{AlgorithmFrame}
use Rattle.jl_state.specs.declared.algorithm_frame.AlgorithmFrame.TheVariants as algorithm
use Rattle.jl_state.specs.declared.frame.Frame.TheVariants as frame
use Rattle.jl_state.specs.declared.state.State.{State}
use Rattle.jl_state.proofs.Acts.{falls_act, works_act}

module _ {E : Type 0} (r : Result Act E) (c : Invocation) (made : IfOk r (λ a. a ≡ act.Call c)) where
  -- it is one act
  pub rank_called : (n : ℕ) → 1 ≤ n → IfOk r (λ a. rank_act a ≤ n)
  rank_called n more =
      IfOk-weaker r (λ a. a ≡ act.Call c) (λ a. rank_act a ≤ n) (λ a is. subst (λ b. rank_act b ≤ n) (sym is) more) made

  -- and an algorithm waits for what is called
  pub falls_called : (s t : State) (f : AlgorithmFrame) (n : ℕ) → t ≡ record s { stack = frame.Algorithm f ∷ s.stack }
      → 1 + rank_algorithm f < n → IfOk r (λ a. RankedBelow s n t a)
  falls_called s t f n is less =
      falls_act s t (act.Call c) r made n
      (subst (λ (u : State). RankedBelow s n u (act.Call c)) (sym is) (record {
        left = omega arith;
        lower = λ same. omega (arith, less);
      }))

-- a value is given when that is done
pub calls_then : {E : Type 0} (s t : State) (r : Result Act E) (f : ObjId) (this v given : Value) (l : List Value)
    → IfOk r (λ a. a ≡ act.Call (record { callee = f; this = this; args = l; by_new = false })) → l ≡ v ∷ []
    → AlgorithmWaits s (algorithm.Then given) t
    → IfOk r (λ a. RefinesAlgorithm s (call f this (v ∷ []) >>= λ _. give given) t a)
calls_then s t r f this v given l made one waits =
    works_act s t (called l) r made (call f this (v ∷ []) >>= λ _. give given)
    (waits.works (call f this (v ∷ [])) t (called l)
    (subst (λ k. RefinesAlgorithm t (call f this (v ∷ [])) t (called k)) (sym one) (record { is = λ kept told. refl })))
  where
    called : List Value → Act
    called k = act.Call (record { callee = f; this = this; args = k; by_new = false })
