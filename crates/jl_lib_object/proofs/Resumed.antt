-- A builtin of Object or its prototype that goes on, by what it has kept.
use Rattle.std.proofs.Common.{◌≡◌, ◌≤◌, ◌+◌, arith, subst, sym, IfOk, Result, ℕ}
use Rattle.std.proofs.lemmas.Result.{IfOk-weaker}
use Rattle.jl_value.specs.declared.value.Value.{Value}
use Rattle.jl_progress.specs.Objects.{object_after, rank_object}
use Rattle.jl_progress.specs.declared.object.ObjectProgress.{ObjectProgress}
use Rattle.jl_state.specs.Rank.{RankedBelow}
use Rattle.jl_state.specs.Rest.{RefinesAlgorithm}
use Rattle.jl_state.specs.declared.act.Act.{Act}
use Rattle.jl_state.specs.declared.state.State.{State}

module _ {E : Type 0} (s : State) (progress kept : ObjectProgress) (t : State) (r : Result Act E) where
  pub resumes : (v : Value) → progress ≡ kept → IfOk r (λ a. RefinesAlgorithm s (object_after kept v) t a)
      → IfOk r (λ a. RefinesAlgorithm s (object_after progress v) t a)
  resumes v is refines = subst (λ p. IfOk r (λ a. RefinesAlgorithm s (object_after p v) t a)) (sym is) refines

  pub falls_resumed : (m : ℕ) → progress ≡ kept → IfOk r (λ a. RankedBelow s m t a) → m ≤ rank_object kept + 2
      → IfOk r (λ a. RankedBelow s (rank_object progress + 2) t a)
  falls_resumed m is bounded within =
      subst (λ p. IfOk r (λ a. RankedBelow s (rank_object p + 2) t a)) (sym is)
      (IfOk-weaker r (λ a. RankedBelow s m t a) (λ a. RankedBelow s (rank_object kept + 2) t a)
      (λ a less. record { left = less.left; lower = λ same. omega (arith, within, less.lower same) }) bounded)
