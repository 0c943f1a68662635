-- What goes on with a value, where what was kept is known.
use Rattle.std.proofs.Common.{◌≡◌, ◌≤◌, ◌+◌, arith, subst, sym, IfOk, Result, ℕ}
use Rattle.std.proofs.lemmas.Result.{IfOk-weaker}
use Rattle.jl_value.specs.declared.value.Value.{Value}
use Rattle.jl_meaning.specs.Parts.{Algorithm}
use Rattle.jl_progress.specs.ArrayCalls.{array_call_after, rank_array_call}
use Rattle.jl_progress.specs.declared.array_call.ArrayCallProgress.{ArrayCallProgress}
use Rattle.jl_state.specs.Rank.{RankedBelow}
use Rattle.jl_state.specs.Rest.{RefinesAlgorithm}
use Rattle.jl_state.specs.declared.act.Act.{Act}
use Rattle.jl_state.specs.declared.state.State.{State}

-- what follows a value that is known
pub works_at : {A : Type 0} (s t : State) (a : Act) (k : A → Algorithm Value) (x y : A) → x ≡ y
    → RefinesAlgorithm s (k x) t a
    → RefinesAlgorithm s (k y) t a
works_at {A} s t a k x y is refines = subst (λ z. RefinesAlgorithm s (k z) t a) is refines

module _ {E : Type 0} (s t : State) (r : Result Act E) (p q : ArrayCallProgress) (is : p ≡ q) where
  pub resumes : (v : Value) → IfOk r (λ a. RefinesAlgorithm s (array_call_after q v) t a)
      → IfOk r (λ a. RefinesAlgorithm s (array_call_after p v) t a)
  resumes v refines = subst (λ x. IfOk r (λ a. RefinesAlgorithm s (array_call_after x v) t a)) (sym is) refines

  pub falls_resumed : (n : ℕ) → n ≤ rank_array_call q + 2 → IfOk r (λ a. RankedBelow s n t a)
      → IfOk r (λ a. RankedBelow s (rank_array_call p + 2) t a)
  falls_resumed n within bounded =
      subst (λ x. IfOk r (λ a. RankedBelow s (rank_array_call x + 2) t a)) (sym is)
      (IfOk-weaker r (λ a. RankedBelow s n t a) (λ a. RankedBelow s (rank_array_call q + 2) t a)
      (λ a less. record { left = less.left; lower = λ same. omega (arith, within, less.lower same) }) bounded)
