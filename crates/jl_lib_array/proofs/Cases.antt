-- What is left to do of what a function keeps, by the variant of it.
use Rattle.std.proofs.Common.{◌≡◌, ◌+◌, ◌≤◌, arith, refl, subst, sym, IfOk, List, Result, ℕ}
use Rattle.std.proofs.lemmas.Result.{IfOk-weaker}
use Rattle.jl_value.specs.declared.object.ObjId.{ObjId}
use Rattle.jl_value.specs.declared.value.Value.{Value}
use Rattle.jl_progress.specs.Arrays.{array_after, rank_array, with_length}
use Rattle.jl_progress.specs.declared.array.ArrayProgress.{ArrayProgress}
use Rattle.jl_progress.specs.declared.array.ArrayProgress.TheVariants as progress
use Rattle.jl_progress.specs.declared.array.LengthFunction.{LengthFunction}
use Rattle.jl_state.specs.Rank.{RankedBelow}
use Rattle.jl_state.specs.Rest.{RefinesAlgorithm}
use Rattle.jl_state.specs.declared.act.Act.{Act}
use Rattle.jl_state.specs.declared.state.State.{State}

module _ {E : Type 0} (s t : State) (r : Result Act E) where
  pub resumes : (p q : ArrayProgress) (v : Value) → p ≡ q → IfOk r (λ a. RefinesAlgorithm s (array_after q v) t a)
      → IfOk r (λ a. RefinesAlgorithm s (array_after p v) t a)
  resumes p q v is refines = subst (λ x. IfOk r (λ a. RefinesAlgorithm s (array_after x v) t a)) (sym is) refines

  pub falls_at : (p q : ArrayProgress) (n : ℕ) → p ≡ q → n ≤ rank_array q + 2 → IfOk r (λ a. RankedBelow s n t a)
      → IfOk r (λ a. RankedBelow s (rank_array p + 2) t a)
  falls_at p q n is low bounded =
      subst (λ x. IfOk r (λ a. RankedBelow s (rank_array x + 2) t a)) (sym is)
      (IfOk-weaker r (λ a. RankedBelow s n t a) (λ a. RankedBelow s (rank_array q + 2) t a)
      (λ a less. record { left = less.left; lower = λ same. omega (arith, less.lower same, low) }) bounded)

  pub with_function : (f g : LengthFunction) (o : ObjId) (args l : List Value) (n : ℕ) → f ≡ g → l ≡ args
      → IfOk r (λ a. RefinesAlgorithm s (with_length g o l n) t a)
      → IfOk r (λ a. RefinesAlgorithm s (with_length f o args n) t a)
  with_function f g o args l n is same refines =
      subst (λ h. IfOk r (λ a. RefinesAlgorithm s (with_length h o args n) t a)) (sym is)
      (subst (λ (k : List Value). IfOk r (λ a. RefinesAlgorithm s (with_length g o k n) t a)) same refines)

  -- one that does not look at its arguments
  pub with_any_arguments : (f g : LengthFunction) (o : ObjId) (args : List Value) (n : ℕ) → f ≡ g
      → IfOk r (λ a. (l : List Value) → RefinesAlgorithm s (with_length g o l n) t a)
      → IfOk r (λ a. RefinesAlgorithm s (with_length f o args n) t a)
  with_any_arguments f g o args n is refines =
      with_function f g o args args n is refl
      (IfOk-weaker r (λ a. (l : List Value) → RefinesAlgorithm s (with_length g o l n) t a)
      (λ a. RefinesAlgorithm s (with_length g o args n) t a) (λ a each. each args) refines)

  -- the second argument of splice, with the arguments as a slice
  pub resumes_count : (p : ArrayProgress) (o array : ObjId) (n start : ℕ) (args l : List Value) (v : Value)
      → p ≡ progress.SpliceCount o array n start args → l ≡ args
      → IfOk r (λ a. RefinesAlgorithm s (array_after (progress.SpliceCount o array n start l) v) t a)
      → IfOk r (λ a. RefinesAlgorithm s (array_after p v) t a)
  resumes_count p o array n start args l v is same refines =
      resumes p (progress.SpliceCount o array n start args) v is
      (subst (λ (k : List Value). IfOk r (λ a. RefinesAlgorithm s
      (array_after (progress.SpliceCount o array n start k) v) t a))
      same refines)
