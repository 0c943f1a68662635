-- What comes of an algorithm of the store, before what follows it.
use Rattle.std.proofs.Common.{◌≡◌, subst, sym}
use Rattle.jl_value.specs.declared.ending.Completion.TheVariants as completion
use Rattle.jl_value.specs.declared.ending.Fault.{Fault}
use Rattle.jl_value.specs.declared.value.Value.{Value}
use Rattle.jl_meaning.specs.Parts.{fault_of, ◌>>=◌, Algorithm}
use Rattle.jl_store.specs.Answers.{ends_with, fault_seen, finish_of}
use Rattle.jl_store.specs.BigStep.{BigStep}
use Rattle.jl_store.specs.declared.answer.AlgorithmFault.{AlgorithmFault}
use Rattle.jl_store.specs.declared.answer.Answer.{Answer}
use Rattle.jl_store.specs.declared.answer.Answer.TheVariants.{Gives, Throws}
use Rattle.jl_store.specs.declared.answer.Finished.{Finished}
use Rattle.jl_store.specs.declared.answer.Finished.TheVariants as ended
use Rattle.jl_state.specs.Rest.{RefinesAlgorithm}
use Rattle.jl_state.specs.declared.act.Act.{Act}
use Rattle.jl_state.specs.declared.act.Act.TheVariants as act
use Rattle.jl_state.specs.declared.state.State.{State}
use Rattle.jl_state.proofs.Stores.{works_comes, works_failed, works_thrown, IsStored}

module _ {A : Type 0} (s t : State) (stored : IsStored s t) (p : Algorithm A) (k : A → Algorithm Value) where
  -- an answer
  pub answer_given : (answer : Answer A) → BigStep p s.store t.store (ends_with answer) → (x : A) (u : State) (a : Act)
      → answer ≡ Gives x → RefinesAlgorithm t (k x) u a → RefinesAlgorithm s (p >>= k) u a
  answer_given answer comes x u a is refines =
      works_comes s t stored p x k u a
      (subst (λ (b : Answer A). BigStep p s.store t.store (ends_with b)) is comes) refines

  pub answer_thrown : (answer : Answer A) → BigStep p s.store t.store (ends_with answer) → (v : Value)
      → answer ≡ Throws v → RefinesAlgorithm s (p >>= k) t (act.Complete (completion.Throw v))
  answer_thrown answer comes v is =
      works_thrown s t stored p v k (subst (λ (b : Answer A). BigStep p s.store t.store (ends_with b)) is comes)

  -- an end, which may be a fault
  pub end_given : (end : Finished A) → BigStep p s.store t.store (finish_of end) → (x : A) (u : State) (a : Act)
      → end ≡ ended.Gives x → RefinesAlgorithm t (k x) u a → RefinesAlgorithm s (p >>= k) u a
  end_given end comes x u a is refines =
      works_comes s t stored p x k u a
      (subst (λ (b : Finished A). BigStep p s.store t.store (finish_of b)) is comes) refines

  pub end_thrown : (end : Finished A) → BigStep p s.store t.store (finish_of end) → (v : Value) → end ≡ ended.Throws v
      → RefinesAlgorithm s (p >>= k) t (act.Complete (completion.Throw v))
  end_thrown end comes v is =
      works_thrown s t stored p v k (subst (λ (b : Finished A). BigStep p s.store t.store (finish_of b)) is comes)

  pub end_failed : (end : Finished A) → BigStep p s.store t.store (finish_of end) → (f : AlgorithmFault) (g : Fault)
      → end ≡ ended.Fails f → g ≡ fault_of (fault_seen f) → RefinesAlgorithm s (p >>= k) t (act.Fault g)
  end_failed end comes f g is fault_is =
      subst (λ h. RefinesAlgorithm s (p >>= k) t (act.Fault h)) (sym fault_is)
      (works_failed s t stored p (fault_seen f) k
      (subst (λ (b : Finished A). BigStep p s.store t.store (finish_of b)) is comes))
