-- Properties of the global object for names that are declared.
use Rattle.std.proofs.Common.{◌≡◌, Bool, false, subst, true}
use Rattle.std.specs.Prelude.{codes, Some}
use Rattle.jl_value.specs.declared.value.Value.{Value}
use Rattle.jl_value.specs.declared.value.Value.TheVariants as value
use Rattle.jl_heap.specs.Objects.{Name}
use Rattle.jl_effects.specs.Running.{Ends, Fails, Finish}
use Rattle.jl_meaning.specs.DeclarationBinding.{create_global}
use Rattle.jl_meaning.specs.Defining.{define_own_property, no_change}
use Rattle.jl_meaning.specs.Errors.{require}
use Rattle.jl_meaning.specs.Intrinsics.{global_object}
use Rattle.jl_meaning.specs.Parts.{throws, Algorithm, Answer}
use Rattle.jl_meaning.specs.Parts as parts
use Rattle.jl_meaning.specs.Store.{Store}
use Rattle.jl_store.specs.Answers.{fault_seen, finish_of}
use Rattle.jl_store.specs.BigStep.{BigStep}
use Rattle.jl_store.specs.declared.answer.AlgorithmFault.{AlgorithmFault}
use Rattle.jl_store.specs.declared.answer.Finished.{Finished}
use Rattle.jl_store.specs.declared.answer.Finished.TheVariants as ended
use Rattle.jl_store.proofs.Chains.{comes_failed, comes_on, comes_thrown}

abbrev defined : Name → Algorithm Bool
defined x = define_own_property global_object x (record no_change {
  value = Some value.Undefined;
  writable = Some true;
  enumerable = Some true;
  configurable = Some false;
})

module _ (x : Name) (s t : Store) (end : Finished Bool) (first : BigStep (defined x) s t (finish_of end)) where
  abbrev then_required : Bool → Algorithm (Unit {0})
  then_required done = require done (codes "cannot define")

  in_case : (e : Finished Bool) → end ≡ e → BigStep (defined x) s t (finish_of e)
  in_case e is = subst (λ f. BigStep (defined x) s t (finish_of f)) is first

  pub global_done : (u : Store) (done : Bool) (e : Finish parts.AlgorithmFault (Answer (Unit {0})))
      → end ≡ ended.Gives done → BigStep (then_required done) t u e → BigStep (create_global x) s u e
  global_done u done e is comes = comes_on then_required (in_case (ended.Gives done) is) comes

  pub global_thrown : (w : Value) → end ≡ ended.Throws w → BigStep (create_global x) s t (Ends (throws w))
  global_thrown w is = comes_thrown then_required (in_case (ended.Throws w) is)

  pub global_failed : (f : AlgorithmFault) → end ≡ ended.Fails f → BigStep (create_global x) s t (Fails (fault_seen f))
  global_failed f is = comes_failed then_required (in_case (ended.Fails f) is)
