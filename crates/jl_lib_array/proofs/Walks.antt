-- How walks through elements begin.
use Rattle.std.proofs.Common.{◌≡◌, pos, subst, sym, List, Option, Some, ℕ}
use Rattle.std.specs.Prelude.{slice_get}
use Rattle.jl_num.specs.Number.{Number}
use Rattle.jl_value.specs.declared.ending.Completion.TheVariants as completion
use Rattle.jl_value.specs.declared.object.ObjId.{ObjId}
use Rattle.jl_value.specs.declared.value.Value.{Value}
use Rattle.jl_value.specs.declared.value.Value.TheVariants as value
use Rattle.jl_effects.specs.Running.{Finish}
use Rattle.jl_meaning.specs.FunctionObjects.{whole}
use Rattle.jl_meaning.specs.Parts.{Algorithm, AlgorithmFault}
use Rattle.jl_meaning.specs.Parts as parts
use Rattle.jl_meaning.specs.Store.{Store}
use Rattle.jl_meaning.specs.builtins.Arguments.{need_function}
use Rattle.jl_meaning.specs.builtins.ArrayCallbacks.{Walk}
use Rattle.jl_meaning.specs.builtins.Elements.{array_of_length}
use Rattle.jl_progress.specs.ArrayCalls.{argument_of, begin_walk, first_place, turns, with_length}
use Rattle.jl_progress.specs.declared.array_call.Direction.{Direction}
use Rattle.jl_progress.specs.declared.array_call.LengthFor.{LengthFor}
use Rattle.jl_progress.specs.declared.array_call.LengthFor.TheVariants as length_for
use Rattle.jl_progress.specs.declared.array_call.Task.TheVariants as task
use Rattle.jl_progress.specs.declared.array_call.WalkFor.{WalkFor}
use Rattle.jl_progress.specs.declared.array_call.WalkFor.TheVariants as walk_for
use Rattle.jl_store.specs.Answers.{ends_with}
use Rattle.jl_store.specs.BigStep.{BigStep}
use Rattle.jl_store.specs.declared.answer.Answer.{Answer}
use Rattle.jl_store.specs.declared.answer.Answer.TheVariants.{Gives, Throws}
use Rattle.jl_state.specs.Rest.{RefinesAlgorithm}
use Rattle.jl_state.specs.declared.act.Act.{Act}
use Rattle.jl_state.specs.declared.act.Act.TheVariants as act
use Rattle.jl_state.specs.declared.state.State.{State}
use Rattle.jl_state.proofs.Stores.{IsStored}
use Rattle.jl_builtin.proofs.Ends.{answer_given, answer_thrown}

-- the function is there, and its `this`, or the argument is none
module _ (s t : State) (stored : IsStored s t) (purpose : WalkFor) (o : ObjId) (length : ℕ) (args : List Value)
    (answer : Answer ObjId) (comes : BigStep (need_function (argument_of args 0)) s.store t.store
    (ends_with answer)) where
  abbrev begun : (this : Value) → ObjId → Algorithm Value
  begun this f = begin_walk purpose (record { object = o; length = length; function = f; this = this }) args

  pub function_given : (f : ObjId) (this : Value) (u : State) (a : Act) → answer ≡ Gives f → this ≡ argument_of args 1
      → RefinesAlgorithm t (begun this f) u a
      → RefinesAlgorithm s (with_length (length_for.Walk purpose) o args length) u a
  function_given f this u a is this_is refines =
      answer_given s t stored (need_function (argument_of args 0)) (begun (argument_of args 1)) answer comes f u a is
      (subst (λ v. RefinesAlgorithm t (begun v f) u a) this_is refines)

  pub no_function : (v : Value) → answer ≡ Throws v
      → RefinesAlgorithm s (with_length (length_for.Walk purpose) o args length) t (act.Complete (completion.Throw v))
  no_function v is =
      answer_thrown s t stored (need_function (argument_of args 0)) (begun (argument_of args 1)) answer comes v is

pub needed : (s t : Store) (args : List Value) (v : Value) (end : Finish AlgorithmFault (parts.Answer ObjId))
    → v ≡ argument_of args 0 → BigStep (need_function v) s t end → BigStep (need_function (argument_of args 0)) s t end
needed s t args v end is comes = subst (λ w. BigStep (need_function w) s t end) is comes

-- what a length is asked for, and what a walk is for

module _ (s u : State) (a : Act) where
  pub length_is_for : (p q : LengthFor) (o : ObjId) (args : List Value) (length : ℕ) → p ≡ q
      → RefinesAlgorithm s (with_length q o args length) u a → RefinesAlgorithm s (with_length p o args length) u a
  length_is_for p q o args length is refines = subst (λ r. RefinesAlgorithm s (with_length r o args length) u a)
      (sym is) refines

  pub walk_is_for : (p q : WalkFor) (w : Walk) (args : List Value) → p ≡ q
      → RefinesAlgorithm s (begin_walk q w args) u a
      → RefinesAlgorithm s (begin_walk p w args) u a
  walk_is_for p q w args is refines = subst (λ r. RefinesAlgorithm s (begin_walk r w args) u a) (sym is) refines

  pub reduces : (p : WalkFor) (d : Direction) (w : Walk) (args : List Value) (so_far : Option Value) (at : ℕ)
      → p ≡ walk_for.Reduce d → so_far ≡ slice_get args 1 → at ≡ first_place d w.length
      → RefinesAlgorithm s (turns (task.Reduce so_far d) w at) u a → RefinesAlgorithm s (begin_walk p w args) u a
  reduces p d w args so_far at is given place refines =
      walk_is_for p (walk_for.Reduce d) w args is
      (subst (λ n. RefinesAlgorithm s (turns (task.Reduce (slice_get args 1) d) w n) u a) place
      (subst (λ (v : Option Value). RefinesAlgorithm s (turns (task.Reduce v d) w at) u a) given refines))

-- an array of a length that is a count
pub counted : (s t : Store) (length : Number) (n : ℕ) (end : Finish AlgorithmFault (parts.Answer ObjId))
    → length ≡ Some (pos n) → BigStep (array_of_length (value.Num length)) s t end
    → BigStep (array_of_length (whole n)) s t end
counted s t length n end is comes = subst (λ m. BigStep (array_of_length (value.Num m)) s t end) is comes
