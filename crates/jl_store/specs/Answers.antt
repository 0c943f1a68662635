-- The answers of the code, as ends of algorithms.
use Rattle.std.specs.Prelude.{codes, false, length, nat_lt, not, true, ◌++◌, ◌≡◌, IsTrue, List, Some, ℕ}
use Rattle.jl_value.specs.declared.error_kind.ErrorKind.{ErrorKind}
use Rattle.jl_value.specs.declared.error_kind.ErrorKind.TheVariants.{ReferenceError}
use Rattle.jl_value.specs.declared.object.Class.TheVariants as class
use Rattle.jl_value.specs.declared.value.Value.{Value}
use Rattle.jl_value.specs.declared.value.Value.TheVariants as value
use Rattle.jl_heap.specs.declared.inner.Inner.TheVariants as inner
use Rattle.jl_heap.specs.declared.property.Prop.TheVariants.{Plain}
use Rattle.jl_effects.specs.Running.{Ends, Fails, Finish}
use Rattle.jl_meaning.specs.Changes.{NewObject, NewProperty}
use Rattle.jl_meaning.specs.Errors.{string_limit}
use Rattle.jl_meaning.specs.Intrinsics.{prototype_of_error}
use Rattle.jl_meaning.specs.Parts.{gives, throws}
use Rattle.jl_meaning.specs.Parts as parts
use Rattle.jl_meaning.specs.Store.{next_object, Store}
use Rattle.jl_store.specs.Changes.{after}
use Rattle.jl_store.specs.declared.answer.Answer.{Answer}
use Rattle.jl_store.specs.declared.answer.Answer.TheVariants.{Gives, Throws}
use Rattle.jl_store.specs.declared.answer.AlgorithmFault.{AlgorithmFault}
use Rattle.jl_store.specs.declared.answer.AlgorithmFault.TheVariants as fault
use Rattle.jl_store.specs.declared.answer.Finished.{Finished}
use Rattle.jl_store.specs.declared.errors.NotDefined.{NotDefined}
use Rattle.jl_store.specs.declared.errors.NotDefined.TheVariants as not_defined
use Rattle.jl_store.specs.declared.answer.Finished.TheVariants as ended

abbrev pub ends_with : {A : Type 0} → Answer A → Finish parts.AlgorithmFault (parts.Answer A)
ends_with (Gives a) = Ends (gives a)
ends_with (Throws v) = Ends (throws v)

-- the fault of an algorithm
abbrev pub fault_seen : AlgorithmFault → parts.AlgorithmFault
fault_seen fault.NumberOutside = parts.NumberOutside
fault_seen fault.StringTooLong = parts.StringTooLong

abbrev pub finish_of : {A : Type 0} → Finished A → Finish parts.AlgorithmFault (parts.Answer A)
finish_of (ended.Gives a) = Ends (gives a)
finish_of (ended.Throws v) = Ends (throws v)
finish_of (ended.Fails f) = Fails (fault_seen f)

-- a new error of this kind, with its message, comes last, and is what is thrown (15.11.1.1, 15.11.7.4)
pub record MakesError (kind : ErrorKind) (message : List ℕ) (from to : Store) (thrown : Value) : Type 0 where
  pub error : thrown ≡ value.Obj (next_object from)
  pub made : to
      ≡ after (NewProperty (next_object from) (codes "message") (Plain (value.Text message) true false true))
      (after (NewObject class.Error (Some (prototype_of_error kind)) inner.Nothing) from)

-- nothing binds this name: the error that says so is made, unless its message would be too long (8.7.1, 8.7.2)
abbrev pub IsNotDefined : (x : List ℕ) → (from to : Store) → NotDefined → Type 0
IsNotDefined x from to (not_defined.Throws v) =
    IsTrue (not (nat_lt string_limit (length (x ++ codes " is not defined"))))
    × MakesError ReferenceError (x ++ codes " is not defined") from to v
IsNotDefined x from to not_defined.TooLong =
    IsTrue (nat_lt string_limit (length (x ++ codes " is not defined"))) × (to ≡ from)
