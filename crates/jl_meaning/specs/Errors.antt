-- The errors that the language throws by itself (15.11), and strings that are too long.
use Rattle.std.specs.Prelude.{codes, false, if◌then◌else◌, length, nat_lt, true, ◌++◌, Bool, List, Some, ℕ}
use Rattle.jl_value.specs.declared.error_kind.ErrorKind.{ErrorKind}
use Rattle.jl_value.specs.declared.error_kind.ErrorKind.TheVariants.{ReferenceError, TypeError}
use Rattle.jl_value.specs.declared.object.Class.TheVariants as class
use Rattle.jl_value.specs.declared.value.Value.TheVariants as value
use Rattle.jl_heap.specs.Objects.{Name}
use Rattle.jl_heap.specs.declared.inner.Inner.TheVariants as inner
use Rattle.jl_heap.specs.declared.property.Prop.TheVariants.{Plain}
use Rattle.jl_text.specs.Limits.{most_units}
use Rattle.jl_effects.specs.Effects.{Fail}
use Rattle.jl_meaning.specs.Intrinsics.{prototype_of_error}
use Rattle.jl_meaning.specs.Parts.{add_property, give, new_object, throw, ◌>>=◌, Algorithm, StringTooLong}

-- a string of a run has at most this many units
abbrev pub string_limit : ℕ
string_limit = most_units

-- a string, or the fault that it is too long
abbrev pub string_within : List ℕ → Algorithm (List ℕ)
string_within units = if nat_lt string_limit (length units) then Fail StringTooLong else give units

-- a new error with its message (15.11.1.1, 15.11.7.4) is thrown
unfoldable pub throw_error : {A : Type 0} → ErrorKind → List ℕ → Algorithm A
throw_error kind message = do
  error ← new_object class.Error (Some (prototype_of_error kind)) inner.Nothing
  _ ← add_property error (codes "message") (Plain (value.Text message) true false true)
  throw (value.Obj error)

abbrev pub throw_type_error : {A : Type 0} → List ℕ → Algorithm A
throw_type_error message = throw_error TypeError message

-- a TypeError is thrown unless this is so
abbrev pub require : Bool → List ℕ → Algorithm (Unit {0})
require true message = give tt
require false message = throw_type_error message

-- nothing binds the name that is asked for (8.7.1, 8.7.2)
abbrev pub throw_not_defined : {A : Type 0} → Name → Algorithm A
throw_not_defined x = do
  message ← string_within (x ++ codes " is not defined")
  throw_error ReferenceError message
