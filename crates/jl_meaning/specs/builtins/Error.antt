-- Error and the native errors (15.11).
use Rattle.std.specs.Prelude.{[], codes, false, true, ◌++◌, ◌∷◌, List, None, Option, Some, ℕ}
use Rattle.jl_value.specs.declared.builtin_groups.ErrorBuiltin.{ErrorBuiltin}
use Rattle.jl_value.specs.declared.builtin_groups.ErrorBuiltin.TheVariants as error_builtin
use Rattle.jl_value.specs.Intrinsics.{error_prototype, eval_error_prototype, range_error_prototype}
use Rattle.jl_value.specs.Intrinsics.{reference_error_prototype, syntax_error_prototype, type_error_prototype}
use Rattle.jl_value.specs.Intrinsics.{uri_error_prototype}
use Rattle.jl_value.specs.declared.object.Class.TheVariants as class
use Rattle.jl_value.specs.declared.object.ObjId.{ObjId}
use Rattle.jl_value.specs.declared.value.Value.{Value}
use Rattle.jl_value.specs.declared.value.Value.TheVariants as value
use Rattle.jl_heap.specs.declared.inner.Inner.TheVariants as inner
use Rattle.jl_heap.specs.declared.property.Prop.TheVariants.{Plain}
use Rattle.jl_meaning.specs.Conversions.{to_string}
use Rattle.jl_meaning.specs.Errors.{string_within}
use Rattle.jl_meaning.specs.Getting.{get}
use Rattle.jl_meaning.specs.Parts.{add_property, give, new_object, ◌>>=◌, Algorithm, Call}
use Rattle.jl_meaning.specs.builtins.Arguments.{argument, give_object, give_string, need_object, unless_undefined}

-- the message of a new error, where there is one
abbrev pub add_message : ObjId → Option (List ℕ) → Algorithm (Unit {0})
add_message id None = give tt
add_message id (Some units) = add_property id (codes "message") (Plain (value.Text units) true false true)

abbrev pub new_error : (proto : ObjId) → Option (List ℕ) → Algorithm ObjId
new_error proto message = do
  id ← new_object class.Error (Some proto) inner.Nothing
  _ ← add_message id message
  give id

-- the string of a message that is given
abbrev pub message_given : Value → Algorithm (Option (List ℕ))
message_given v = unless_undefined None (λ v. do
  units ← to_string v
  give (Some units)) v

-- Error(message), NativeError(message), and the same with `new` (15.11.1.1, 15.11.2.1, 15.11.7.2, 15.11.7.4)
abbrev pub error_constructor : (proto : ObjId) → Call → Algorithm Value
error_constructor proto c = do
  message ← message_given (argument c 0)
  id ← new_error proto message
  give_object id

-- a name and a message, where neither is empty (15.11.4.4, steps 8 to 10)
abbrev pub name_and_message : (name message : List ℕ) → Algorithm Value
name_and_message [] message = give_string message
name_and_message (u ∷ us) [] = give_string (u ∷ us)
name_and_message (u ∷ us) (v ∷ vs) = do
  units ← string_within ((u ∷ us) ++ codes ": " ++ v ∷ vs)
  give_string units

-- the string of a property, or this one where it is undefined (steps 3 to 7)
abbrev pub string_or : List ℕ → Value → Algorithm (List ℕ)
string_or other v = unless_undefined other to_string v

-- Error.prototype.toString() (15.11.4.4)
abbrev pub error_to_string : Call → Algorithm Value
error_to_string c = do
  id ← need_object c.this
  v ← get (value.Obj id) (codes "name")
  name ← string_or (codes "Error") v
  w ← get (value.Obj id) (codes "message")
  message ← string_or [] w
  name_and_message name message

-- what a call of each does
abbrev pub error_algorithm : ErrorBuiltin → Call → Algorithm Value
error_algorithm error_builtin.Error c = error_constructor error_prototype c
error_algorithm error_builtin.EvalError c = error_constructor eval_error_prototype c
error_algorithm error_builtin.RangeError c = error_constructor range_error_prototype c
error_algorithm error_builtin.ReferenceError c = error_constructor reference_error_prototype c
error_algorithm error_builtin.SyntaxError c = error_constructor syntax_error_prototype c
error_algorithm error_builtin.TypeError c = error_constructor type_error_prototype c
error_algorithm error_builtin.UriError c = error_constructor uri_error_prototype c
error_algorithm error_builtin.ToString c = error_to_string c
