-- What the builtins of errors do with the value that they waited for (15.11).
use Rattle.std.specs.Prelude.{[], codes, ◌+◌, Some, ℕ}
use Rattle.jl_value.specs.declared.value.Value.{Value}
use Rattle.jl_value.specs.declared.value.Value.TheVariants as value
use Rattle.jl_conv.specs.Conversions.{text_of_value}
use Rattle.jl_meaning.specs.Getting.{get}
use Rattle.jl_meaning.specs.Parts.{◌>>=◌, Algorithm}
use Rattle.jl_meaning.specs.builtins.Arguments.{give_object}
use Rattle.jl_meaning.specs.builtins.Error.{name_and_message, new_error, string_or}
use Rattle.jl_progress.specs.declared.error.ErrorProgress.{ErrorProgress}
use Rattle.jl_progress.specs.declared.error.ErrorProgress.TheVariants as error

abbrev pub error_after : ErrorProgress → Value → Algorithm Value
error_after (error.NewMessage proto) p = do
  id ← new_error proto (Some (text_of_value p))
  give_object id
error_after (error.Name object) v = do
  name ← string_or (codes "Error") v
  w ← get (value.Obj object) (codes "message")
  message ← string_or [] w
  name_and_message name message
error_after (error.NamePrimitive object) p = do
  w ← get (value.Obj object) (codes "message")
  message ← string_or [] w
  name_and_message (text_of_value p) message
error_after (error.Message name) w = do
  message ← string_or [] w
  name_and_message name message
error_after (error.MessagePrimitive name) p = name_and_message name (text_of_value p)

abbrev pub rank_error : ErrorProgress → ℕ
rank_error (error.NewMessage proto) = 6
rank_error (error.Name object) = 80
rank_error (error.NamePrimitive object) = 60
rank_error (error.Message name) = 40
rank_error (error.MessagePrimitive name) = 6
