-- What a source has to be.
use Rattle.std.specs.Prelude.{ℕ, Bool, true, false, List, Option, Some, None, option_and_then}
use Rattle.jl_scope.specs.EarlyError.{EarlyError, early, left_out, reserved_name}
use Rattle.jl_command.specs.Asked.{Asked, exec, replay, request, soak, unmap}
use Rattle.jl_command.specs.declared.command.Command.{Command}
use Rattle.jl_command.specs.declared.command.Command.TheVariants as commands
use Rattle.jl_app.specs.declared.form.Form.{Form}
use Rattle.jl_app.specs.declared.form.Form.TheVariants as forms

-- the form of the program that a command reads, if it reads one: `exec` reads a woven text, and each other a script
abbrev pub form_of : Asked → Option Form
form_of (exec budget) = Some forms.WovenText
form_of (soak number budget chosen) = None
form_of unmap = None
form_of (replay chosen) = None
form_of _ = Some forms.Script

-- and so by the command of the code
abbrev pub form_of_command : Command → Option Form
form_of_command (commands.Exec budget) = Some forms.WovenText
form_of_command (commands.Soak number budget rules) = None
form_of_command commands.Unmap = None
form_of_command (commands.Replay rules) = None
form_of_command _ = Some forms.Script

-- a command reads the source, but for `soak`, which makes its script
abbrev pub ReadsSource : Asked → Type 0
ReadsSource (soak number budget chosen) = ⊥
ReadsSource _ = Unit {0}

-- the most bytes that it has
abbrev pub most_bytes : Form → ℕ
most_bytes forms.Script = 1048576
most_bytes forms.WovenText = 67108928

-- the most bytes of a source map
abbrev pub most_map_bytes : ℕ
most_map_bytes = 67108864

-- the most bytes of the text of a stored run
abbrev pub most_record_bytes : ℕ
most_record_bytes = 268435456

-- the most bytes that a command reads, if it reads the source
abbrev pub most_read : Asked → Option ℕ
most_read (exec budget) = Some (most_bytes forms.WovenText)
most_read (soak number budget chosen) = None
most_read unmap = Some most_map_bytes
most_read (replay chosen) = Some most_record_bytes
most_read _ = Some (most_bytes forms.Script)

-- and so by the command of the code
abbrev pub most_read_by : Command → Option ℕ
most_read_by (commands.Exec budget) = Some (most_bytes forms.WovenText)
most_read_by (commands.Soak number budget rules) = None
most_read_by commands.Unmap = Some most_map_bytes
most_read_by (commands.Replay rules) = Some most_record_bytes
most_read_by _ = Some (most_bytes forms.Script)

-- the most bytes that are read for these words; bad words read nothing
abbrev pub most_read_for : (words : List (List ℕ)) → Option ℕ
most_read_for words = option_and_then most_read (request words)

-- the most levels of its program
abbrev pub most_levels : Form → ℕ
most_levels forms.Script = 200
most_levels forms.WovenText = 1000

-- its program may name the hooks
abbrev pub may_name_hooks : Form → Bool
may_name_hooks forms.Script = false
may_name_hooks forms.WovenText = true

-- the program is sound where this is the first thing that is wrong with it
abbrev pub is_sound : Form → Option EarlyError → Bool
is_sound form None = true
is_sound form (Some (early rule s)) = false
is_sound form (Some (left_out name s)) = false
is_sound form (Some (reserved_name s)) = may_name_hooks form
