-- The command line, as clap reads it.
use Rattle.std.specs.Prelude.{ℕ, Bool, true, false, List, [], ◌∷◌, Option, Some, codes, fold}
use Rattle.clap.specs.Words.{App, Kinds, Rule, fault_of, first_of, matches_of, new_app, new_rule, with_rule}

abbrev pub Text : Type 0
Text = List ℕ

-- the name of a command, which is required
abbrev pub command_argument : Rule
command_argument = record (new_rule (codes "command")) { required = true }

-- an option that has a value
abbrev pub option_argument : (name : Text) → Rule
option_argument name = record (new_rule name) { long = Some name }

-- no flags for help and version, and the name of the program is no word
abbrev pub without_flags : App
without_flags = record {
  top = record ((new_app (codes "jlint")).top) {
    no_binary_name = true;
    disable_help_flag = true;
    disable_version_flag = true;
  };
  subs = [];
}

-- a command and three options
unfoldable pub command_line : App
command_line =
    fold with_rule without_flags
    (command_argument ∷ option_argument (codes "budget") ∷ option_argument (codes "rules")
    ∷ option_argument (codes "number") ∷ [])

-- words with one of these faults are refused; want of memory is none of them
abbrev pub is_fault : Kinds → Bool
is_fault [] = false
is_fault (kind ∷ kinds) = true

-- clap refuses the words
unfoldable pub is_refused : (words : List Text) → Bool
is_refused words = is_fault (fault_of command_line words)

-- the value that the words have for this name
unfoldable pub value_of : (id : Text) → (words : List Text) → Option Text
value_of id words = first_of id (matches_of command_line words)
