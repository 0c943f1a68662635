-- Which bytes are refused, for which cause, and in which words.
use Rattle.std.specs.Prelude.{◌≡◌, ℕ, ◌<◌, ◌≤◌, ◌⊎◌, ◌++◌, false, List, Some, length, codes}
use Rattle.std.specs.Fmt.{decimal}
use Rattle.std.specs.Str.{IsUtf8}
use Rattle.std.specs.Str.Lossy.{utf8_valid_len}
use Rattle.jl_ast.specs.Tree.{Program}
use Rattle.jl_text.specs.Encoding.{units_of, bytes_of}
use Rattle.jl_text.specs.declared.span.Span.{Span}
use Rattle.jl_token.specs.declared.token.BadKind.{BadKind}
use Rattle.jl_token.specs.declared.token.BadKind.TheVariants as kinds
use Rattle.jl_token.specs.declared.token.Token.{Token}
use Rattle.jl_token.specs.Tokens.{BadAt}
use Rattle.jl_grammar.specs.Program.{Reads}
use Rattle.jl_parse.specs.Refusals.{IsPlace}
use Rattle.jl_scope.specs.declared.rules.EarlyRule.{EarlyRule}
use Rattle.jl_scope.specs.EarlyError.{first_early_error, early, left_out, reserved_name}
use Rattle.jl_scope.specs.Rules.{rule_name}
use Rattle.jl_app.specs.declared.position.Position.{Position}
use Rattle.jl_app.specs.Forms.{may_name_hooks, most_bytes, most_levels}
use Rattle.jl_app.specs.declared.form.Form.{Form}
use Rattle.jl_app.specs.declared.refusal.Refusal.{Refusal}
use Rattle.jl_app.specs.declared.refusal.Refusal.TheVariants as refusals
use Rattle.jl_app.specs.Accepting.{IsRead, IsText, HasTokens, IsProgram}
use Rattle.jl_app.specs.Positions.{position, position_text}

-- where a part of the script begins, told as a line and a column
abbrev pub position_in : (bytes : List ℕ) → (at : ℕ) → Position
position_in bytes at = position (units_of bytes) at

-- The bytes are refused for this cause. Each cause comes only where none before it is there.
pub data IsRefused (form : Form) (bytes : List ℕ) : Refusal → Type 0 where
  too_long : most_bytes form < length bytes → IsRefused form bytes refusals.TooLong
  -- not UTF-8; the longest prefix of the bytes that is has so many bytes
  not_utf8 : length bytes ≤ most_bytes form → (IsUtf8 bytes → ⊥)
      → IsRefused form bytes (refusals.NotUtf8 (utf8_valid_len bytes))
  -- no tokens: the first input element that can't be formed (clause 7)
  bad_input : (at : ℕ) (kind : BadKind) → IsText form bytes → BadAt (units_of bytes) at kind
      → IsRefused form bytes (refusals.BadInput kind (position_in bytes at))
  -- no program is read from the tokens (clause 14), within so many levels
  unreadable : (ts : List Token) (at : ℕ) → HasTokens form bytes ts
      → ((p : Program Span) → Reads ts (most_levels form) p → ⊥)
      → IsPlace ts at → IsRefused form bytes (refusals.Unreadable (position_in bytes at))
  -- an early rule is broken (clause 16)
  early_rule : (p : Program Span) (rule : EarlyRule) (s : Span) → IsProgram form bytes p
      → first_early_error p ≡ Some (early rule s)
      → IsRefused form bytes (refusals.Early rule (position_in bytes s.from))
  -- a name that is left out of the language is used freely
  left_out_name : (p : Program Span) (name : List ℕ) (s : Span) → IsProgram form bytes p
      → first_early_error p ≡ Some (left_out name s)
      → IsRefused form bytes (refusals.LeftOut name (position_in bytes s.from))
  -- `J$`, the name of the hooks, stands as a name or a label, where the program may not name them
  hooks_name : (p : Program Span) (s : Span) → may_name_hooks form ≡ false → IsProgram form bytes p
      → first_early_error p ≡ Some (reserved_name s)
      → IsRefused form bytes (refusals.ReservedName (position_in bytes s.from))

abbrev pub kind_word : BadKind → List ℕ
kind_word kinds.UnclosedText = codes "UnclosedText"
kind_word kinds.UnclosedComment = codes "UnclosedComment"
kind_word kinds.BadEscape = codes "BadEscape"
kind_word kinds.BadNumber = codes "BadNumber"
kind_word kinds.BadCharacter = codes "BadCharacter"
kind_word kinds.LongText = codes "LongText"

-- the words of a refusal
abbrev pub refusal_words : Refusal → List ℕ
refusal_words refusals.TooLong = codes "TooLong"
refusal_words (refusals.NotUtf8 at) = codes "NotUtf8 at byte " ++ decimal at
refusal_words (refusals.BadInput kind at) = codes "BadInput "
    ++ (kind_word kind ++ (codes " at " ++ position_text at))
refusal_words (refusals.Unreadable at) = codes "Unreadable at " ++ position_text at
refusal_words (refusals.Early rule at) = codes "Early " ++ (rule_name rule ++ (codes " at " ++ position_text at))
refusal_words (refusals.LeftOut name at) = codes "LeftOut " ++ (bytes_of name ++ (codes " at " ++ position_text at))
refusal_words (refusals.ReservedName at) = codes "ReservedName at " ++ position_text at

-- no bytes are both read as a sound program and refused
abbrev pub NeverBoth : Type 0
NeverBoth =
    (form : Form) (bytes : List ℕ) (p : Program Span) (cause : Refusal) → IsRead form bytes p
    → IsRefused form bytes cause → ⊥

-- and all bytes are one of the two
abbrev pub AcceptedOrRefused : Type 0
AcceptedOrRefused =
    (form : Form) (bytes : List ℕ)
    → ((p : Program Span) × IsRead form bytes p) ⊎ ((cause : Refusal) × IsRefused form bytes cause)
