-- Where the units begin with no input element of a script: which fault stands there.
use Rattle.std.specs.Prelude.{◌≡◌, ◌<◌, ◌≤◌, ℕ, Bool, true, false, ◌==◌, List, [], ◌∷◌, length}
use Rattle.jl_text.specs.Limits.{most_units}
use Rattle.jl_token.specs.Characters.{is_line_terminator, is_identifier_start, is_identifier_part, is_digit, is_quote}
use Rattle.jl_token.specs.Characters.{first_is}
use Rattle.jl_token.specs.Elements.{Element, Many, Letter, Name, BeforeClose, Numeral, HasValue, Character}
use Rattle.jl_token.specs.Elements.{StringLiteral, Front, name_text, string_text}
use Rattle.jl_token.specs.declared.token.BadKind.{BadKind}
use Rattle.jl_token.specs.declared.token.BadKind.TheVariants as faults

-- where a string isn't closed: the end, a backslash at the end, a line terminator
pub data Unclosed : List ℕ → Type 0 where
  at_end : Unclosed []
  at_last_backslash : Unclosed (92 ∷ [])
  at_line_terminator : {u : ℕ} {us : List ℕ} → is_line_terminator u ≡ true → Unclosed (u ∷ us)

-- nothing of what `One` tells of stands at the front
abbrev pub No : {A : Type 0} → (List ℕ → A → List ℕ → Type 0) → List ℕ → Type 0
No {A} One us = (a : A) (rest : List ℕ) → One us a rest → ⊥

-- the longest numeric literal at the front
pub record LongestNumeral (us : List ℕ) (m r l : ℕ) (rest : List ℕ) : Type 0 where
  pub formed : Numeral us m r l rest
  pub longest : (m' r' l' : ℕ) (rest' : List ℕ) → Numeral us m' r' l' rest' → length rest ≤ length rest'

-- The units begin with a fault of this kind.
pub data Fault : List ℕ → BadKind → Type 0 where
  -- a string meets the end or a line terminator
  unclosed_string : {mark : ℕ} {us rest : List ℕ} {cs : List (List ℕ × Bool)} → is_quote mark ≡ true →
      Many (Character mark) us cs rest → Unclosed rest → Fault (mark ∷ us) faults.UnclosedText
  -- `/*` without `*/`
  unclosed_comment : {us : List ℕ} → ((cs rest : List ℕ) → Many BeforeClose us cs (42 ∷ 47 ∷ rest) → ⊥) →
      Fault (47 ∷ 42 ∷ us) faults.UnclosedComment
  -- a string comes to a backslash that, with the units after it, is no character of a string
  string_escape : {mark u : ℕ} {us rest : List ℕ} {cs : List (List ℕ × Bool)} → is_quote mark ≡ true →
      Many (Character mark) us cs (92 ∷ u ∷ rest) → No (Character mark) (92 ∷ u ∷ rest) →
      Fault (mark ∷ us) faults.BadEscape
  -- a name comes to a backslash that begins no identifier part
  name_escape : {us rest : List ℕ} {xs : List (ℕ × Bool)} → Name us xs (92 ∷ rest) →
      No (Letter is_identifier_part) (92 ∷ rest) → Fault us faults.BadEscape
  -- a backslash that begins no name
  first_escape : {us : List ℕ} → No (Letter is_identifier_start) (92 ∷ us) → Fault (92 ∷ us) faults.BadEscape
  -- a digit follows a numeric literal at once (7.8.3)
  digit_follows : {us rest : List ℕ} {m r l : ℕ} → LongestNumeral us m r l rest → first_is is_digit rest ≡ true →
      Fault us faults.BadNumber
  -- an identifier start follows a numeric literal at once (7.8.3)
  name_follows : {us rest after : List ℕ} {m r l : ℕ} {x : ℕ × Bool} → LongestNumeral us m r l rest →
      Letter is_identifier_start rest x after → Fault us faults.BadNumber
  -- the value of a numeric literal is no number of a script
  no_number : {us rest : List ℕ} {m r l : ℕ} → LongestNumeral us m r l rest → ((n : ℕ) → HasValue m r l n → ⊥) →
      Fault us faults.BadNumber
  -- a whole name that is too long
  long_name : {us rest : List ℕ} {xs : List (ℕ × Bool)} → Name us xs rest → No (Letter is_identifier_part) rest →
      first_is (λ u. u == 92) rest ≡ false → most_units < length (name_text xs) → Fault us faults.LongText
  -- a whole string that is too long
  long_string : {us rest : List ℕ} {cs : List (List ℕ × Bool)} → StringLiteral us cs rest →
      most_units < length (string_text cs) → Fault us faults.LongText
  -- a unit with which no input element begins
  no_element : {u : ℕ} {us : List ℕ} → ((others rest : List ℕ) (e : Element) → Front (u ∷ others) e rest → ⊥) →
      Fault (u ∷ us) faults.BadCharacter
