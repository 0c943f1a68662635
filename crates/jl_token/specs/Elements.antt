-- The input elements of a script (clause 7): with which of them a row of units begins, and which units are left.
-- The relations here speak of any prefix of the units; that the longest prefix is taken is said in `Tokens`.
-- Units stand here by their numbers: 10 LF, 13 CR, 42 `*`, 43 `+`, 45 `-`, 46 `.`, 47 `/`, 48 `0`, 92 a backslash, 117
-- `u`, 69 and 101 `E` and `e`, 88 and 120 `X` and `x`.
use Rattle.std.specs.Prelude.{◌≡◌, ◌≤◌, ℕ, ◌+◌, ◌*◌, ◌^◌, Bool, true, false, ◌==◌, ◌&&◌, ◌||◌, List, [], ◌∷◌, ◌++◌}
use Rattle.std.specs.Prelude.{length, map, Some, pos}
use Rattle.std.specs.List.{list_any, list_all, flat_map}
use Rattle.jl_num.specs.Number.{largest}
use Rattle.jl_text.specs.Limits.{most_units}
use Rattle.jl_token.specs.Characters.{is_white_space, is_line_terminator, is_on_line, is_identifier_start}
use Rattle.jl_token.specs.Characters.{is_identifier_part, is_digit, is_hex_digit, decimal_from, hex_from}
use Rattle.jl_token.specs.Characters.{are_hex_digits, hex_number, is_quote, single_escape, is_escape_character}
use Rattle.jl_token.specs.Characters.{first_is}
use Rattle.jl_token.specs.Punctuators.{punctuator_units}
use Rattle.jl_token.specs.declared.punct.Punct.{Punct}
use Rattle.jl_token.specs.declared.token.TokenKind.{TokenKind}
use Rattle.jl_token.specs.declared.token.TokenKind.TheVariants as kinds

-- None or more of what `One` tells of: the units, what the parts are, and the units that are left.
pub data Many {A : Type 0} (One : List ℕ → A → List ℕ → Type 0) : List ℕ → List A → List ℕ → Type 0 where
  no_more : {us : List ℕ} → Many One us [] us
  one_more : {us mid rest : List ℕ} {a : A} {xs : List A} → One us a mid → Many One mid xs rest →
      Many One us (a ∷ xs) rest

-- one unit that passes a test
pub data OneUnit (allowed : ℕ → Bool) : List ℕ → ℕ → List ℕ → Type 0 where
  unit : {u : ℕ} {us : List ℕ} → allowed u ≡ true → OneUnit allowed (u ∷ us) u us

-- Names (7.6). A character of a name that passes a test: itself, or its number after `\u`. Beside it stands whether
-- it is escaped.
pub data Letter (allowed : ℕ → Bool) : List ℕ → ℕ × Bool → List ℕ → Type 0 where
  itself : {u : ℕ} {us : List ℕ} → allowed u ≡ true → Letter allowed (u ∷ us) (u, false) us
  escaped : {a b c d : ℕ} {us : List ℕ} → are_hex_digits a b c d ≡ true → allowed (hex_number a b c d) ≡ true →
      Letter allowed (92 ∷ 117 ∷ a ∷ b ∷ c ∷ d ∷ us) (hex_number a b c d, true) us

pub data Name : List ℕ → List (ℕ × Bool) → List ℕ → Type 0 where
  name : {us mid rest : List ℕ} {x : ℕ × Bool} {xs : List (ℕ × Bool)} → Letter is_identifier_start us x mid →
      Many (Letter is_identifier_part) mid xs rest → Name us (x ∷ xs) rest

-- Comments (7.4). One unit of a comment that isn't the `*` of a `*/`.
pub data BeforeClose : List ℕ → ℕ → List ℕ → Type 0 where
  before_close : {u : ℕ} {us : List ℕ} → (u == 42 && first_is (λ v. v == 47) us) ≡ false → BeforeClose (u ∷ us) u us

-- Numbers (7.8.3). One digit or more.
pub data Digits (allowed : ℕ → Bool) : List ℕ → List ℕ → List ℕ → Type 0 where
  digits : {us mid ds rest : List ℕ} {d : ℕ} → OneUnit allowed us d mid → Many (OneUnit allowed) mid ds rest →
      Digits allowed us (d ∷ ds) rest

-- DecimalIntegerLiteral: `0`, or digits of which the first isn't `0`
pub data WholeDigits : List ℕ → List ℕ → List ℕ → Type 0 where
  zero_digit : {us : List ℕ} → WholeDigits (48 ∷ us) (48 ∷ []) us
  nonzero : {u : ℕ} {us ds rest : List ℕ} → (u == 48) ≡ false → Digits is_digit (u ∷ us) ds rest →
      WholeDigits (u ∷ us) ds rest

-- ExponentPart, if there is one: the power of ten to multiply by, and the power of ten to divide by
pub data Exponent : List ℕ → ℕ → ℕ → List ℕ → Type 0 where
  no_exponent : {us : List ℕ} → Exponent us 0 0 us
  no_sign : {e : ℕ} {us ds rest : List ℕ} → (e == 101 || e == 69) ≡ true → Digits is_digit us ds rest →
      Exponent (e ∷ us) (decimal_from 0 ds) 0 rest
  plus : {e : ℕ} {us ds rest : List ℕ} → (e == 101 || e == 69) ≡ true → Digits is_digit us ds rest →
      Exponent (e ∷ 43 ∷ us) (decimal_from 0 ds) 0 rest
  minus : {e : ℕ} {us ds rest : List ℕ} → (e == 101 || e == 69) ≡ true → Digits is_digit us ds rest →
      Exponent (e ∷ 45 ∷ us) 0 (decimal_from 0 ds) rest

-- NumericLiteral: a prefix that writes the number m · 10 ^ r / 10 ^ l
pub data Numeral : List ℕ → ℕ → ℕ → ℕ → List ℕ → Type 0 where
  whole : {us mid ds rest : List ℕ} {r l : ℕ} → WholeDigits us ds mid → Exponent mid r l rest →
      Numeral us (decimal_from 0 ds) r l rest
  with_point : {us mid ds fs end rest : List ℕ} {r l : ℕ} → WholeDigits us ds (46 ∷ mid) →
      Many (OneUnit is_digit) mid fs end → Exponent end r l rest →
      Numeral us (decimal_from 0 (ds ++ fs)) r (length fs + l) rest
  from_point : {us fs end rest : List ℕ} {r l : ℕ} → Digits is_digit us fs end → Exponent end r l rest →
      Numeral (46 ∷ us) (decimal_from 0 fs) r (length fs + l) rest
  hex : {x : ℕ} {us ds rest : List ℕ} → (x == 120 || x == 88) ≡ true → Digits is_hex_digit us ds rest →
      Numeral (48 ∷ x ∷ us) (hex_from 0 ds) 0 0 rest

-- n is the exact value of m · 10 ^ r / 10 ^ l, and a number of a script
pub record HasValue (m r l n : ℕ) : Type 0 where
  pub exact : n * 10 ^ l ≡ m * 10 ^ r
  pub inside : n ≤ largest

-- Strings (7.8.4). A character of a string between two marks: the units of its value, and whether it stands there
-- itself.
pub data Character (mark : ℕ) : List ℕ → List ℕ × Bool → List ℕ → Type 0 where
  plain : {u : ℕ} {us : List ℕ} → (u == mark || u == 92 || is_line_terminator u) ≡ false →
      Character mark (u ∷ us) (u ∷ [], true) us
  single : {u v : ℕ} {us : List ℕ} → single_escape u ≡ Some v → Character mark (92 ∷ u ∷ us) (v ∷ [], false) us
  non_escape : {u : ℕ} {us : List ℕ} → (is_escape_character u || is_line_terminator u) ≡ false →
      Character mark (92 ∷ u ∷ us) (u ∷ [], false) us
  null : {us : List ℕ} → first_is is_digit us ≡ false → Character mark (92 ∷ 48 ∷ us) (0 ∷ [], false) us
  hex_escape : {a b : ℕ} {us : List ℕ} → (is_hex_digit a && is_hex_digit b) ≡ true →
      Character mark (92 ∷ 120 ∷ a ∷ b ∷ us) (hex_from 0 (a ∷ b ∷ []) ∷ [], false) us
  unicode_escape : {a b c d : ℕ} {us : List ℕ} → are_hex_digits a b c d ≡ true →
      Character mark (92 ∷ 117 ∷ a ∷ b ∷ c ∷ d ∷ us) (hex_number a b c d ∷ [], false) us
  continuation : {u : ℕ} {us : List ℕ} → is_line_terminator u ≡ true →
      (u == 13 && first_is (λ v. v == 10) us) ≡ false → Character mark (92 ∷ u ∷ us) ([], false) us
  long_continuation : {us : List ℕ} → Character mark (92 ∷ 13 ∷ 10 ∷ us) ([], false) us

pub data StringLiteral : List ℕ → List (List ℕ × Bool) → List ℕ → Type 0 where
  string : {mark : ℕ} {us rest : List ℕ} {cs : List (List ℕ × Bool)} → is_quote mark ≡ true →
      Many (Character mark) us cs (mark ∷ rest) → StringLiteral (mark ∷ us) cs rest

-- the value of a name, and whether it is written with an escape
abbrev pub name_text : List (ℕ × Bool) → List ℕ
name_text xs = map (λ x. x.0) xs

abbrev pub is_escaped : List (ℕ × Bool) → Bool
is_escaped xs = list_any (λ x. x.1) xs

-- the value of a string, and whether it is written with neither an escape nor a line continuation
abbrev pub string_text : List (List ℕ × Bool) → List ℕ
string_text cs = flat_map (λ c. c.0) cs

abbrev pub is_plain : List (List ℕ × Bool) → Bool
is_plain cs = list_all (λ c. c.1) cs

-- An input element (clause 7, without the regular expressions of 7.8.5): a comment that goes to the end of its line,
-- one between `/*` and `*/` by whether it holds a line terminator, a token by its kind.
pub data Element : Type 0 where
  White : Element
  LineEnd : Element
  LineComment : Element
  BlockComment : Bool → Element
  Word : TokenKind → Element

-- The units begin with an input element.
pub data Front : List ℕ → Element → List ℕ → Type 0 where
  white_space : {u : ℕ} {us : List ℕ} → is_white_space u ≡ true → Front (u ∷ us) White us
  line_terminator : {u : ℕ} {us : List ℕ} → is_line_terminator u ≡ true → Front (u ∷ us) LineEnd us
  carriage_return_line_feed : {us : List ℕ} → Front (13 ∷ 10 ∷ us) LineEnd us
  line_comment : {us cs rest : List ℕ} → Many (OneUnit is_on_line) us cs rest →
      Front (47 ∷ 47 ∷ us) LineComment rest
  block_comment : {us cs rest : List ℕ} → Many BeforeClose us cs (42 ∷ 47 ∷ rest) →
      Front (47 ∷ 42 ∷ us) (BlockComment (list_any is_line_terminator cs)) rest
  identifier_name : {us rest : List ℕ} {xs : List (ℕ × Bool)} → Name us xs rest → length (name_text xs) ≤ most_units →
      Front us (Word (kinds.Name (name_text xs) (is_escaped xs))) rest
  punctuator : {us rest : List ℕ} (p : Punct) → us ≡ punctuator_units p ++ rest → Front us (Word (kinds.Punct p)) rest
  numeric_literal : {us rest : List ℕ} {m r l n : ℕ} → Numeral us m r l rest → HasValue m r l n →
      Front us (Word (kinds.Number (Some (pos n)))) rest
  string_literal : {us rest : List ℕ} {cs : List (List ℕ × Bool)} → StringLiteral us cs rest →
      length (string_text cs) ≤ most_units → Front us (Word (kinds.Str (string_text cs) (is_plain cs))) rest
