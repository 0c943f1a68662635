-- What the lexer's functions read of a part of an element, in the words of the plain scanner. No public clause stands
-- on it.
use Rattle.std.specs.Prelude.{◌≡◌, ◌<◌, ◌≤◌, ℕ, ◌+◌, ◌*◌, Bool, true, false, List, [], ◌∷◌, drop, length, Option, Some}
use Rattle.std.specs.Prelude.{None, if◌then◌else◌}
use Rattle.jl_token.specs.Characters.{is_identifier_start, is_identifier_part, is_hex_digit, hex_digit_value}
use Rattle.jl_lex.specs.declared.names.Letter.{Letter}
use Rattle.jl_lex.specs.declared.strings.Character.{Character}

-- a hexadecimal digit at the front
unfoldable pub hex_first : List ℕ → Option ℕ
hex_first [] = None
hex_first (u ∷ us) = if is_hex_digit u then Some (hex_digit_value u) else None

-- two and four hexadecimal digits, and the number that they write
unfoldable pub two_of : Option ℕ → Option ℕ → Option ℕ
two_of (Some a) (Some b) = Some (a * 16 + b)
two_of _ _ = None

unfoldable pub four_of : Option ℕ → Option ℕ → Option ℕ → Option ℕ → Option ℕ
four_of (Some a) (Some b) (Some c) (Some d) = Some (((a * 16 + b) * 16 + c) * 16 + d)
four_of _ _ _ _ = None

unfoldable pub two_at : List ℕ → ℕ → Option ℕ
two_at units i = two_of (hex_first (drop i units)) (hex_first (drop (i + 1) units))

unfoldable pub four_at : List ℕ → ℕ → Option ℕ
four_at units i =
    four_of (hex_first (drop i units)) (hex_first (drop (i + 1) units)) (hex_first (drop (i + 2) units))
    (hex_first (drop (i + 3) units))

-- the characters that a name may start with, or go on with
abbrev pub is_name_character : Bool → ℕ → Bool
is_name_character false = is_identifier_start
is_name_character true = is_identifier_part

-- a letter of a name that was read from a place on
abbrev pub LetterFrom : List ℕ → ℕ → Option Letter → Option ((ℕ × Bool) × List ℕ) → Type 0
LetterFrom units i None o = o ≡ None
LetterFrom units i (Some x) o = (o ≡ Some ((x.unit, x.escaped), drop x.end units)) × (i < x.end) ×
    (x.end ≤ length units)

-- the units of a character of a string: one, or none where it is a line continuation
abbrev pub values : Option ℕ → List ℕ
values None = []
values (Some u) = u ∷ []

-- a character of a string, which ends at a place or later
abbrev pub CharacterFrom : List ℕ → ℕ → Option Character → Option ((List ℕ × Bool) × List ℕ) → Type 0
CharacterFrom units low None o = o ≡ None
CharacterFrom units low (Some x) o = (o ≡ Some ((values x.unit, x.plain), drop x.end units)) × (low ≤ x.end) ×
    (x.end ≤ length units)
