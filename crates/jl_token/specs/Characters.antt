-- Which units are what. A unit is one of the numbers of UTF-16; it stands for the character with that number
-- (clause 6).
use Rattle.std.specs.Prelude.{ℕ, Bool, true, false, ◌==◌, ◌&&◌, ◌||◌, ◌+◌, ◌-◌, ◌*◌, nat_le, List, [], ◌∷◌, Option}
use Rattle.std.specs.Prelude.{Some, None, if◌then◌else◌}
use Rattle.unicode.specs.GeneralCategory.{general_category}
use Rattle.ucd_category.specs.declared.GeneralCategory.{GeneralCategory}
use Rattle.ucd_category.specs.declared.GeneralCategory.TheVariants.{UppercaseLetter, LowercaseLetter, TitlecaseLetter}
use Rattle.ucd_category.specs.declared.GeneralCategory.TheVariants.{ModifierLetter, OtherLetter, LetterNumber}
use Rattle.ucd_category.specs.declared.GeneralCategory.TheVariants.{NonspacingMark, SpacingMark, DecimalNumber}
use Rattle.ucd_category.specs.declared.GeneralCategory.TheVariants.{ConnectorPunctuation, SpaceSeparator, Surrogate}

-- half of a surrogate pair, which is no character by itself
unfoldable pub is_surrogate : ℕ → Bool
is_surrogate u = nat_le 55296 u && nat_le u 57343

-- the general category of the character that a unit stands for
unfoldable pub category : ℕ → GeneralCategory
category u = if is_surrogate u then Surrogate else general_category u

-- Zs
unfoldable pub is_space : GeneralCategory → Bool
is_space SpaceSeparator = true
is_space _ = false

-- Lu, Ll, Lt, Lm, Lo, Nl
unfoldable pub is_letter : GeneralCategory → Bool
is_letter UppercaseLetter = true
is_letter LowercaseLetter = true
is_letter TitlecaseLetter = true
is_letter ModifierLetter = true
is_letter OtherLetter = true
is_letter LetterNumber = true
is_letter _ = false

-- Mn, Mc, Nd, Pc
unfoldable pub is_mark : GeneralCategory → Bool
is_mark NonspacingMark = true
is_mark SpacingMark = true
is_mark DecimalNumber = true
is_mark ConnectorPunctuation = true
is_mark _ = false

-- white space (7.2): TAB, VT, FF, SP, NBSP, BOM, and every other character of the category Zs
unfoldable pub is_white_space : ℕ → Bool
is_white_space u = u == 9 || u == 11 || u == 12 || u == 32 || u == 160 || u == 65279 || is_space (category u)

-- line terminators (7.3): LF, CR, LS, PS
unfoldable pub is_line_terminator : ℕ → Bool
is_line_terminator u = u == 10 || u == 13 || u == 8232 || u == 8233

-- any other unit, as a comment on one line holds (7.4)
unfoldable pub is_on_line : ℕ → Bool
is_on_line u = if is_line_terminator u then false else true

-- a character that a name may start with, beside an escape (7.6): a letter, `$`, `_`
unfoldable pub is_identifier_start : ℕ → Bool
is_identifier_start u = u == 36 || u == 95 || is_letter (category u)

-- a character that a name may go on with, beside an escape (7.6): also marks, digits, connectors, ZWNJ, ZWJ
unfoldable pub is_identifier_part : ℕ → Bool
is_identifier_part u = is_identifier_start u || u == 8204 || u == 8205 || is_mark (category u)

-- `0` to `9`
unfoldable pub is_digit : ℕ → Bool
is_digit u = nat_le 48 u && nat_le u 57

-- `0` to `9`, `a` to `f`, `A` to `F`
unfoldable pub is_hex_digit : ℕ → Bool
is_hex_digit u = is_digit u || (nat_le 97 u && nat_le u 102) || (nat_le 65 u && nat_le u 70)

-- the value of a hexadecimal digit
unfoldable pub hex_digit_value : ℕ → ℕ
hex_digit_value u = if nat_le 97 u then u - 87 else (if nat_le 65 u then u - 55 else u - 48)

-- the number that digits write, in base 10 and in base 16, going on from a number (7.8.3)
abbrev pub decimal_from : ℕ → List ℕ → ℕ
decimal_from n [] = n
decimal_from n (u ∷ us) = decimal_from (n * 10 + (u - 48)) us

abbrev pub hex_from : ℕ → List ℕ → ℕ
hex_from n [] = n
hex_from n (u ∷ us) = hex_from (n * 16 + hex_digit_value u) us

-- four hexadecimal digits, and the number that they write
unfoldable pub are_hex_digits : ℕ → ℕ → ℕ → ℕ → Bool
are_hex_digits a b c d = is_hex_digit a && is_hex_digit b && is_hex_digit c && is_hex_digit d

unfoldable pub hex_number : ℕ → ℕ → ℕ → ℕ → ℕ
hex_number a b c d = hex_from 0 (a ∷ b ∷ c ∷ d ∷ [])

-- a quotation mark, which begins a string and ends it (7.8.4)
unfoldable pub is_quote : ℕ → Bool
is_quote u = u == 34 || u == 39

-- the character that a single escape character stands for after a backslash (7.8.4, table 4)
unfoldable pub single_escape : ℕ → Option ℕ
single_escape u =
    if u == 98 then Some 8 else
    (if u == 116 then Some 9 else
    (if u == 110 then Some 10 else
    (if u == 118 then Some 11 else
    (if u == 102 then Some 12 else
    (if u == 114 then Some 13 else
    (if u == 34 then Some 34 else
    (if u == 39 then Some 39 else
    (if u == 92 then Some 92 else None))))))))

-- an escape character by 7.8.4: a backslash and one of these is more than the character itself
unfoldable pub is_escape_character : ℕ → Bool
is_escape_character u = u == 98 || u == 116 || u == 110 || u == 118 || u == 102 || u == 114 || u == 34 || u == 39 ||
    u == 92 || is_digit u || u == 120 || u == 117

-- whether a test holds of the first of the units; of none where there are none
abbrev pub first_is : (ℕ → Bool) → List ℕ → Bool
first_is p [] = false
first_is p (u ∷ us) = p u
