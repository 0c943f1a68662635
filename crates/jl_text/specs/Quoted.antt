-- Text between quotes: a string literal (7.8.4) whose value is that text.
use Rattle.std.specs.Prelude.{ℕ, ◌/◌, ◌%◌, Bool, not, ◌&&◌, ◌||◌, ◌==◌, nat_lt, List, [], ◌∷◌, ◌++◌, Option, None, Some}
use Rattle.std.specs.Prelude.{slice_index, if◌then◌else◌}
use Rattle.std.specs.Int.{is_in_range}
use Rattle.std.specs.Char.{digit_char}
use Rattle.std.specs.Char.Utf16.{is_high_surrogate, is_low_surrogate}

-- the unit that is written after a backslash in place of u: a quote, a backslash, or n, r, t, b or f
abbrev pub short_escape : ℕ → Option ℕ
short_escape u =
    if u == 0x22 then Some 0x22
    else (if u == 0x5C then Some 0x5C
    else (if u == 0x0A then Some 0x6E
    else (if u == 0x0D then Some 0x72
    else (if u == 0x09 then Some 0x74
    else (if u == 0x08 then Some 0x62
    else (if u == 0x0C then Some 0x66
    else None))))))

-- a control character, or a line terminator past ASCII
abbrev pub is_hidden : ℕ → Bool
is_hidden u = nat_lt u 0x20 || (is_in_range 0x7F 0x9F u || (u == 0x2028 || u == 0x2029))

-- u is a surrogate that has no partner beside it
abbrev pub is_lone : ℕ → ℕ → ℕ → Bool
is_lone before u after = (is_high_surrogate u && not (is_low_surrogate after))
    || (is_low_surrogate u && not (is_high_surrogate before))

-- backslash, u and four hexadecimal digits
abbrev pub unicode_escape : ℕ → List ℕ
unicode_escape u = 0x5C ∷ 0x75 ∷ digit_char (u / 0x1000) ∷ digit_char (u / 0x100 % 0x10)
    ∷ digit_char (u / 0x10 % 0x10) ∷ digit_char (u % 0x10) ∷ []

-- how the unit u is written between the units `before` and `after`, each 0 where there is none
abbrev pub quoted_unit : ℕ → ℕ → ℕ → List ℕ
quoted_unit before u after =
    written (short_escape u) (if is_hidden u || is_lone before u after then unicode_escape u else u ∷ [])
  where
    written : Option ℕ → List ℕ → List ℕ
    written None other = other
    written (Some letter) other = 0x5C ∷ letter ∷ []

-- the units that follow `before`, as they are written
abbrev pub quoted_after : ℕ → List ℕ → List ℕ
quoted_after before [] = []
quoted_after before (u ∷ us) = quoted_unit before u (slice_index us 0) ++ quoted_after u us

abbrev pub quote : List ℕ → List ℕ
quote units = 0x22 ∷ (quoted_after 0 units ++ 0x22 ∷ [])
