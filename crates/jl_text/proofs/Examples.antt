-- The definitions at small texts.
use Rattle.std.proofs.Common.{◌≡◌, [], ◌∷◌, refl, Some, None}
use Rattle.std.specs.Str.{chars}
use Rattle.std.specs.Char.Utf16.{utf16_chars}
use Rattle.jl_text.specs.Encoding.{units_of, bytes_of}
use Rattle.jl_text.specs.Places.{position_of, line_table, line_col}
use Rattle.jl_text.specs.Quoted.{quote}
use Rattle.jl_text.specs.Search.{first_place, last_place}
use lib.Utf8.{encode}

-- é, and a character past 16 bits
units-two_bytes : units_of (0xC3 ∷ 0xA9 ∷ []) ≡ 0xE9 ∷ []
unfolding chars
units-two_bytes = refl

units-pair : units_of (0xF0 ∷ 0x9F ∷ 0x98 ∷ 0x80 ∷ []) ≡ 0xD83D ∷ 0xDE00 ∷ []
unfolding chars
units-pair = refl

bytes-two_bytes : bytes_of (0xE9 ∷ []) ≡ 0xC3 ∷ 0xA9 ∷ []
unfolding utf16_chars encode
bytes-two_bytes = refl

bytes-pair : bytes_of (0xD83D ∷ 0xDE00 ∷ []) ≡ 0xF0 ∷ 0x9F ∷ 0x98 ∷ 0x80 ∷ []
unfolding utf16_chars encode
bytes-pair = refl

-- a low surrogate before a high one: neither has a partner
bytes-lone : bytes_of (0xDE00 ∷ 0xD83D ∷ []) ≡ 0xEF ∷ 0xBF ∷ 0xBD ∷ 0xEF ∷ 0xBF ∷ 0xBD ∷ []
unfolding utf16_chars encode
bytes-lone = refl

-- a"b and LF
quote-plain : quote (0x61 ∷ 0x22 ∷ 0x62 ∷ 0x0A ∷ []) ≡ 0x22 ∷ 0x61 ∷ 0x5C ∷ 0x22 ∷ 0x62 ∷ 0x5C ∷ 0x6E ∷ 0x22 ∷ []
quote-plain = refl

-- U+2028 is written as \u2028
quote-line_separator : quote (0x2028 ∷ []) ≡ 0x22 ∷ 0x5C ∷ 0x75 ∷ 0x32 ∷ 0x30 ∷ 0x32 ∷ 0x38 ∷ 0x22 ∷ []
quote-line_separator = refl

-- a pair stands for itself, and a high surrogate alone is written as \ud83d
quote-pair : quote (0xD83D ∷ 0xDE00 ∷ []) ≡ 0x22 ∷ 0xD83D ∷ 0xDE00 ∷ 0x22 ∷ []
quote-pair = refl

quote-lone : quote (0xD83D ∷ []) ≡ 0x22 ∷ 0x5C ∷ 0x75 ∷ 0x64 ∷ 0x38 ∷ 0x33 ∷ 0x64 ∷ 0x22 ∷ []
quote-lone = refl

-- in "abab"
first-least : first_place (1 ∷ 2 ∷ 1 ∷ 2 ∷ []) (1 ∷ 2 ∷ []) 0 ≡ Some 0
first-least = refl

first-later : first_place (1 ∷ 2 ∷ 1 ∷ 2 ∷ []) (1 ∷ 2 ∷ []) 1 ≡ Some 2
first-later = refl

first-none : first_place (1 ∷ 2 ∷ 1 ∷ 2 ∷ []) (1 ∷ 2 ∷ []) 3 ≡ None
first-none = refl

-- the empty text stands at each place, also at the end, and at none past it
first-empty : first_place (1 ∷ []) [] 1 ≡ Some 1
first-empty = refl

first-past : first_place (1 ∷ []) [] 2 ≡ None
first-past = refl

last-greatest : last_place (1 ∷ 2 ∷ 1 ∷ 2 ∷ []) (1 ∷ 2 ∷ []) 9 ≡ Some 2
last-greatest = refl

last-earlier : last_place (1 ∷ 2 ∷ 1 ∷ 2 ∷ []) (1 ∷ 2 ∷ []) 1 ≡ Some 0
last-earlier = refl

last-none : last_place (1 ∷ 2 ∷ []) (2 ∷ 1 ∷ []) 9 ≡ None
last-none = refl

-- in a, CR, LF, b
position-terminator : position_of (0x61 ∷ 0x0D ∷ 0x0A ∷ 0x62 ∷ []) 2 ≡ (1, 3)
position-terminator = refl

position-next_line : position_of (0x61 ∷ 0x0D ∷ 0x0A ∷ 0x62 ∷ []) 3 ≡ (2, 1)
position-next_line = refl

table-next_line : line_col (line_table (0x61 ∷ 0x0D ∷ 0x0A ∷ 0x62 ∷ [])) 4 ≡ (2, 2)
table-next_line = refl

-- LF and CR are two terminators
position-two : position_of (0x0A ∷ 0x0D ∷ []) 2 ≡ (3, 1)
position-two = refl
