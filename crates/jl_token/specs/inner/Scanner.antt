-- A scanner as plain functions, which computes with which input element units begin. It is a step of the proof: the
-- lexer's code answers what it answers, and lemmas tie it to `Begins` and `Fault`. No public clause stands on it.
use Rattle.std.specs.Prelude.{ℕ, zero, suc, ◌+◌, ◌*◌, ◌/◌, ◌%◌, ◌^◌, Bool, true, false, ◌==◌, ◌&&◌, ◌||◌, nat_le, List}
use Rattle.std.specs.Prelude.{[], ◌∷◌, ◌++◌, length, Option, Some, None, pos, if◌then◌else◌}
use Rattle.std.specs.List.{list_any}
use Rattle.jl_num.specs.Number.{largest}
use Rattle.jl_text.specs.Limits.{most_units}
use Rattle.jl_token.specs.Characters.{is_white_space, is_line_terminator, is_on_line, is_identifier_start}
use Rattle.jl_token.specs.Characters.{is_identifier_part, is_digit, is_hex_digit, decimal_from, hex_from}
use Rattle.jl_token.specs.Characters.{are_hex_digits, hex_number, is_quote, single_escape, first_is}
use Rattle.jl_token.specs.Punctuators.{punctuator_units, all_punctuators}
use Rattle.jl_token.specs.Elements.{Element, White, LineEnd, LineComment, BlockComment, Word, name_text, is_escaped}
use Rattle.jl_token.specs.Elements.{string_text, is_plain}
use Rattle.jl_token.specs.Tokens.{Piece, piece, place}
use Rattle.jl_token.specs.declared.punct.Punct.{Punct}
use Rattle.jl_token.specs.declared.token.TokenKind.TheVariants as kinds
use Rattle.jl_token.specs.declared.token.BadKind.{BadKind}
use Rattle.jl_token.specs.declared.token.BadKind.TheVariants as faults

-- what stands at the front: an element and the units after it, or a fault
pub data Outcome : Type 0 where
  found : Element → List ℕ → Outcome
  bad : BadKind → Outcome

-- one more part in front of others
abbrev pub with_first : {A : Type 0} → A → List A × List ℕ → List A × List ℕ
with_first a (xs, rest) = (a ∷ xs, rest)

-- parts as long as a reader of one finds one, at most so many
unfoldable pub many_by : {A : Type 0} → (List ℕ → List A × List ℕ) → List ℕ → Option (A × List ℕ) → List A × List ℕ
many_by go us None = ([], us)
many_by go us (Some x) = with_first x.0 (go x.1)

unfoldable pub many_within : {A : Type 0} → (List ℕ → Option (A × List ℕ)) → ℕ → List ℕ → List A × List ℕ
many_within one zero us = ([], us)
many_within one (suc n) us = many_by (many_within one n) us (one us)

unfoldable pub many : {A : Type 0} → (List ℕ → Option (A × List ℕ)) → List ℕ → List A × List ℕ
many one us = many_within one (length us) us

unfoldable pub one_unit : (ℕ → Bool) → List ℕ → Option (ℕ × List ℕ)
one_unit allowed [] = None
one_unit allowed (u ∷ us) = if allowed u then Some (u, us) else None

-- names

unfoldable pub name_escape : (ℕ → Bool) → List ℕ → Option ((ℕ × Bool) × List ℕ)
name_escape allowed (v ∷ a ∷ b ∷ c ∷ d ∷ us) =
    if v == 117 && are_hex_digits a b c d && allowed (hex_number a b c d)
    then Some ((hex_number a b c d, true), us) else None
name_escape allowed _ = None

unfoldable pub letter : (ℕ → Bool) → List ℕ → Option ((ℕ × Bool) × List ℕ)
letter allowed [] = None
letter allowed (u ∷ us) =
    if allowed u then Some ((u, false), us) else (if u == 92 then name_escape allowed us else None)

unfoldable pub name_done : List ℕ → Bool → List ℕ → Outcome
name_done text escaped rest = if first_is (λ u. u == 92) rest then bad faults.BadEscape else
    (if nat_le (length text) most_units then found (Word (kinds.Name text escaped)) rest else bad faults.LongText)

abbrev pub name_end : List (ℕ × Bool) → List ℕ → Outcome
name_end xs rest = name_done (name_text xs) (is_escaped xs) rest

unfoldable pub name_from : Option ((ℕ × Bool) × List ℕ) → Outcome
name_from None = bad faults.BadEscape
name_from (Some x) = let r = with_first x.0 (many (letter is_identifier_part) x.1) in name_end r.0 r.1

-- comments

unfoldable pub before_close : List ℕ → Option (ℕ × List ℕ)
before_close [] = None
before_close (u ∷ us) = if u == 42 && first_is (λ v. v == 47) us then None else Some (u, us)

unfoldable pub block_end : List ℕ × List ℕ → Outcome
block_end (cs, (u ∷ v ∷ rest)) = found (BlockComment (list_any is_line_terminator cs)) rest
block_end (cs, _) = bad faults.UnclosedComment

-- numbers

-- digits, where there is one
unfoldable pub some_digits : (ℕ → Bool) → List ℕ → Option (List ℕ × List ℕ)
some_digits allowed us = if first_is allowed us then Some (many (one_unit allowed) us) else None

-- an exponent after its letter, with the power of ten to multiply by and the one to divide by
unfoldable pub exponent_powers : Bool → List ℕ × List ℕ → ℕ × ℕ × List ℕ
exponent_powers true (ds, rest) = (0, decimal_from 0 ds, rest)
exponent_powers false (ds, rest) = (decimal_from 0 ds, 0, rest)

unfoldable pub exponent_by : List ℕ → Bool → Option (List ℕ × List ℕ) → ℕ × ℕ × List ℕ
exponent_by us lowers None = (0, 0, us)
exponent_by us lowers (Some x) = exponent_powers lowers x

unfoldable pub exponent_sign : List ℕ → List ℕ → ℕ × ℕ × List ℕ
exponent_sign all [] = (0, 0, all)
exponent_sign all (s ∷ us) =
    if s == 43 then exponent_by all false (some_digits is_digit us) else
    (if s == 45 then exponent_by all true (some_digits is_digit us) else
    exponent_by all false (some_digits is_digit (s ∷ us)))

unfoldable pub exponent : List ℕ → ℕ × ℕ × List ℕ
exponent [] = (0, 0, [])
exponent (e ∷ us) = if e == 101 || e == 69 then exponent_sign (e ∷ us) us else (0, 0, e ∷ us)

-- a literal by m, r, l and the units after it
unfoldable pub with_exponent : List ℕ → ℕ → ℕ × ℕ × List ℕ → ℕ × ℕ × ℕ × List ℕ
with_exponent ds places (r, l, rest) = (decimal_from 0 ds, r, places + l, rest)

unfoldable pub after_fraction : List ℕ → List ℕ × List ℕ → ℕ × ℕ × ℕ × List ℕ
after_fraction ds (fs, rest) = with_exponent (ds ++ fs) (length fs) (exponent rest)

unfoldable pub after_whole : List ℕ → List ℕ → ℕ × ℕ × ℕ × List ℕ
after_whole ds [] = with_exponent ds 0 (exponent [])
after_whole ds (u ∷ us) = if u == 46 then after_fraction ds (many (one_unit is_digit) us) else
    with_exponent ds 0 (exponent (u ∷ us))

unfoldable pub hex_literal : List ℕ → Option (List ℕ × List ℕ) → ℕ × ℕ × ℕ × List ℕ
hex_literal us None = after_whole (48 ∷ []) us
hex_literal us (Some (ds, rest)) = (hex_from 0 ds, 0, 0, rest)

unfoldable pub after_zero : List ℕ → ℕ × ℕ × ℕ × List ℕ
after_zero [] = after_whole (48 ∷ []) []
after_zero (x ∷ us) = if x == 120 || x == 88 then hex_literal (x ∷ us) (some_digits is_hex_digit us) else
    after_whole (48 ∷ []) (x ∷ us)

unfoldable pub from_whole : List ℕ × List ℕ → ℕ × ℕ × ℕ × List ℕ
from_whole (ds, rest) = after_whole ds rest

-- the literal that begins with u, a digit or a point before a digit
unfoldable pub numeral : ℕ → List ℕ → ℕ × ℕ × ℕ × List ℕ
numeral u us =
    if u == 48 then after_zero us else
    (if u == 46 then after_fraction [] (many (one_unit is_digit) us) else
    from_whole (many (one_unit is_digit) (u ∷ us)))

-- the exact value, where it is a number of a script
unfoldable pub value_of : ℕ → ℕ → ℕ → Option ℕ
value_of m r l = if (m * 10 ^ r) % (10 ^ l) == 0 && nat_le ((m * 10 ^ r) / (10 ^ l)) largest
    then Some ((m * 10 ^ r) / (10 ^ l)) else None

unfoldable pub is_some_of : {A : Type 0} → Option A → Bool
is_some_of None = false
is_some_of (Some x) = true

unfoldable pub number_of : List ℕ → Option ℕ → Outcome
number_of rest None = bad faults.BadNumber
number_of rest (Some n) = found (Word (kinds.Number (Some (pos n)))) rest

unfoldable pub number_end : ℕ × ℕ × ℕ × List ℕ → Outcome
number_end (m, r, l, rest) =
    if first_is is_digit rest || is_some_of (letter is_identifier_start rest) then bad faults.BadNumber else
    number_of rest (value_of m r l)

-- strings

unfoldable pub after_line_feed : List ℕ → List ℕ
after_line_feed [] = []
after_line_feed (u ∷ us) = if u == 10 then us else u ∷ us

unfoldable pub hex_escape : List ℕ → Option ((List ℕ × Bool) × List ℕ)
hex_escape (a ∷ b ∷ us) = if is_hex_digit a && is_hex_digit b then Some ((hex_from 0 (a ∷ b ∷ []) ∷ [], false), us) else
    None
hex_escape _ = None

unfoldable pub unicode_escape : List ℕ → Option ((List ℕ × Bool) × List ℕ)
unicode_escape (a ∷ b ∷ c ∷ d ∷ us) = if are_hex_digits a b c d then Some ((hex_number a b c d ∷ [], false), us) else
    None
unicode_escape _ = None

unfoldable pub other_escape : ℕ → List ℕ → Option ((List ℕ × Bool) × List ℕ)
other_escape u us =
    if is_line_terminator u then Some (([], false), (if u == 13 then after_line_feed us else us)) else
    (if u == 120 then hex_escape us else
    (if u == 117 then unicode_escape us else
    (if is_digit u then (if u == 48 && (if first_is is_digit us then false else true)
    then Some ((0 ∷ [], false), us) else
    None) else
    Some ((u ∷ [], false), us))))

unfoldable pub escape_by : ℕ → List ℕ → Option ℕ → Option ((List ℕ × Bool) × List ℕ)
escape_by u us None = other_escape u us
escape_by u us (Some v) = Some ((v ∷ [], false), us)

unfoldable pub escape : List ℕ → Option ((List ℕ × Bool) × List ℕ)
escape [] = None
escape (u ∷ us) = escape_by u us (single_escape u)

unfoldable pub character : ℕ → List ℕ → Option ((List ℕ × Bool) × List ℕ)
character mark [] = None
character mark (u ∷ us) = if u == mark || is_line_terminator u then None else (if u == 92 then escape us else
    Some ((u ∷ [], true), us))

unfoldable pub string_stop : ℕ → List ℕ → Bool → ℕ → List ℕ → Outcome
string_stop mark text plain u us =
    if u == mark then (if nat_le (length text) most_units then found (Word (kinds.Str text plain)) us else
    bad faults.LongText) else
    (if is_line_terminator u then bad faults.UnclosedText else (if nat_le 1 (length us) then bad faults.BadEscape else
    bad faults.UnclosedText))

unfoldable pub string_done : ℕ → List ℕ → Bool → List ℕ → Outcome
string_done mark text plain [] = bad faults.UnclosedText
string_done mark text plain (u ∷ us) = string_stop mark text plain u us

abbrev pub string_end : ℕ → List (List ℕ × Bool) × List ℕ → Outcome
string_end mark (cs, rest) = string_done mark (string_text cs) (is_plain cs) rest

-- punctuators

-- the units after others, where they begin with those
unfoldable pub strip : List ℕ → List ℕ → Option (List ℕ)
strip [] us = Some us
strip (w ∷ ws) [] = None
strip (w ∷ ws) (u ∷ us) = if u == w then strip ws us else None

unfoldable pub or_else : Punct → Option (List ℕ) → Option (Punct × List ℕ) → Option (Punct × List ℕ)
or_else p None others = others
or_else p (Some rest) others = Some (p, rest)

unfoldable pub first_punctuator : List Punct → List ℕ → Option (Punct × List ℕ)
first_punctuator [] us = None
first_punctuator (p ∷ ps) us = or_else p (strip (punctuator_units p) us) (first_punctuator ps us)

unfoldable pub punctuator_found : Option (Punct × List ℕ) → Outcome
punctuator_found None = bad faults.BadCharacter
punctuator_found (Some x) = found (Word (kinds.Punct x.0)) x.1

-- the rest without its first unit
abbrev pub after_first : List ℕ → List ℕ
after_first [] = []
after_first (u ∷ us) = us

-- what a unit begins that is neither white space, a line terminator nor the first of a comment
unfoldable pub scan_word : ℕ → List ℕ → Outcome
scan_word u us =
    if is_quote u then string_end u (many (character u) us) else
    (if is_digit u || (u == 46 && first_is is_digit us) then number_end (numeral u us) else
    (if is_identifier_start u || u == 92 then name_from (letter is_identifier_start (u ∷ us)) else
    punctuator_found (first_punctuator all_punctuators (u ∷ us))))

unfoldable pub scan : List ℕ → Outcome
scan [] = bad faults.BadCharacter
scan (u ∷ us) =
    if is_white_space u then found White us else
    (if is_line_terminator u then found LineEnd (if u == 13 then after_line_feed us else us) else
    (if u == 47 && first_is (λ v. v == 47) us then found LineComment (many (one_unit is_on_line)
    (after_first us)).1 else
    (if u == 47 && first_is (λ v. v == 42) us then block_end (many before_close (after_first us)) else
    scan_word u us)))

-- the pieces of a text

unfoldable pub piece_found : List ℕ → List ℕ → Outcome → Option (Piece × List ℕ)
piece_found text us (bad k) = None
piece_found text us (found e rest) = Some (piece e (place text us) (place text rest), rest)

unfoldable pub next_piece : List ℕ → List ℕ → Option (Piece × List ℕ)
next_piece text us = piece_found text us (scan us)
