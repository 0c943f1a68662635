-- What an escape writes is a unit of UTF-16, below 2^16.
use Rattle.std.proofs.Common.{◌≡◌, ℕ, ◌<◌, true, ◌&&◌, ◌==◌, [], ◌∷◌, Some, arith}
use Rattle.std.proofs.lemmas.Bool.Decides.{nat_tests}
use Rattle.jl_text.specs.Quoted.{short_escape}
use Rattle.jl_token.proofs.Tests.{and_true}
use Rattle.jl_token.specs.Characters.{are_hex_digits, hex_digit_value, hex_from, hex_number, is_digit, is_hex_digit}
use Rattle.jl_token.specs.Characters.{single_escape}
use Rattle.jl_print.proofs.Paired.{letter_or, no_letter, short_letter, IsLetter}

-- by its number
digit_small : (a : ℕ) → is_hex_digit a ≡ true → hex_digit_value a < 16
unfolding is_hex_digit is_digit hex_digit_value
digit_small a h = grind (arith, nat_tests)

pub two_small : (a b : ℕ) → (is_hex_digit a && is_hex_digit b) ≡ true → hex_from 0 (a ∷ b ∷ []) < 0x1_0000
two_small a b h =
    let p = and_true (is_hex_digit a) (is_hex_digit b) h in
    let x = digit_small a p.0 in let y = digit_small b p.1 in omega arith

pub four_small : (a b c d : ℕ) → are_hex_digits a b c d ≡ true → hex_number a b c d < 0x1_0000
unfolding are_hex_digits hex_number
four_small a b c d h =
    let p = and_true (is_hex_digit a && is_hex_digit b && is_hex_digit c) (is_hex_digit d) h in
    let q = and_true (is_hex_digit a && is_hex_digit b) (is_hex_digit c) p.0 in
    let r = and_true (is_hex_digit a) (is_hex_digit b) q.0 in
    let x = digit_small a r.0 in let y = digit_small b r.1 in let z = digit_small c q.1 in
    let w = digit_small d p.1 in omega arith

-- by a letter, which is of ASCII, as a literal is read
single_letter : (u : ℕ) → IsLetter (single_escape u)
unfolding single_escape
single_letter u =
    letter_or (u == 98) (omega arith) (letter_or (u == 116) (omega arith) (letter_or (u == 110) (omega arith)
    (letter_or (u == 118) (omega arith) (letter_or (u == 102) (omega arith) (letter_or (u == 114) (omega arith)
    (letter_or (u == 34) (omega arith) (letter_or (u == 39) (omega arith) (letter_or (u == 92) (omega arith) no_letter
    ))))))))

pub single_small : (u letter : ℕ) → single_escape u ≡ Some letter → letter < 0x1_0000
single_small u letter e = let l = single_letter u in let a = l.small letter e in omega arith

-- and as text is quoted
pub short_small : (u letter : ℕ) → short_escape u ≡ Some letter → letter < 0x1_0000
short_small u letter e = let l = short_letter u in let a = l.small letter e in omega arith
