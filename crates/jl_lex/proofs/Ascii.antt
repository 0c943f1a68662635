-- The classes of ASCII characters are those of their categories, computed for each of the 128.
use Rattle.std.proofs.Common.{◌≡◌, refl, ℕ, ◌+◌, ◌<◌, Bool, true, false, arith}
use Rattle.jl_token.specs.Characters.{is_white_space, is_identifier_start, is_identifier_part}
use Rattle.jl_token.proofs.Units.{units, all_below, each_between}
use Rattle.jl_lex.specs.inner.Ascii.{is_ascii_start, is_ascii_part, is_ascii_space}

abbrev same : Bool → Bool → Bool
same true b = b
same false true = false
same false false = true

same-equal : (a b : Bool) → same a b ≡ true → a ≡ b
same-equal true true is = refl
same-equal true false is = absurd cc
same-equal false true is = absurd cc
same-equal false false is = refl

agree : (f g : ℕ → Bool) → all_below (λ k. same (f (0 + k)) (g (0 + k))) 128 ≡ true → (u : ℕ) → u < 128 → f u ≡ g u
agree f g all u below =
    same-equal _ _ (each_between (λ v. same (f v) (g v)) 0 128 all u (omega arith) (omega (arith, below)))

pub ascii_starts : (u : ℕ) → u < 128 → is_identifier_start u ≡ is_ascii_start u
unfolding units
ascii_starts u below = agree is_identifier_start is_ascii_start refl u below

pub ascii_parts : (u : ℕ) → u < 128 → is_identifier_part u ≡ is_ascii_part u
unfolding units
ascii_parts u below = agree is_identifier_part is_ascii_part refl u below

pub ascii_spaces : (u : ℕ) → u < 128 → is_white_space u ≡ is_ascii_space u
unfolding units
ascii_spaces u below = agree is_white_space is_ascii_space refl u below
