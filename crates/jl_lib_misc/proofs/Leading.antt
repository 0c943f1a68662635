-- The number that digits in front write.
use Rattle.std.proofs.Common.{◌≡◌, ◌∷◌, ◌+◌, ◌*◌, ◌<◌, ◌≤◌, [], arith, drop, drop-cons, get_or, length, subst, suc, sym}
use Rattle.std.proofs.Common.{Bool, List, ℕ}
use Rattle.std.proofs.lemmas.Bool.{lt-ltb}
use Rattle.std.specs.Prelude.{if◌then◌else◌}
use Rattle.jl_meaning.specs.builtins.Global.{digit_of, digits_in, whole_from}
use Rattle.jl_lib_misc.specs.inner.Radix.{leading_number}

-- more digits write no smaller number

no_less : (n radix d : ℕ) → 1 ≤ radix → n ≤ n * radix + d
no_less n radix d some = grind arith

grows : (radix n : ℕ) (ds : List ℕ) → 1 ≤ radix → n ≤ whole_from radix n ds
grows radix n [] some = omega arith
grows radix n (d ∷ ds) some = omega (arith, no_less n radix d some, grows radix (n * radix + d) ds some)

-- the digits in front, where the first unit is one of them
abbrev first_if : (radix n u : ℕ) → List ℕ → Bool → ℕ
first_if radix n u us b = whole_from radix n (if b then digit_of u ∷ digits_in radix us else [])

one_digit : (radix n u : ℕ) (us : List ℕ) → 1 ≤ radix → digit_of u < radix
    → n * radix + digit_of u ≤ leading_number radix n (u ∷ us)
one_digit radix n u us some below =
    subst (λ b. n * radix + digit_of u ≤ first_if radix n u us b) (sym (lt-ltb (digit_of u) radix below))
    (grows radix (n * radix + digit_of u) (digits_in radix us) some)

pub next_digit : (radix n : ℕ) (units : List ℕ) (i digit : ℕ) → 1 ≤ radix → i < length units
    → digit ≡ digit_of (get_or units i 0) → digit < radix → n * radix + digit ≤ leading_number radix n (drop i units)
next_digit radix n units i digit some within is below =
    subst (λ l. n * radix + digit ≤ leading_number radix n l) (sym (drop-cons units i 0 within))
    (subst (λ d. n * radix + d ≤ leading_number radix n (get_or units i 0 ∷ drop (suc i) units)) (sym is)
    (one_digit radix n (get_or units i 0) (drop (suc i) units) some (subst (λ d. d < radix) is below)))
