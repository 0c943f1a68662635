-- The digits of a number are its numeral.
use Rattle.std.proofs.Common.{◌≡◌, ◌≢◌, ℕ, zero, suc, ◌+◌, ◌/◌, ◌%◌, ◌<◌, ◌≤◌, List, [], ◌∷◌, ◌++◌, Bool, true, false}
use Rattle.std.proofs.Common.{nat_lt, sym, ap, ◌∙◌, arith, ⊎_elim}
use Rattle.std.specs.Prelude.{if◌then◌else◌, slice_index}
use Rattle.std.specs.Char.{digit_value}
use Rattle.std.specs.Str.Parse.{digits_value}
use Rattle.std.proofs.lemmas.Bool.{cases_lt}
use Rattle.std.proofs.lemmas.Int.Digits.{digits_value_push}
use Rattle.std.proofs.lemmas.Str.{digit_value-digit_char}
use Rattle.jl_num.specs.Digits.{digit_code, digits_within}
use Rattle.jl_num.specs.Laws.{DigitsWriteNumbers}
use Rattle.jl_num.proofs.Places.{last_digit, one_digit, more_digits, quotient_less}

reads_back : (d : ℕ) → d < 36 → digit_value (digit_code d) ≡ d
reads_back d h = digit_value-digit_char d h

value_within : (radix places n : ℕ) → 2 ≤ radix → radix ≤ 36 → n < places
    → digits_value radix (digits_within radix places n) ≡ n
value_within radix zero n two top h = absurd (omega arith)
value_within radix (suc places) n two top h =
    ⊎_elim
    (λ below.
    let one = digits_value_push radix [] (digit_code n) in
    rw (one_digit radix places n below) (one ∙ rw (reads_back n (omega arith)) (omega arith)))
    (λ above.
    let less = quotient_less radix n two above in
    let rest : n % radix < radix = omega arith in
    let front = value_within radix places (n / radix) two top (omega arith) in
    rw (more_digits radix places n above, digits_value_push)
    (rw (front, reads_back (n % radix) (omega arith)) (omega arith)))
    (cases_lt n radix)

-- a list that begins with another code than that of `0`
abbrev BeginsOther : List ℕ → Type 0
BeginsOther ds = (d : ℕ) × (others : List ℕ) × (ds ≡ d ∷ others) × (d ≢ 48)

not_zero_code : (d : ℕ) → 0 < d → digit_code d ≢ 48
not_zero_code d h e = by_test (nat_lt d 10) e
  where
    by_test : (t : Bool) → (if t then 48 + d else 87 + d) ≡ 48 → ⊥
    by_test true e = omega arith
    by_test false e = omega arith

quotient_some : (radix n : ℕ) → 2 ≤ radix → radix ≤ n → 0 < n / radix
quotient_some radix n two h = grind arith

begins_other : (radix places n : ℕ) → 2 ≤ radix → 0 < n → n < places → BeginsOther (digits_within radix places n)
begins_other radix zero n two some h = absurd (omega arith)
begins_other radix (suc places) n two some h =
    ⊎_elim
    (λ below. (digit_code n, [], one_digit radix places n below, not_zero_code n some))
    (λ above.
    let less = quotient_less radix n two above in
    let b = begins_other radix places (n / radix) two (quotient_some radix n two above) (omega arith) in
    let all = more_digits radix places n above ∙ ap (λ ds. ds ++ last_digit radix n) b.2 in
    (b.0, b.1 ++ last_digit radix n, all, b.3))
    (cases_lt n radix)

pub digits_write_numbers : DigitsWriteNumbers
digits_write_numbers radix n two top = record {
  value = value_within radix (n + 1) n two top (omega arith);
  no_zero_first = λ some e.
      let b = begins_other radix (n + 1) n two some (omega arith) in
      b.3 (sym (ap (λ ds. slice_index ds 0) b.2) ∙ e);
}
