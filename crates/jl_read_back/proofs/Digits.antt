-- A number of a script has at most sixteen digits.
use Rattle.std.proofs.Common.{◌≡◌, ℕ, zero, suc, ◌+◌, ◌≤◌, ◌<◌, false, refl, ap, sym, ◌∙◌, subst}
use Rattle.std.proofs.Common.{arith, pow-suc, ◌^◌, ◌*◌, ◌/◌, ◌%◌, ◌⊎◌, inl, inr}
use Rattle.std.specs.Prelude.{Some, pos, int_lt, nat_lt}
use Rattle.std.proofs.lemmas.Bool.{cases_lt}
use Rattle.std.proofs.lemmas.Bool.Decides.{nat_tests}
use Rattle.std.proofs.lemmas.Nat.{div_below}
use Rattle.jl_num.proofs.Places.{last_digit, more_digits, one_digit}
use Rattle.jl_num.specs.Digits.{digit_code, digits_within, number_text}
use Rattle.jl_num.specs.Number.{Number}
use Rattle.jl_print.specs.WellFormed.{IsLiteral}
use Rattle.jl_read_back.specs.inner.Bytes.{most_bytes, text_weight, unit_bytes}
use Rattle.jl_read_back.proofs.Bytes.{bytes_append, fewer_units, one_byte}

no_sign : (n : ℕ) → int_lt (pos n) (pos 0) ≡ false
no_sign n = let e : nat_lt n 0 ≡ false = grind (arith, nat_tests) in e

module _ (heavy : ℕ) where
  -- a digit is of ASCII
  digit_one : (d : ℕ) → d < 10 → unit_bytes heavy (digit_code d) ≡ 1
  digit_one d h = one_byte heavy (digit_code d) (grind (arith, nat_tests))

  one_more_digit : (p n : ℕ) → ((m : ℕ) → n / 10 < 10 ^ suc m → most_bytes heavy (digits_within 10 p (n / 10)) ≤ suc m)
      → (n < 10) ⊎ (10 ≤ n) → (m : ℕ) → n < 10 ^ suc m → most_bytes heavy (digits_within 10 (suc p) n) ≤ suc m
  one_more_digit p n rest (inl l) m h =
      let e = ap (most_bytes heavy) (one_digit 10 p n l) in let d = digit_one n l in omega arith
  one_more_digit p n rest (inr l) zero h = absurd (omega arith)
  one_more_digit p n rest (inr l) (suc m) h =
      let c : 10 ^ suc (suc m) ≡ 10 ^ suc m * 10 = pow-suc 10 (suc m) in
      let q = rest m (div_below n 10 (10 ^ suc m) (omega arith) (subst (λ k. n < k) c h)) in
      let e = ap (most_bytes heavy) (more_digits 10 p n l)
      ∙ bytes_append heavy (digits_within 10 p (n / 10)) (last_digit 10 n) in
      let d = digit_one (n % 10) (omega arith) in omega arith

  few_digits : (p m n : ℕ) → n < 10 ^ suc m → most_bytes heavy (digits_within 10 p n) ≤ suc m
  few_digits zero m n h = omega arith
  few_digits (suc p) m n h = one_more_digit p n (λ m. few_digits p m (n / 10)) (cases_lt n 10) m h

  value_bytes : (n : ℕ) → n ≤ 9007199254740991 → most_bytes heavy (number_text (Some (pos n)) 10) ≤ 16
  value_bytes n h =
      let d = few_digits (n + 1) 15 n (omega arith) in
      let e : number_text (Some (pos n)) 10 ≡ digits_within 10 (n + 1) n = rw (no_sign n) refl in
      let l = ap (most_bytes heavy) e in omega arith

  pub value_few : (n : ℕ) → n ≤ 9007199254740991 → text_weight heavy (number_text (Some (pos n)) 10) ≤ 16
  value_few n h = let a = value_bytes n h in let b = fewer_units heavy (number_text (Some (pos n)) 10) in omega arith

  pub literal_few : (n : Number) → IsLiteral n → most_bytes heavy (number_text n 10) ≤ 16
  literal_few n w = subst (λ n. most_bytes heavy (number_text n 10) ≤ 16) (sym w.is) (value_bytes w.value w.inside)
