-- The kinds of units don't overlap.
use Rattle.std.proofs.Common.{◌≡◌, refl, sym, subst, ℕ, zero, suc, ◌+◌, ◌-◌, ◌<◌, ◌≤◌, ◌⊎◌, inl, inr, Bool, true, false}
use Rattle.std.proofs.Common.{◌&&◌, ◌||◌, ◌==◌, arith}
use Rattle.std.proofs.Math.Bool.{not}
use Rattle.std.proofs.lemmas.Bool.{leb-true}
use Rattle.std.proofs.lemmas.Bool.Decides.{leb_tells}
use Rattle.unicode.proofs.CategoryComputing.{ucd_category}
use Rattle.ucd_category.specs.declared.GeneralCategory.{GeneralCategory}
use Rattle.ucd_category.specs.declared.GeneralCategory.TheVariants.{SpaceSeparator}
use Rattle.jl_text.proofs.SearchLemmas.{false_unless}
use Rattle.jl_token.specs.Characters.{is_surrogate, category, is_space, is_letter, is_mark, is_white_space}
use Rattle.jl_token.specs.Characters.{is_line_terminator, is_on_line, is_identifier_start, is_identifier_part, is_digit}
use Rattle.jl_token.specs.Characters.{is_hex_digit, is_quote}
use Rattle.jl_token.proofs.Tests.{or_cases, both_false, and_true, never_both, is_unit, other_unit}

-- a test of each number below a bound, computed
unfoldable pub all_below : (ℕ → Bool) → ℕ → Bool
all_below p zero = true
all_below p (suc n) = p n && all_below p n

-- `unfolding units` lets `refl` compute the tests of a unit
unfoldable pub units : Unit {0}
unfolding all_below ucd_category is_surrogate category is_space is_letter is_mark is_white_space is_line_terminator
    is_on_line is_identifier_start is_identifier_part is_digit is_hex_digit is_quote
units = tt

below_suc : (k n : ℕ) → k < suc n → (k ≡ n) ⊎ (k < n)
below_suc k n g = elim (leb_tells n k) [ inl a ↦ inl (omega (arith, a.1)) | inr b ↦ inr b.1 ]

each_below : (p : ℕ → Bool) (n : ℕ) → all_below p n ≡ true → (k : ℕ) → k < n → p k ≡ true
unfolding all_below
each_below p zero h k g = absurd (omega arith)
each_below p (suc n) h k g = let a = and_true _ _ h in elim (below_suc k n g) [
  | inl e ↦ subst (λ v. p v ≡ true) (sym e) a.0
  | inr l ↦ each_below p n a.1 k l
]

-- a test of each unit between two
pub each_between : (p : ℕ → Bool) (low n : ℕ) → all_below (λ k. p (low + k)) n ≡ true → (u : ℕ) → low ≤ u → u < low + n
    → p u ≡ true
each_between p low n h u a b =
    let e : low + (u - low) ≡ u = omega arith in
    subst (λ v. p v ≡ true) e (each_below (λ k. p (low + k)) n h (u - low) (omega arith))

not_false : (b : Bool) → not b ≡ true → b ≡ false
not_false true h = absurd cc
not_false false h = refl

pub digit_bounds : (u : ℕ) → is_digit u ≡ true → (48 ≤ u) × (u ≤ 57)
unfolding is_digit
digit_bounds u h = let a = and_true _ _ h in (leb-true 48 u a.0, leb-true u 57 a.1)

-- what holds of each digit
pub each_digit : (p : ℕ → Bool) → all_below (λ k. not (p (48 + k))) 10 ≡ true → (u : ℕ) → is_digit u ≡ true
    → p u ≡ false
each_digit p h u g = let b = digit_bounds u g in
    not_false (p u) (each_between (λ v. not (p v)) 48 10 h u b.0 (omega arith))

-- white space
no_letter : (c : GeneralCategory) → is_space c ≡ true → is_letter c ≡ false
unfolding is_space is_letter
no_letter SpaceSeparator h = refl
no_letter _ h = absurd cc

dollar : is_space (category 36) ≡ false
unfolding units
dollar = refl

low_line : is_space (category 95) ≡ false
unfolding units
low_line = refl

at_unit : (p : ℕ → Bool) (u k : ℕ) → (u == k) ≡ true → p k ≡ false → p u ≡ false
at_unit p u k h g = subst (λ v. p v ≡ false) (sym (is_unit u k h)) g

white_start : (u : ℕ) → is_white_space u ≡ true → is_identifier_start u ≡ false
unfolding units
white_start u h = elim (or_cases _ _ h) [
  | inl h1 ↦ elim (or_cases _ _ h1) [
    | inl h2 ↦ elim (or_cases _ _ h2) [
      | inl h3 ↦ elim (or_cases _ _ h3) [
        | inl h4 ↦ elim (or_cases _ _ h4) [
          | inl h5 ↦ elim (or_cases _ _ h5) [
            | inl e ↦ at_unit is_identifier_start u 9 e refl
            | inr e
                ↦ at_unit is_identifier_start u 11 e refl
          ]
          | inr e ↦ at_unit is_identifier_start u 12 e refl
        ]
        | inr e ↦ at_unit is_identifier_start u 32 e refl
      ]
      | inr e ↦ at_unit is_identifier_start u 160 e refl
    ]
    | inr e ↦ at_unit is_identifier_start u 65279 e refl
  ]
  | inr s ↦ both_false _ _
      (both_false _ _ (other_unit u 36
      (λ e. never_both _ s (subst (λ v. is_space (category v) ≡ false) (sym e) dollar)))
      (other_unit u 95 (λ e. never_both _ s (subst (λ v. is_space (category v) ≡ false) (sym e) low_line))))
      (no_letter (category u) s)
]

-- line terminators
pub each_line_terminator : (p : ℕ → Bool) → p 10 ≡ false → p 13 ≡ false → p 8232 ≡ false → p 8233 ≡ false → (u : ℕ)
    → is_line_terminator u ≡ true → p u ≡ false
unfolding is_line_terminator
each_line_terminator p a b c d u h = elim (or_cases _ _ h) [
  | inl h1 ↦ elim (or_cases _ _ h1) [
    | inl h2 ↦ elim (or_cases _ _ h2) [ inl e ↦ at_unit p u 10 e a | inr e ↦ at_unit p u 13 e b ]
    | inr e ↦ at_unit p u 8232 e c
  ]
  | inr e ↦ at_unit p u 8233 e d
]

-- quotation marks
pub each_quote : (p : ℕ → Bool) → p 34 ≡ false → p 39 ≡ false → (u : ℕ) → is_quote u ≡ true → p u ≡ false
unfolding is_quote
each_quote p a b u h = elim (or_cases _ _ h) [ inl e ↦ at_unit p u 34 e a | inr e ↦ at_unit p u 39 e b ]

-- the other way round
clash : (p q : ℕ → Bool) → ((u : ℕ) → p u ≡ true → q u ≡ false) → (u : ℕ) → q u ≡ true → p u ≡ false
clash p q f u h = false_unless (p u) (λ e. never_both (q u) h (f u e))

pub record Starts (u : ℕ) : Type 0 where
  pub white : is_white_space u ≡ false
  pub line : is_line_terminator u ≡ false
  pub slash : (u == 47) ≡ false
  pub quote : is_quote u ≡ false
  pub digit : is_digit u ≡ false
  pub point : (u == 46) ≡ false
  pub backslash : (u == 92) ≡ false

pub starts : (u : ℕ) → is_identifier_start u ≡ true → Starts u
unfolding units
starts u h = record {
  white = clash is_white_space is_identifier_start white_start u h;
  line = clash is_line_terminator is_identifier_start (each_line_terminator is_identifier_start refl refl refl refl) u
      h;
  slash = clash (λ v. v == 47) is_identifier_start (λ v e. at_unit is_identifier_start v 47 e refl) u h;
  quote = clash is_quote is_identifier_start (each_quote is_identifier_start refl refl) u h;
  digit = clash is_digit is_identifier_start (each_digit is_identifier_start refl) u h;
  point = clash (λ v. v == 46) is_identifier_start (λ v e. at_unit is_identifier_start v 46 e refl) u h;
  backslash = clash (λ v. v == 92) is_identifier_start (λ v e. at_unit is_identifier_start v 92 e refl) u h;
}

pub record Lines (u : ℕ) : Type 0 where
  pub white : is_white_space u ≡ false
  pub quote : is_quote u ≡ false
  pub digit : is_digit u ≡ false
  pub backslash : (u == 92) ≡ false

pub lines : (u : ℕ) → is_line_terminator u ≡ true → Lines u
unfolding units
lines u h = record {
  white = each_line_terminator is_white_space refl refl refl refl u h;
  quote = each_line_terminator is_quote refl refl refl refl u h;
  digit = each_line_terminator is_digit refl refl refl refl u h;
  backslash = each_line_terminator (λ v. v == 92) refl refl refl refl u h;
}

pub record Quotes (u : ℕ) : Type 0 where
  pub white : is_white_space u ≡ false
  pub line : is_line_terminator u ≡ false
  pub slash : (u == 47) ≡ false
  pub digit : is_digit u ≡ false
  pub backslash : (u == 92) ≡ false

pub quotes : (u : ℕ) → is_quote u ≡ true → Quotes u
unfolding units
quotes u h = record {
  white = each_quote is_white_space refl refl u h;
  line = each_quote is_line_terminator refl refl u h;
  slash = each_quote (λ v. v == 47) refl refl u h;
  digit = each_quote is_digit refl refl u h;
  backslash = each_quote (λ v. v == 92) refl refl u h;
}

pub record IsDigit (u : ℕ) : Type 0 where
  pub white : is_white_space u ≡ false
  pub line : is_line_terminator u ≡ false
  pub slash : (u == 47) ≡ false
  pub quote : is_quote u ≡ false
  pub start : is_identifier_start u ≡ false
  pub point : (u == 46) ≡ false
  pub mark : (u == 101 || u == 69) ≡ false
  pub sign : (u == 43 || u == 45) ≡ false
  pub x_mark : (u == 120 || u == 88) ≡ false

pub digits : (u : ℕ) → is_digit u ≡ true → IsDigit u
unfolding units
digits u h = record {
  white = each_digit is_white_space refl u h;
  line = each_digit is_line_terminator refl u h;
  slash = each_digit (λ v. v == 47) refl u h;
  quote = each_digit is_quote refl u h;
  start = each_digit is_identifier_start refl u h;
  point = each_digit (λ v. v == 46) refl u h;
  mark = each_digit (λ v. v == 101 || v == 69) refl u h;
  sign = each_digit (λ v. v == 43 || v == 45) refl u h;
  x_mark = each_digit (λ v. v == 120 || v == 88) refl u h;
}

-- the backslash
pub backslash_start : is_identifier_start 92 ≡ false
unfolding units
backslash_start = refl

pub backslash_part : is_identifier_part 92 ≡ false
unfolding units
backslash_part = refl
