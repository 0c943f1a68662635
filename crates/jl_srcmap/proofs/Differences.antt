-- What is written for fields is read as these fields.
use Rattle.std.proofs.Common.{◌≡◌, ℕ, zero, suc, ◌+◌, ◌-◌, ◌*◌, ◌/◌, ◌%◌, ◌<◌, ◌≤◌, List, [], ◌∷◌, ◌++◌, Bool}
use Rattle.std.proofs.Common.{true, false, nat_lt, length, All, refl, arith, ⊎_elim}
use Rattle.std.specs.Prelude.{if◌then◌else◌, nat_le, nat_eq}
use Rattle.std.proofs.lemmas.Bool.{cases_lt}
use Rattle.std.proofs.lemmas.Bool.Decides.{nat_tests}
use Rattle.std.proofs.lemmas.List.Elements.{All-head, All-tail}
use Rattle.jl_srcmap.specs.Numbers.{AllMove, Moves, Quantities, below_limit, difference, differences, digit_of}
use Rattle.jl_srcmap.specs.Numbers.{digits_of}
use Rattle.jl_srcmap.specs.Numbers.{digits_within}
use Rattle.jl_srcmap.specs.Numbers as numbers
use Rattle.jl_srcmap.proofs.Digits.{digit_apart, digits_make, few_digits}

-- ---- the difference

risen : (a b : ℕ) → a ≤ b → difference a b ≡ 2 * (b - a)
risen a b h = let t : nat_le a b ≡ true = grind (arith, nat_tests) in rw (t) refl

fallen : (a b : ℕ) → b < a → difference a b ≡ 2 * (a - b) + 1
fallen a b h = let t : nat_le a b ≡ false = grind (arith, nat_tests) in rw (t) refl

pub difference_leads : (a b : ℕ) → below_limit b → Moves (difference a b) a b
difference_leads a b small = ⊎_elim
    (λ below. let e = fallen a b below in numbers.down (omega arith) (omega arith) small)
    (λ above. let e = risen a b above in numbers.up (omega arith) (omega arith) small)
    (cases_lt b a)

pub difference_fits : (a b : ℕ) → below_limit a → below_limit b → difference a b < 34359738368
difference_fits a b l m = ⊎_elim
    (λ below. let e = fallen a b below in omega arith)
    (λ above. let e = risen a b above in omega arith)
    (cases_lt b a)

-- ---- texts without separators

abbrev pub IsPlain : List ℕ → Type 0
IsPlain [] = Unit {0}
IsPlain (c ∷ cs) = (nat_eq c 44 ≡ false) × (nat_eq c 59 ≡ false) × IsPlain cs

pub plain_append : (cs ds : List ℕ) → IsPlain cs → IsPlain ds → IsPlain (cs ++ ds)
plain_append [] ds p q = q
plain_append (c ∷ cs) ds p q = (p.0, p.1, plain_append cs ds p.2 q)

plain_digit : (v : ℕ) (cs : List ℕ) → IsPlain cs → IsPlain (digit_of v ∷ cs)
plain_digit v cs p = let apart = digit_apart v in (apart.0, apart.1, p)

pub digits_plain : (most n : ℕ) → IsPlain (digits_within most n)
unfolding digits_within
digits_plain zero n = plain_digit n [] tt
digits_plain (suc most) n = by (nat_lt n 32) (digits_plain most (n / 32)) where
  by : (b : Bool) → IsPlain (digits_within most (n / 32))
      → IsPlain (if b then digit_of n ∷ [] else digit_of (32 + n % 32) ∷ digits_within most (n / 32))
  by true p = plain_digit n [] tt
  by false p = plain_digit (32 + n % 32) (digits_within most (n / 32)) p

-- ---- all fields

-- the digits between these sums and fields are read as the fields, and hold no separators
pub record Written (sums fields : List ℕ) : Type 0 where
  pub quantities : List ℕ
  pub digits : Quantities (differences sums fields) quantities
  pub moves : AllMove quantities sums fields
  pub plain : IsPlain (differences sums fields)

pub written : (sums fields : List ℕ) → length fields ≤ length sums → All below_limit sums → All below_limit fields
    → Written sums fields
written sums [] few s f = record { quantities = []; digits = numbers.none; moves = numbers.none; plain = tt }
written [] (b ∷ fields) few s f = absurd (omega arith)
written (a ∷ sums) (b ∷ fields) few s f =
    let below = All-head below_limit b fields f in
    let others = written sums fields (omega arith) (All-tail below_limit a sums s) (All-tail below_limit b fields f) in
    let fits = difference_fits a b (All-head below_limit a sums s) below in
    record {
      quantities = difference a b ∷ others.quantities;
      digits = numbers.one (digits_make 6 (difference a b) fits) (few_digits 6 (difference a b)) others.digits;
      moves = numbers.one (difference_leads a b below) others.moves;
      plain = plain_append (digits_of (difference a b)) (differences sums fields) (digits_plain 6 (difference a b))
          others.plain;
    }
