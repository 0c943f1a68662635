-- The decimal digits of a number are found as that number.
use Rattle.std.proofs.Common.{◌≡◌, ℕ, zero, suc, ◌+◌, ◌-◌, ◌*◌, ◌/◌, ◌%◌, ◌<◌, ◌≤◌, ◌⊎◌, inl, inr, true, false}
use Rattle.std.proofs.Common.{◌==◌, refl, ap, sym, ◌∙◌, subst, List, [], ◌∷◌, ◌++◌, Some, None, arith}
use Rattle.std.specs.Prelude.{pos, nat_lt, int_lt}
use Rattle.std.proofs.lemmas.Bool.{cases_lt}
use Rattle.std.proofs.lemmas.Bool.Decides.{nat_tests, leb_tells}
use Rattle.jl_num.specs.Digits.{digit_code, digits_within, number_text}
use Rattle.jl_num.proofs.Places.{one_digit, more_digits, last_digit, quotient_less}
use Rattle.jl_token.specs.Characters.{is_digit, decimal_from}
use Rattle.jl_token.specs.Elements.{Word, Many, no_more, one_more, OneUnit, unit, HasValue}
use Rattle.jl_token.specs.inner.Scanner.{found, one_unit, letter, name_escape, scan, scan_word, numeral, after_zero}
use Rattle.jl_token.specs.inner.Scanner.{after_whole, from_whole, with_exponent, exponent, number_end, number_of}
use Rattle.jl_token.specs.inner.Scanner.{value_of, is_some_of}
use Rattle.jl_token.specs.declared.token.TokenKind.TheVariants as kinds
use Rattle.jl_token.proofs.Parts.{reads_unit}
use Rattle.jl_token.proofs.Rows.{many_whole}
use Rattle.jl_token.proofs.Units.{units, digits}
use Rattle.jl_token.proofs.Values.{value_complete}

-- the units that follow a number: those that follow names, but no dot
pub data FollowsNumber : List ℕ → Type 0 where
  line_feed : {us : List ℕ} → FollowsNumber (10 ∷ us)
  space : {us : List ℕ} → FollowsNumber (32 ∷ us)
  left_paren : {us : List ℕ} → FollowsNumber (40 ∷ us)
  right_paren : {us : List ℕ} → FollowsNumber (41 ∷ us)
  comma : {us : List ℕ} → FollowsNumber (44 ∷ us)
  semicolon : {us : List ℕ} → FollowsNumber (59 ∷ us)
  left_bracket : {us : List ℕ} → FollowsNumber (91 ∷ us)
  right_bracket : {us : List ℕ} → FollowsNumber (93 ∷ us)

-- all of them are digits
abbrev AreDigits : List ℕ → Type 0
AreDigits [] = Unit {0}
AreDigits (u ∷ us) = (is_digit u ≡ true) × AreDigits us

digits_append : (us : List ℕ) (u : ℕ) → AreDigits us → is_digit u ≡ true → AreDigits (us ++ u ∷ [])
digits_append [] u h g = (g, tt)
digits_append (v ∷ us) u h g = (h.0, digits_append us u h.1 g)

value_append : (n : ℕ) (us : List ℕ) (u : ℕ) → decimal_from n (us ++ u ∷ []) ≡ decimal_from n us * 10 + (u - 48)
value_append n [] u = refl
value_append n (v ∷ us) u = value_append (n * 10 + (v - 48)) us u

-- a digit's character
code_is : (d : ℕ) → d < 10 → digit_code d ≡ 48 + d
code_is d h = let e : nat_lt d 10 ≡ true = grind (arith, nat_tests) in rw e refl

code_digit : (d : ℕ) → d < 10 → is_digit (digit_code d) ≡ true
unfolding is_digit
code_digit d h = rw (code_is d h) (grind (arith, leb_tells))

-- the digits of n
record Decimal (n : ℕ) (us : List ℕ) : Type 0 where
  first : ℕ
  others : List ℕ
  are : us ≡ first ∷ others
  digits : AreDigits us
  value : decimal_from 0 us ≡ n
  zero_alone : n ≡ 0 → us ≡ 48 ∷ []
  nonzero : 0 < n → (first == 48) ≡ false

is_decimal : (p n : ℕ) → n < p → Decimal n (digits_within 10 p n)
is_decimal zero n h = absurd (omega arith)
is_decimal (suc p) n h = go (cases_lt n 10) (λ g. is_decimal p (n / 10) g)
  where
    go : (n < 10) ⊎ (10 ≤ n) → (n / 10 < p → Decimal (n / 10) (digits_within 10 p (n / 10)))
        → Decimal n (digits_within 10 (suc p) n)
    go (inl l) rest = rw (one_digit 10 p n l) (record {
      first = digit_code n;
      others = [];
      are = refl;
      digits = (code_digit n l, tt);
      value = let c = code_is n l in omega arith;
      zero_alone = λ e. rw e refl;
      nonzero = λ s. let c = code_is n l in grind (arith, nat_tests);
    })
    go (inr l) rest =
        let q = quotient_less 10 n (omega arith) l in
        let r = rest (omega arith) in
        let m : n % 10 < 10 = omega arith in
        rw (more_digits 10 p n l) (record {
          first = r.first;
          others = r.others ++ last_digit 10 n;
          are = ap (λ us. us ++ last_digit 10 n) r.are;
          digits = digits_append (digits_within 10 p (n / 10)) (digit_code (n % 10)) r.digits (code_digit (n % 10) m);
          value =
              let c = code_is (n % 10) m in let v = r.value in
              value_append 0 (digits_within 10 p (n / 10)) (digit_code (n % 10)) ∙ omega arith;
          zero_alone = λ e. absurd (omega arith);
          nonzero = λ s. r.nonzero (omega arith);
        })

digits_stand : (us rest : List ℕ) → AreDigits us → Many (OneUnit is_digit) (us ++ rest) us rest
digits_stand [] rest h = no_more
digits_stand (u ∷ us) rest h = one_more (unit h.0) (digits_stand us rest h.1)

no_digit : {us : List ℕ} → FollowsNumber us → one_unit is_digit us ≡ None
unfolding one_unit units
no_digit line_feed = refl
no_digit space = refl
no_digit left_paren = refl
no_digit right_paren = refl
no_digit comma = refl
no_digit semicolon = refl
no_digit left_bracket = refl
no_digit right_bracket = refl

unfoldable ending : Unit {0}
unfolding units number_end after_zero after_whole from_whole with_exponent exponent is_some_of letter name_escape
ending = tt

whole_ends : (ds : List ℕ) {rest : List ℕ} → FollowsNumber rest
    → number_end (after_whole ds rest) ≡ number_of rest (value_of (decimal_from 0 ds) 0 0)
unfolding ending
whole_ends ds line_feed = refl
whole_ends ds space = refl
whole_ends ds left_paren = refl
whole_ends ds right_paren = refl
whole_ends ds comma = refl
whole_ends ds semicolon = refl
whole_ends ds left_bracket = refl
whole_ends ds right_bracket = refl

zero_is_whole : {rest : List ℕ} → FollowsNumber rest → after_zero rest ≡ after_whole (48 ∷ []) rest
unfolding ending
zero_is_whole line_feed = refl
zero_is_whole space = refl
zero_is_whole left_paren = refl
zero_is_whole right_paren = refl
zero_is_whole comma = refl
zero_is_whole semicolon = refl
zero_is_whole left_bracket = refl
zero_is_whole right_bracket = refl

has_value : (n : ℕ) → n ≤ 9007199254740991 → HasValue n 0 0 n
has_value n h = record { exact = refl; inside = h }

-- what begins with a digit is scanned as a number
digit_begins : (u : ℕ) (us : List ℕ) → is_digit u ≡ true → scan (u ∷ us) ≡ number_end (numeral u us)
unfolding scan scan_word
digit_begins u us h = let d = digits u h in rw (d.white, d.line, d.slash, d.quote, h) refl

numeral_is : (u : ℕ) (us rest : List ℕ) → AreDigits (u ∷ us) → (u == 48) ≡ false → FollowsNumber rest
    → numeral u (us ++ rest) ≡ after_whole (u ∷ us) rest
unfolding numeral from_whole
numeral_is u us rest h z f =
    let d = digits u h.0 in
    let m = many_whole (OneUnit is_digit) (one_unit is_digit) (reads_unit is_digit) (digits_stand (u ∷ us) rest h)
    (no_digit f) in
    rw (z, d.point, m) refl

zero_numeral : {rest : List ℕ} → FollowsNumber rest → numeral 48 rest ≡ after_whole (48 ∷ []) rest
unfolding numeral
zero_numeral f = zero_is_whole f

valued : (n : ℕ) (ds rest : List ℕ) → n ≤ 9007199254740991 → decimal_from 0 ds ≡ n → FollowsNumber rest
    → number_end (after_whole ds rest) ≡ found (Word (kinds.Number (Some (pos n)))) rest
unfolding number_of
valued n ds rest h v f =
    whole_ends ds f ∙ ap (λ m. number_of rest (value_of m 0 0)) v
    ∙ ap (number_of rest) (value_complete n 0 0 n (has_value n h))

zero_digit : is_digit 48 ≡ true
unfolding is_digit
zero_digit = refl

decimal_found : (n : ℕ) (us rest : List ℕ) → n ≤ 9007199254740991 → Decimal n us → FollowsNumber rest
    → scan (us ++ rest) ≡ found (Word (kinds.Number (Some (pos n)))) rest
decimal_found n us rest h d f = ap (λ l. scan (l ++ rest)) d.are ∙ go (cases_lt 0 n)
  where
    all : AreDigits (d.first ∷ d.others)
    all = subst AreDigits d.are d.digits

    begins : scan ((d.first ∷ d.others) ++ rest) ≡ number_end (numeral d.first (d.others ++ rest))
    begins = digit_begins d.first (d.others ++ rest) all.0

    value : decimal_from 0 (d.first ∷ d.others) ≡ n
    value = ap (decimal_from 0) (sym d.are) ∙ d.value

    go : (0 < n) ⊎ (n ≤ 0) → scan ((d.first ∷ d.others) ++ rest) ≡ found (Word (kinds.Number (Some (pos n)))) rest
    go (inl p) = begins ∙ ap number_end (numeral_is d.first d.others rest all (d.nonzero p) f)
        ∙ valued n (d.first ∷ d.others) rest h value f
    go (inr p) =
        let e = sym d.are ∙ d.zero_alone (omega arith) in
        ap (λ l. scan (l ++ rest)) e ∙ digit_begins 48 rest zero_digit ∙ ap number_end (zero_numeral f)
        ∙ valued n (48 ∷ []) rest h (ap (decimal_from 0) (sym e) ∙ value) f

no_terminal : (n : ℕ) → int_lt (pos n) (pos 0) ≡ false
no_terminal n = let e : nat_lt n 0 ≡ false = grind (arith, nat_tests) in e

pub number_found : (n : ℕ) (rest : List ℕ) → n ≤ 9007199254740991 → FollowsNumber rest
    → scan (number_text (Some (pos n)) 10 ++ rest) ≡ found (Word (kinds.Number (Some (pos n)))) rest
number_found n rest h f =
    let e : number_text (Some (pos n)) 10 ≡ digits_within 10 (n + 1) n = rw (no_terminal n) refl in
    ap (λ l. scan (l ++ rest)) e ∙ decimal_found n _ rest h (is_decimal (n + 1) n (omega arith)) f
