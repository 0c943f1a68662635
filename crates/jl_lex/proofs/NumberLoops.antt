-- The steps of a literal's functions, over plain lists.
use Rattle.std.proofs.Common.{◌≡◌, refl, sym, ap, ◌∙◌, subst, ℕ, ◌+◌, ◌-◌, ◌*◌, ◌<◌, ◌≤◌, ◌⊎◌, inl, inr, Bool, true}
use Rattle.std.proofs.Common.{false, ◌&&◌, ◌||◌, ◌==◌, nat_le, List, [], ◌∷◌, ◌++◌, drop, length, Option, Some, None}
use Rattle.std.proofs.Common.{if◌then◌else◌, arith, length-drop, ℤ, pos}
use Rattle.std.proofs.lemmas.List.{drop-drop}
use Rattle.std.proofs.lemmas.Bool.Decides.{leb_tells}
use Rattle.jl_token.specs.Characters.{is_digit, is_hex_digit, hex_digit_value, decimal_from, hex_from}
use Rattle.jl_token.specs.Characters.{is_identifier_start, first_is}
use Rattle.jl_token.specs.Elements.{Many, no_more, one_more, OneUnit, unit}
use Rattle.jl_token.specs.inner.Scanner.{many, one_unit, some_digits, exponent_powers, exponent, exponent_sign}
use Rattle.jl_token.specs.inner.Scanner.{exponent_by, with_exponent, after_fraction, after_whole, after_zero}
use Rattle.jl_token.specs.inner.Scanner.{hex_literal, from_whole, numeral, value_of, number_end, number_of, is_some_of}
use Rattle.jl_token.specs.inner.Scanner.{letter, found, bad}
use Rattle.jl_token.specs.Elements.{Word}
use Rattle.jl_token.specs.declared.token.BadKind.TheVariants as faults
use Rattle.jl_token.specs.declared.token.TokenKind.TheVariants as kinds
use Rattle.jl_token.proofs.Values.{value_sound}
use Rattle.jl_token.proofs.Numbers.{units_row}
use Rattle.jl_token.proofs.Tests.{other_unit, is_unit, or_cases, and_true}
use Rattle.jl_lex.specs.inner.Amounts.{scale, add_digit, add_digits, value_from, if_number, capped_from}
use Rattle.jl_lex.specs.inner.Amounts.{hex_capped_from, Exponents, the_same, is_high, is_low, Stands, NumeralFrom}
use Rattle.jl_lex.specs.inner.Amounts.{ExponentFrom}
use Rattle.jl_lex.specs.declared.numbers.Numeral.{Numeral}
use Rattle.jl_lex.specs.declared.numbers.Exponent.{Exponent}
use Rattle.jl_lex.proofs.AmountLemmas.{add_digit_stands, value_stands, none_stands, from_value, from_none, over}
use Rattle.jl_lex.proofs.AmountLemmas.{no_digits}
use Rattle.jl_lex.proofs.Loops.{unit_more, unit_stop, unit_end}
use Rattle.jl_lex.specs.inner.Parts.{hex_first}

-- exponents
letter_at : ℕ → Bool
letter_at e = e == 101 || e == 69

pub exponent_none : (us : List ℕ) → false ≡ first_is (λ e. e == 101 || e == 69) us → exponent us ≡ (0, 0, us)
unfolding exponent
exponent_none [] h = refl
exponent_none (e ∷ us) h = rw (sym h) refl

plus_list : (us : List ℕ) → true ≡ first_is (λ e. e == 101 || e == 69) us → true ≡ first_is (λ v. v == 43) (drop 1 us)
    → exponent us ≡ exponent_by us false (some_digits is_digit (drop 2 us))
unfolding exponent exponent_sign
plus_list [] h g = absurd cc
plus_list (e ∷ []) h g = absurd cc
plus_list (e ∷ s ∷ us) h g = rw (sym h, sym g) refl

minus_list : (us : List ℕ) → true ≡ first_is (λ e. e == 101 || e == 69) us → false ≡ first_is (λ v. v == 43) (drop 1 us)
    → true ≡ first_is (λ v. v == 45) (drop 1 us) → exponent us ≡ exponent_by us true (some_digits is_digit (drop 2 us))
unfolding exponent exponent_sign
minus_list [] h g f = absurd cc
minus_list (e ∷ []) h g f = absurd cc
minus_list (e ∷ s ∷ us) h g f = rw (sym h, sym g, sym f) refl

plain_list : (us : List ℕ) → true ≡ first_is (λ e. e == 101 || e == 69) us → false ≡ first_is (λ v. v == 43) (drop 1 us)
    → false ≡ first_is (λ v. v == 45) (drop 1 us)
    → exponent us ≡ exponent_by us false (some_digits is_digit (drop 1 us))
unfolding exponent exponent_sign exponent_by some_digits
plain_list [] h g f = absurd cc
plain_list (e ∷ []) h g f = rw (sym h) refl
plain_list (e ∷ s ∷ us) h g f = rw (sym h, sym g, sym f) refl

pub exponent_plus : (units : List ℕ) (i : ℕ) → true ≡ first_is (λ e. e == 101 || e == 69) (drop i units)
    → true ≡ first_is (λ v. v == 43) (drop (i + 1) units) → exponent (drop i units)
    ≡ exponent_by (drop i units) false (some_digits is_digit (drop (i + 2) units))
exponent_plus units i h g = plus_list (drop i units) h (rw (drop-drop 1 i units) g)
    ∙ ap (λ (x : List ℕ). exponent_by (drop i units) false (some_digits is_digit x)) (drop-drop 2 i units)

pub exponent_minus : (units : List ℕ) (i : ℕ) → true ≡ first_is (λ e. e == 101 || e == 69) (drop i units)
    → false ≡ first_is (λ v. v == 43) (drop (i + 1) units) → true ≡ first_is (λ v. v == 45) (drop (i + 1) units)
    → exponent (drop i units) ≡ exponent_by (drop i units) true (some_digits is_digit (drop (i + 2) units))
exponent_minus units i h g f = minus_list (drop i units) h (rw (drop-drop 1 i units) g) (rw (drop-drop 1 i units) f)
    ∙ ap (λ (x : List ℕ). exponent_by (drop i units) true (some_digits is_digit x)) (drop-drop 2 i units)

pub exponent_plain : (units : List ℕ) (i : ℕ) → true ≡ first_is (λ e. e == 101 || e == 69) (drop i units)
    → false ≡ first_is (λ v. v == 43) (drop (i + 1) units) → false ≡ first_is (λ v. v == 45) (drop (i + 1) units)
    → exponent (drop i units) ≡ exponent_by (drop i units) false (some_digits is_digit (drop (i + 1) units))
exponent_plain units i h g f = plain_list (drop i units) h (rw (drop-drop 1 i units) g) (rw (drop-drop 1 i units) f)
    ∙ ap (λ (x : List ℕ). exponent_by (drop i units) false (some_digits is_digit x)) (drop-drop 1 i units)

-- a capped number is the number, or large and not past it
data Capped (n m : ℕ) : Type 0 where
  whole_number : n ≡ m → Capped n m
  large_number : 1099511627776 ≤ n → n ≤ m → Capped n m

capped_is : (us : List ℕ) (n m : ℕ) → Capped n m → Capped (capped_from n us) (decimal_from m us)
unfolding capped_from
capped_is [] n m c = c
capped_is (u ∷ us) n m c =
    capped_is us (if nat_le 1099511627776 n then n else n * 10 + (u - 48)) (m * 10 + (u - 48))
    (by c (leb_tells 1099511627776 n)) where
      by : Capped n m → ((nat_le 1099511627776 n ≡ true) × (1099511627776 ≤ n))
          ⊎ ((nat_le 1099511627776 n ≡ false) × (n < 1099511627776))
          → Capped (if nat_le 1099511627776 n then n else n * 10 + (u - 48)) (m * 10 + (u - 48))
      by (whole_number e) (inl h) = rw (h.0) (large_number h.1 (omega arith))
      by (whole_number e) (inr h) = rw (h.0) (whole_number (ap (λ k. k * 10 + (u - 48)) e))
      by (large_number a b) (inl h) = rw (h.0) (large_number h.1 (omega arith))
      by (large_number a b) (inr h) = absurd (omega (arith, h.1))

capped_digits : (us : List ℕ) → Capped (capped_from 0 us) (decimal_from 0 us)
capped_digits us = capped_is us 0 0 (whole_number refl)

pub after_none : (units : List ℕ) (at : ℕ) (lowers : Bool) (o : Option (List ℕ × List ℕ)) → o ≡ None → at ≤ length units
    → ExponentFrom units at (record { raise = 0; lower = 0; end = at }) (exponent_by (drop at units) lowers o)
unfolding exponent_by
after_none units at lowers o e h = rw e (the_same refl refl, refl, omega arith, h)

pub after_lower : (units : List ℕ) (at end n : ℕ) (lowers : Bool) (ds : List ℕ) (o : Option (List ℕ × List ℕ))
    → o ≡ Some (ds, drop end units) → lowers ≡ true → n ≡ capped_from 0 ds → at ≤ end → end ≤ length units
    → ExponentFrom units at (record { raise = 0; lower = n; end = end }) (exponent_by (drop at units) lowers o)
unfolding exponent_by exponent_powers
after_lower units at end n lowers ds o e t m a b = rw (e, t, m) (by (capped_digits ds), refl, a, b) where
  by : Capped (capped_from 0 ds) (decimal_from 0 ds) → Exponents 0 (capped_from 0 ds) 0 (decimal_from 0 ds)
  by (whole_number e) = the_same refl e
  by (large_number a b) = is_low a b refl refl

pub after_raise : (units : List ℕ) (at end n : ℕ) (lowers : Bool) (ds : List ℕ) (o : Option (List ℕ × List ℕ))
    → o ≡ Some (ds, drop end units) → lowers ≡ false → n ≡ capped_from 0 ds → at ≤ end → end ≤ length units
    → ExponentFrom units at (record { raise = n; lower = 0; end = end }) (exponent_by (drop at units) lowers o)
unfolding exponent_by exponent_powers
after_raise units at end n lowers ds o e t m a b = rw (e, t, m) (by (capped_digits ds), refl, a, b) where
  by : Capped (capped_from 0 ds) (decimal_from 0 ds) → Exponents (capped_from 0 ds) 0 (decimal_from 0 ds) 0
  by (whole_number e) = the_same e refl
  by (large_number a b) = is_high a b refl refl

pub exponent_from : (units : List ℕ) (at : ℕ) (e : Exponent) (x y : ℕ × ℕ × List ℕ) → x ≡ y → ExponentFrom units at e y
    → ExponentFrom units at e x
exponent_from units at e x y q h = subst (λ (z : ℕ × ℕ × List ℕ). ExponentFrom units at e z) (sym q) h

pub exponent_absent : (units : List ℕ) (at : ℕ) (x : ℕ × ℕ × List ℕ) → x ≡ (0, 0, drop at units) → at ≤ length units
    → ExponentFrom units at (record { raise = 0; lower = 0; end = at }) x
exponent_absent units at x q h =
    subst (λ (z : ℕ × ℕ × List ℕ). ExponentFrom units at (record { raise = 0; lower = 0; end = at }) z) (sym q)
    (the_same refl refl, refl, omega arith, h)

-- literals
pub numeral_from : (units : List ℕ) (i j : ℕ) (r : Numeral) (x y : ℕ × ℕ × ℕ × List ℕ) → x ≡ y → i ≤ j
    → NumeralFrom units j r y → NumeralFrom units i r x
numeral_from units i j r x y q l h =
    subst (λ (z : ℕ × ℕ × ℕ × List ℕ). NumeralFrom units i r z) (sym q) (h.0, h.1, omega (arith, h.2), h.3)

pub finish : (units : List ℕ) (at c z places : ℕ) (e : Exponent) (v : Option ℕ) (ds : List ℕ) (x : ℕ × ℕ × List ℕ)
    → Stands c z (decimal_from 0 ds) → ExponentFrom units at e x → v ≡ value_from c z e.raise (places + e.lower)
    → z < 4294967296 → places < 4294967296
    → NumeralFrom units at (record { value = v; end = e.end }) (with_exponent ds places x)
unfolding with_exponent
finish units at c z places e v ds (r, l, rest) s h q a b = (
  q ∙ value_stands c z (decimal_from 0 ds) e.raise e.lower r l places s h.0 (omega arith) (omega arith),
  h.1,
  h.2,
  h.3,
)

digits_stand : {us fs rest : List ℕ} → Many (OneUnit is_digit) us fs rest → (c z m : ℕ) → Stands c z m
    → Stands (add_digits (c, z) fs).0 (add_digits (c, z) fs).1 (decimal_from m fs)
unfolding add_digits
digits_stand no_more c z m s = s
digits_stand (one_more (unit {u} h) d) c z m s =
    digits_stand d (add_digit u (c, z)).0 (add_digit u (c, z)).1 (m * 10 + (u - 48)) (add_digit_stands u c z m h s)

pub decimal_append : (n : ℕ) (ds fs : List ℕ) → decimal_from n (ds ++ fs) ≡ decimal_from (decimal_from n ds) fs
decimal_append n [] fs = refl
decimal_append n (d ∷ ds) fs = decimal_append (n * 10 + (d - 48)) ds fs

pub point_stands : (c z e y : ℕ) (ds us : List ℕ) → Stands c z (decimal_from 0 ds)
    → ◌≡◌ {A = ℕ × ℕ} (e, y) (add_digits (c, z) (many (one_unit is_digit) us).0)
    → Stands e y (decimal_from 0 (ds ++ (many (one_unit is_digit) us).0))
point_stands c z e y ds us s q =
    let fs = (many (one_unit is_digit) us).0 in
    let d = digits_stand (units_row is_digit us) c z (decimal_from 0 ds) s in
    subst (λ n. Stands e y n) (sym (decimal_append 0 ds fs))
    (subst (λ (x : ℕ × ℕ). Stands x.0 x.1 (decimal_from (decimal_from 0 ds) fs)) (sym q) d)

row_length : {us fs rest : List ℕ} → Many (OneUnit is_digit) us fs rest → length us ≡ length fs + length rest
row_length no_more = omega arith
row_length (one_more (unit h) d) = let i = row_length d in omega arith

pub places_are : (units : List ℕ) (at end : ℕ) → drop end units ≡ (many (one_unit is_digit) (drop at units)).1
    → at ≤ end → end ≤ length units → end - at ≡ length (many (one_unit is_digit) (drop at units)).0
places_are units at end e a b =
    let r = row_length (units_row is_digit (drop at units)) in
    let x = length-drop at units in let y = length-drop end units in let z = ap length e in omega arith

pub point_from : (units : List ℕ) (at end n : ℕ) (r : Numeral) (ds : List ℕ) (x : List ℕ × List ℕ)
    → drop end units ≡ x.1 → n ≡ length x.0 → at ≤ end
    → NumeralFrom units end r (with_exponent (ds ++ x.0) n (exponent (drop end units)))
    → NumeralFrom units at r (after_fraction ds x)
unfolding after_fraction
point_from units at end n r ds (fs, rest) e q l h =
    numeral_from units at end r _ _ (ap (λ (us : List ℕ). with_exponent (ds ++ fs) (length fs) (exponent us)) (sym e)
    ∙ ap (λ k. with_exponent (ds ++ fs) k (exponent (drop end units))) (sym q)) l h

point_list : (ds us : List ℕ) → true ≡ first_is (λ v. v == 46) us
    → after_whole ds us ≡ after_fraction ds (many (one_unit is_digit) (drop 1 us))
unfolding after_whole
point_list ds [] h = absurd cc
point_list ds (u ∷ us) h = rw (sym h) refl

pub whole_point : (ds units : List ℕ) (i : ℕ) → true ≡ first_is (λ v. v == 46) (drop i units)
    → after_whole ds (drop i units) ≡ after_fraction ds (many (one_unit is_digit) (drop (i + 1) units))
whole_point ds units i h =
    point_list ds (drop i units) h ∙ ap (λ (x : List ℕ). after_fraction ds (many (one_unit is_digit) x))
    (drop-drop 1 i units)

pub whole_plain : (ds us : List ℕ) → false ≡ first_is (λ v. v == 46) us
    → after_whole ds us ≡ with_exponent ds 0 (exponent us)
unfolding after_whole
whole_plain ds [] h = refl
whole_plain ds (u ∷ us) h = rw (sym h) refl

-- hexadecimal digits so far
pub record HexSoFar (n : ℕ) (us all : List ℕ) : Type 0 where
  pub number : hex_capped_from n (many (one_unit is_hex_digit) us).0
      ≡ hex_capped_from 0 (many (one_unit is_hex_digit) all).0
  pub rest : (many (one_unit is_hex_digit) us).1 ≡ (many (one_unit is_hex_digit) all).1

pub hex_begins : (us : List ℕ) → HexSoFar 0 us us
hex_begins us = record { number = refl; rest = refl }

record HexDigit (us : List ℕ) (v : ℕ) : Type 0 where
  unit : ℕ
  is : us ≡ unit ∷ drop 1 us
  test : is_hex_digit unit ≡ true
  value : hex_digit_value unit ≡ v

hex_digit : (us : List ℕ) (v : ℕ) → hex_first us ≡ Some v → HexDigit us v
unfolding hex_first
hex_digit [] v e = absurd cc
hex_digit (u ∷ us) v e = by (is_hex_digit u) refl e where
  by : (b : Bool) → is_hex_digit u ≡ b → (if b then Some (hex_digit_value u) else None) ≡ Some v → HexDigit (u ∷ us) v
  by true h e = record { unit = u; is = refl; test = h; value = cc }
  by false h e = absurd cc

pub hex_more : (n k v : ℕ) (units : List ℕ) (i : ℕ) (all : List ℕ) → hex_first (drop i units) ≡ Some v
    → k ≡ (if nat_le n 9007199254740991 then n * 16 + v else n) → HexSoFar n (drop i units) all
    → HexSoFar k (drop (i + 1) units) all
unfolding hex_capped_from
hex_more n k v units i all e a s =
    let d = hex_digit (drop i units) v e in
    let f : drop i units ≡ d.unit ∷ drop (i + 1) units = d.is ∙ ap (λ (x : List ℕ). d.unit ∷ x) (drop-drop 1 i units) in
    let m = unit_more is_hex_digit (drop i units) (drop (i + 1) units) d.unit f d.test in
    record {
      number = ap (λ x. hex_capped_from x (many (one_unit is_hex_digit) (drop (i + 1) units)).0)
          (a ∙ ap (λ w. if nat_le n 9007199254740991 then n * 16 + w else n) (sym d.value))
          ∙ (sym (ap (λ (x : List ℕ × List ℕ). hex_capped_from n x.0) m) ∙ s.number);
      rest = sym (ap (λ (x : List ℕ × List ℕ). x.1) m) ∙ s.rest;
    }

no_hex : (us : List ℕ) → hex_first us ≡ None → first_is is_hex_digit us ≡ false
unfolding hex_first
no_hex [] e = refl
no_hex (u ∷ us) e = by (is_hex_digit u) refl e where
  by : (b : Bool) → is_hex_digit u ≡ b → (if b then Some (hex_digit_value u) else None) ≡ None → is_hex_digit u ≡ false
  by true h e = absurd cc
  by false h e = h

pub hex_absent : (us : List ℕ) → hex_first us ≡ None → some_digits is_hex_digit us ≡ None
hex_absent us e = no_digits is_hex_digit us (no_hex us e)

hex_stop : (us : List ℕ) → hex_first us ≡ None → many (one_unit is_hex_digit) us ≡ ([], us)
hex_stop [] e = unit_end is_hex_digit [] refl
hex_stop (u ∷ us) e = unit_stop is_hex_digit (u ∷ us) us u refl (no_hex (u ∷ us) e)

data HexCapped (n m : ℕ) : Type 0 where
  hex_whole : n ≡ m → HexCapped n m
  hex_large : 9007199254740991 < n → n ≤ m → HexCapped n m

hex_capped_is : (us : List ℕ) (n m : ℕ) → HexCapped n m → HexCapped (hex_capped_from n us) (hex_from m us)
unfolding hex_capped_from
hex_capped_is [] n m c = c
hex_capped_is (u ∷ us) n m c =
    hex_capped_is us (if nat_le n 9007199254740991 then n * 16 + hex_digit_value u else n) (m * 16 + hex_digit_value u)
    (by c (leb_tells n 9007199254740991)) where
      by : HexCapped n m → ((nat_le n 9007199254740991 ≡ true) × (n ≤ 9007199254740991))
          ⊎ ((nat_le n 9007199254740991 ≡ false) × (9007199254740991 < n))
          → HexCapped (if nat_le n 9007199254740991 then n * 16 + hex_digit_value u else n) (m * 16 + hex_digit_value u)
      by (hex_whole e) (inl h) = rw (h.0) (hex_whole (ap (λ k. k * 16 + hex_digit_value u) e))
      by (hex_whole e) (inr h) = rw (h.0) (hex_large h.1 (omega arith))
      by (hex_large a b) (inl h) = absurd (omega (arith, h.1))
      by (hex_large a b) (inr h) = rw (h.0) (hex_large h.1 (omega arith))

plain_value : (n : ℕ) → if_number n ≡ value_of n 0 0
unfolding if_number
plain_value n = by (leb_tells n 9007199254740991) where
  by : ((nat_le n 9007199254740991 ≡ true) × (n ≤ 9007199254740991))
      ⊎ ((nat_le n 9007199254740991 ≡ false) × (9007199254740991 < n))
      → (if nat_le n 9007199254740991 then Some n else None) ≡ value_of n 0 0
  by (inl h) = rw (h.0) (from_value n 0 0 n (Some n) refl (record { exact = refl; inside = h.1 }))
  by (inr h) = rw (h.0) (from_none n 0 0 None refl (λ k v. let e = v.exact in let i = v.inside in
      let a : k ≡ n = omega arith in absurd (omega (arith, h.1))))

hex_value : (ds : List ℕ) → if_number (hex_capped_from 0 ds) ≡ value_of (hex_from 0 ds) 0 0
unfolding if_number
hex_value ds = by (hex_capped_is ds 0 0 (hex_whole refl)) where
  by : HexCapped (hex_capped_from 0 ds) (hex_from 0 ds) → if_number (hex_capped_from 0 ds)
      ≡ value_of (hex_from 0 ds) 0 0
  by (hex_whole e) = ap if_number e ∙ plain_value (hex_from 0 ds)
  by (hex_large a b) = rw (over (hex_capped_from 0 ds) a)
      (rw (← plain_value (hex_from 0 ds)) (rw (over (hex_from 0 ds) (omega arith)) refl))

pub hex_ends : (units : List ℕ) (at end n v : ℕ) (w : Option ℕ) (us : List ℕ) → hex_first (drop at units) ≡ Some v
    → hex_first (drop end units) ≡ None → w ≡ if_number n → at ≤ end → end ≤ length units
    → HexSoFar n (drop end units) (drop at units)
    → NumeralFrom units at (record { value = w; end = end }) (hex_literal us (some_digits is_hex_digit (drop at units)))
unfolding some_digits hex_literal hex_capped_from
hex_ends units at end n v w us e f q a b s =
    let d = hex_digit (drop at units) v e in
    let m = hex_stop (drop end units) f in
    let g : first_is is_hex_digit (drop at units) ≡ true = ap (first_is is_hex_digit) d.is ∙ d.test in
    let r = sym (ap (λ (x : List ℕ × List ℕ). x.1) m) ∙ s.rest in
    let k : n ≡ hex_capped_from 0 (many (one_unit is_hex_digit) (drop at units)).0 =
    sym (ap (λ (x : List ℕ × List ℕ). hex_capped_from n x.0) m) ∙ s.number in
    rw g (q ∙ (ap if_number k ∙ hex_value (many (one_unit is_hex_digit) (drop at units)).0), r, a, b)

-- what a literal begins with
pub zero_plain : (us : List ℕ) → false ≡ first_is (λ x. x == 120 || x == 88) us
    → after_zero us ≡ after_whole (48 ∷ []) us
unfolding after_zero
zero_plain [] h = refl
zero_plain (x ∷ us) h = rw (sym h) refl

hex_list : (us : List ℕ) → true ≡ first_is (λ x. x == 120 || x == 88) us
    → after_zero us ≡ hex_literal us (some_digits is_hex_digit (drop 1 us))
unfolding after_zero
hex_list [] h = absurd cc
hex_list (x ∷ us) h = rw (sym h) refl

pub zero_hex : (units : List ℕ) (i : ℕ) → true ≡ first_is (λ x. x == 120 || x == 88) (drop i units)
    → after_zero (drop i units) ≡ hex_literal (drop i units) (some_digits is_hex_digit (drop (i + 1) units))
zero_hex units i h = hex_list (drop i units) h
    ∙ ap (λ (x : List ℕ). hex_literal (drop i units) (some_digits is_hex_digit x)) (drop-drop 1 i units)

pub zero_no_hex : (units : List ℕ) (i : ℕ) → true ≡ first_is (λ x. x == 120 || x == 88) (drop i units)
    → some_digits is_hex_digit (drop (i + 1) units) ≡ None → after_zero (drop i units)
    ≡ after_whole (48 ∷ []) (drop i units)
unfolding hex_literal
zero_no_hex units i h e = zero_hex units i h ∙ ap (hex_literal (drop i units)) e

pub begin_zero : (u : ℕ) (us : List ℕ) → u ≡ 48 → numeral u us ≡ after_zero us
unfolding numeral
begin_zero u us e = rw e refl

pub begin_point : (u : ℕ) (us : List ℕ) → u ≡ 46 → numeral u us ≡ after_fraction [] (many (one_unit is_digit) us)
unfolding numeral
begin_point u us e = rw e refl

pub begin_digit : (u : ℕ) (us : List ℕ) → (u ≡ 48 → ⊥) → (u ≡ 46 → ⊥) → is_digit u ≡ true
    → numeral u us ≡ after_whole (u ∷ (many (one_unit is_digit) us).0) (many (one_unit is_digit) us).1
unfolding numeral from_whole
begin_digit u us a b d = rw (other_unit u 48 a, other_unit u 46 b, unit_more is_digit (u ∷ us) us u refl d) refl

pub digit_first : (u : ℕ) (us : List ℕ) → (is_digit u || (u == 46 && first_is is_digit us)) ≡ true → (u ≡ 46 → ⊥)
    → is_digit u ≡ true
digit_first u us h n = by (or_cases (is_digit u) (u == 46 && first_is is_digit us) h) where
  by : (is_digit u ≡ true) ⊎ ((u == 46 && first_is is_digit us) ≡ true) → is_digit u ≡ true
  by (inl d) = d
  by (inr a) = absurd (n (is_unit u 46 (and_true (u == 46) (first_is is_digit us) a).0))

pub first_stands : (u c z e y : ℕ) (us : List ℕ) → is_digit u ≡ true → ◌≡◌ {A = ℕ × ℕ} (c, z) (add_digit u (0, 0))
    → ◌≡◌ {A = ℕ × ℕ} (e, y) (add_digits (c, z) (many (one_unit is_digit) us).0)
    → Stands e y (decimal_from 0 (u ∷ (many (one_unit is_digit) us).0))
first_stands u c z e y us h a b =
    let s = add_digit_stands u 0 0 0 h none_stands in
    let t = subst (λ (x : ℕ × ℕ). Stands x.0 x.1 (0 * 10 + (u - 48))) (sym a) s in
    let d = digits_stand (units_row is_digit us) c z (0 * 10 + (u - 48)) t in
    subst (λ (x : ℕ × ℕ). Stands x.0 x.1 (decimal_from (0 * 10 + (u - 48)) (many (one_unit is_digit) us).0)) (sym b) d

pub first_zeros : (u c z : ℕ) → (u ≡ 48 → ⊥) → ◌≡◌ {A = ℕ × ℕ} (c, z) (add_digit u (0, 0)) → z ≡ 0
unfolding add_digit
first_zeros u c z n e = (let h = other_unit u 48 n in
    let q : ◌≡◌ {A = ℕ × ℕ} (c, z) (if u == 48 then (0, 0) else (scale 0 (0 + 1) + (u - 48), 0)) = e in
    ap (λ (x : ℕ × ℕ). x.1) q ∙ (rw h refl))

-- what a literal comes to
pub number_digit : (units : List ℕ) (low : ℕ) (n : Numeral) (x : ℕ × ℕ × ℕ × List ℕ) → NumeralFrom units low n x
    → true ≡ first_is is_digit (drop n.end units) → number_end x ≡ bad faults.BadNumber
unfolding number_end
number_digit units low n (m, r, l, rest) f h = rw (subst (λ (w : List ℕ). first_is is_digit w ≡ true) f.1 (sym h)) refl

pub number_letter : (units : List ℕ) (low : ℕ) (n : Numeral) (x : ℕ × ℕ × ℕ × List ℕ) (y : (ℕ × Bool) × List ℕ)
    → NumeralFrom units low n x → letter is_identifier_start (drop n.end units) ≡ Some y
    → number_end x ≡ bad faults.BadNumber
unfolding number_end is_some_of
number_letter units low n (m, r, l, rest) y f h =
    rw (subst (λ (w : List ℕ). letter is_identifier_start w ≡ Some y) f.1 h, either (first_is is_digit rest)) refl where
      either : (b : Bool) → (b || true) ≡ true
      either true = refl
      either false = refl

number_goes_on : (units : List ℕ) (low : ℕ) (n : Numeral) (m r l : ℕ) (rest : List ℕ)
    → NumeralFrom units low n (m, r, l, rest) → false ≡ first_is is_digit (drop n.end units)
    → letter is_identifier_start (drop n.end units) ≡ None → number_end (m, r, l, rest)
    ≡ number_of rest (value_of m r l)
unfolding number_end is_some_of
number_goes_on units low n m r l rest f h g =
    rw (
      subst (λ (w : List ℕ). first_is is_digit w ≡ false) f.1 (sym h),
      subst (λ (w : List ℕ). letter is_identifier_start w ≡ None) f.1 g,
    ) refl

pub number_none : (units : List ℕ) (low : ℕ) (n : Numeral) (x : ℕ × ℕ × ℕ × List ℕ) → NumeralFrom units low n x
    → false ≡ first_is is_digit (drop n.end units) → letter is_identifier_start (drop n.end units) ≡ None
    → n.value ≡ None → number_end x ≡ bad faults.BadNumber
unfolding number_of
number_none units low n (m, r, l, rest) f h g e = number_goes_on units low n m r l rest f h g
    ∙ ap (number_of rest) (sym f.0 ∙ e)

pub number_some : (units : List ℕ) (low : ℕ) (n : Numeral) (x : ℕ × ℕ × ℕ × List ℕ) (v : ℕ) (made : Option ℤ)
    → NumeralFrom units low n x → false ≡ first_is is_digit (drop n.end units)
    → letter is_identifier_start (drop n.end units) ≡ None → n.value ≡ Some v → made ≡ Some (pos v)
    → number_end x ≡ found (Word (kinds.Number made)) (drop n.end units)
unfolding number_of
number_some units low n (m, r, l, rest) v made f h g e q = number_goes_on units low n m r l rest f h g
    ∙ (ap (number_of rest) (sym f.0 ∙ e) ∙ (ap (λ (w : Option ℤ). found (Word (kinds.Number w)) rest) (sym q)
    ∙ ap (λ (w : List ℕ). found (Word (kinds.Number made)) w) (sym f.1)))

pub number_small : (units : List ℕ) (low : ℕ) (n : Numeral) (x : ℕ × ℕ × ℕ × List ℕ) (v : ℕ) → NumeralFrom units low n x
    → n.value ≡ Some v → v ≤ 9007199254740991
number_small units low n (m, r, l, rest) v f e = (value_sound m r l v (sym f.0 ∙ e)).inside
