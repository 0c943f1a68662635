-- The reader of a numeric literal finds the longest one.
use Rattle.std.proofs.Common.{◌≡◌, refl, sym, ap, subst, ℕ, ◌+◌, ◌<◌, ◌≤◌, ◌⊎◌, inl, inr, Bool, true, false, ◌&&◌, ◌||◌}
use Rattle.std.proofs.Common.{◌==◌, List, [], ◌∷◌, ◌++◌, length, Option, Some, None, if◌then◌else◌, arith, zero-add}
use Rattle.jl_token.specs.Characters.{is_digit, is_hex_digit, decimal_from, first_is}
use Rattle.jl_token.specs.Elements.{Many, no_more, one_more, OneUnit, unit, Digits, digits as some, WholeDigits}
use Rattle.jl_token.specs.Elements.{zero_digit, nonzero, Exponent, no_exponent, no_sign, plus, minus, Numeral, whole}
use Rattle.jl_token.specs.Elements.{with_point, from_point, hex}
use Rattle.jl_token.specs.inner.Scanner.{many, with_first, one_unit, some_digits, exponent_powers, exponent_by}
use Rattle.jl_token.specs.inner.Scanner.{exponent_sign, exponent, with_exponent, after_fraction, after_whole}
use Rattle.jl_token.specs.inner.Scanner.{hex_literal, after_zero, from_whole, numeral}
use Rattle.jl_token.proofs.Rows.{prepend, many_step, many_complete, many_whole, many_sound}
use Rattle.jl_token.proofs.Tests.{or_cases, or_false, and_true, true_or_false, never_both, is_unit}
use Rattle.jl_token.proofs.Units.{units, digits}
use Rattle.jl_token.proofs.Parts.{Holds, test, just, nothing, reads_unit}

-- a fact of both choices is one of the choice
pub choose : {A : Type 0} (P : A → Type 0) (b : Bool) (x y : A) → (b ≡ true → P x) → (b ≡ false → P y)
    → P (if b then x else y)
choose P true x y f g = f refl
choose P false x y f g = g refl

-- rows of parts get no longer
pub row_shorter : {A : Type 0} {One : List ℕ → A → List ℕ → Type 0} {us rest : List ℕ} {xs : List A}
    → ((us : List ℕ) (a : A) (rest : List ℕ) → One us a rest → length rest < length us) → Many One us xs rest
    → length rest ≤ length us
row_shorter s no_more = omega arith
row_shorter s (one_more {us} {mid} {rest} {a} o m) = let i = row_shorter s m in let h = s us a mid o in omega arith

module _ (p : ℕ → Bool) where
  pub units_row : (us : List ℕ) → Many (OneUnit p) us (many (one_unit p) us).0 (many (one_unit p) us).1
  units_row us = (many_sound (OneUnit p) (one_unit p) (reads_unit p) us).row

  pub units_shorter : (us : List ℕ) → length (many (one_unit p) us).1 ≤ length us
  units_shorter us = row_shorter (reads_unit p).shorter (units_row us)

  pub unit_step : (u : ℕ) (us : List ℕ) → p u ≡ true → many (one_unit p) (u ∷ us) ≡ with_first u (many (one_unit p) us)
  unit_step u us h = many_step (OneUnit p) (one_unit p) (reads_unit p) (u ∷ us) u us
      ((reads_unit p).complete (u ∷ us) u us (unit h))

  not_first : (us : List ℕ) → first_is p us ≡ false → one_unit p us ≡ None
  unfolding one_unit
  not_first [] h = refl
  not_first (u ∷ us) h = rw h refl

  -- either the row can be longer, or it is the one that is found
  pub data Against (us ds rest : List ℕ) : Type 0 where
    longer : first_is p rest ≡ true → length (many (one_unit p) us).1 < length rest → Against us ds rest
    same : many (one_unit p) us ≡ (ds, rest) → Against us ds rest

  prepend_rest : (ds : List ℕ) (x : List ℕ × List ℕ) → (prepend ds x).1 ≡ x.1
  unfolding prepend
  prepend_rest [] x = refl
  prepend_rest (d ∷ ds) x = prepend_rest ds x

  pub goes_on : (rest : List ℕ) → first_is p rest ≡ true → length (many (one_unit p) rest).1 < length rest
  goes_on [] h = absurd cc
  goes_on (u ∷ us) h = rw (unit_step u us h) (let i = units_shorter us in omega arith)

  pub against : {us ds rest : List ℕ} → Many (OneUnit p) us ds rest → Against us ds rest
  against {us} {ds} {rest} m = elim (true_or_false (first_is p rest)) [
    | inl h ↦ longer h (rw (
      many_complete (OneUnit p) (one_unit p) (reads_unit p) m,
      prepend_rest ds (many (one_unit p) rest),
    ) (goes_on rest h))
    | inr h ↦ same (many_whole (OneUnit p) (one_unit p) (reads_unit p) m (not_first rest h))
  ]

  pub as_row : {us ds rest : List ℕ} → Digits p us ds rest → Many (OneUnit p) us ds rest
  as_row (some o m) = one_more o m

  pub first_of : {us ds rest : List ℕ} → Digits p us ds rest → first_is p us ≡ true
  first_of (some (unit h) m) = h

  found_digits : {us ds rest : List ℕ} → Digits p us ds rest → some_digits p us ≡ Some (many (one_unit p) us)
  unfolding some_digits
  found_digits {us} d = rw (first_of d) refl

  digits_row : (us : List ℕ) → first_is p us ≡ true → Digits p us (many (one_unit p) us).0 (many (one_unit p) us).1
  digits_row [] h = absurd cc
  digits_row (u ∷ us) h = rw (unit_step u us h) (some (unit h) (units_row us))

  digits_sound : (us : List ℕ) → Holds (some_digits p us) (Digits p us)
  unfolding some_digits
  digits_sound us = test (first_is p us) _ _ (λ h. just (digits_row us h)) (λ h. nothing)

-- exponents
abbrev IsExponent : List ℕ → ℕ × ℕ × List ℕ → Type 0
IsExponent us x = Exponent us x.0 x.1 x.2

by_sound : (us more : List ℕ) (lowers : Bool) (o : Option (List ℕ × List ℕ)) → Holds o (Digits is_digit more)
    → ((ds rest : List ℕ) → Digits is_digit more ds rest → IsExponent us (exponent_powers lowers (ds, rest)))
    → IsExponent us (exponent_by us lowers o)
unfolding exponent_by
by_sound us more lowers None h make = no_exponent
by_sound us more lowers (Some (ds, rest)) h make = make ds rest h.has

sign_sound : (e : ℕ) (us : List ℕ) → (e == 101 || e == 69) ≡ true → IsExponent (e ∷ us) (exponent_sign (e ∷ us) us)
unfolding exponent_sign exponent_powers
sign_sound e [] h = no_exponent
sign_sound e (s ∷ us) h = choose (IsExponent (e ∷ s ∷ us)) (s == 43) _ _
    (λ k. by_sound (e ∷ s ∷ us) us false (some_digits is_digit us) (digits_sound is_digit us)
    (λ ds rest d. subst (λ w. Exponent (e ∷ w ∷ us) (decimal_from 0 ds) 0 rest) (sym (is_unit s 43 k)) (plus h d)))
    (λ n. choose (IsExponent (e ∷ s ∷ us)) (s == 45) _ _
    (λ k. by_sound (e ∷ s ∷ us) us true (some_digits is_digit us) (digits_sound is_digit us)
    (λ ds rest d. subst (λ w. Exponent (e ∷ w ∷ us) 0 (decimal_from 0 ds) rest) (sym (is_unit s 45 k)) (minus h d)))
    (λ k. by_sound (e ∷ s ∷ us) (s ∷ us) false (some_digits is_digit (s ∷ us)) (digits_sound is_digit (s ∷ us))
    (λ ds rest d. no_sign h d)))

exponent_sound : (us : List ℕ) → IsExponent us (exponent us)
unfolding exponent
exponent_sound [] = no_exponent
exponent_sound (e ∷ us) = choose (IsExponent (e ∷ us)) (e == 101 || e == 69) _ _ (sign_sound e us) (λ h. no_exponent)

-- an exponent that is told of takes something, or is none
data Taken (us : List ℕ) (r l : ℕ) (rest : List ℕ) : Type 0 where
  some_units : length rest < length us → Taken us r l rest
  no_units : r ≡ 0 → l ≡ 0 → rest ≡ us → Taken us r l rest

taken : {us rest : List ℕ} {r l : ℕ} → Exponent us r l rest → Taken us r l rest
taken no_exponent = no_units refl refl refl
taken (no_sign h d) = let i = row_shorter (reads_unit is_digit).shorter (as_row is_digit d) in some_units (omega arith)
taken (plus h d) = let i = row_shorter (reads_unit is_digit).shorter (as_row is_digit d) in some_units (omega arith)
taken (minus h d) = let i = row_shorter (reads_unit is_digit).shorter (as_row is_digit d) in some_units (omega arith)

exponent_shorter : (us : List ℕ) → length (exponent us).2 ≤ length us
exponent_shorter us = elim (taken (exponent_sound us)) [
  | some_units h ↦ omega arith
  | no_units a b e
      ↦ omega (arith, ap length e)
]

-- what is found against what is told of: it is longer, or the same
pub data ExponentAgainst (x : ℕ × ℕ × List ℕ) (r l : ℕ) (rest : List ℕ) : Type 0 where
  longer_exponent : length x.2 < length rest → ExponentAgainst x r l rest
  same_exponent : x ≡ (r, l, rest) → ExponentAgainst x r l rest

tuple3 : (x : ℕ × ℕ × List ℕ) (r l : ℕ) (rest : List ℕ) → x.0 ≡ r → x.1 ≡ l → x.2 ≡ rest → x ≡ (r, l, rest)
tuple3 (a, b, c) r l rest e f g = rw (e, f, g) refl

raised_against : (all us ds rest : List ℕ) (lowers : Bool) → Digits is_digit us ds rest
    → ExponentAgainst (exponent_by all lowers (some_digits is_digit us)) (exponent_powers lowers (ds, rest)).0
    (exponent_powers lowers (ds, rest)).1 rest
unfolding exponent_by exponent_powers
raised_against all us ds rest false d = rw (found_digits is_digit d) (elim (against is_digit (as_row is_digit d)) [
  | longer h l ↦ longer_exponent l
  | same e ↦ same_exponent (rw e refl)
])
raised_against all us ds rest true d = rw (found_digits is_digit d) (elim (against is_digit (as_row is_digit d)) [
  | longer h l ↦ longer_exponent l
  | same e ↦ same_exponent (rw e refl)
])

-- a unit that isn't an exponent's letter begins no exponent
none_before : (u : ℕ) (us rest : List ℕ) (r l : ℕ) → (u == 101 || u == 69) ≡ false → Exponent (u ∷ us) r l rest
    → (r ≡ 0) × (l ≡ 0) × (rest ≡ u ∷ us)
none_before u us rest r l h no_exponent = (refl, refl, refl)
none_before u us rest r l h (no_sign g d) = absurd (never_both _ g h)
none_before u us rest r l h (plus g d) = absurd (never_both _ g h)
none_before u us rest r l h (minus g d) = absurd (never_both _ g h)

-- nor does a digit
none_at_digit : (us rest : List ℕ) (r l : ℕ) → first_is is_digit us ≡ true → Exponent us r l rest → rest ≡ us
none_at_digit [] rest r l h e = absurd cc
none_at_digit (u ∷ us) rest r l h e = (none_before u us rest r l (digits u h).mark e).2

no_exponent_found : (us : List ℕ) → ExponentAgainst (exponent us) 0 0 us
no_exponent_found us = elim (taken (exponent_sound us)) [
  | some_units h ↦ longer_exponent h
  | no_units a b e
      ↦ same_exponent (tuple3 (exponent us) 0 0 us a b e)
]

unsigned_against : (e : ℕ) (us ds rest : List ℕ) → (e == 101 || e == 69) ≡ true → Digits is_digit us ds rest
    → ExponentAgainst (exponent (e ∷ us)) (decimal_from 0 ds) 0 rest
unfolding exponent exponent_sign exponent_powers
unsigned_against e [] ds rest h d = absurd (never_both _ (first_of is_digit d) refl)
unsigned_against e (s ∷ us) ds rest h d =
    let g = or_false (s == 43) (s == 45) (digits s (first_of is_digit d)).sign in
    rw (h, g.0, g.1) (raised_against (e ∷ s ∷ us) (s ∷ us) ds rest false d)

exponent_against : {us rest : List ℕ} {r l : ℕ} → Exponent us r l rest → ExponentAgainst (exponent us) r l rest
unfolding exponent exponent_sign exponent_powers
exponent_against {us} no_exponent = no_exponent_found us
exponent_against (no_sign {e} {us} {ds} {rest} h d) = unsigned_against e us ds rest h d
exponent_against (plus {e} {us} {ds} {rest} h d) = rw h (raised_against (e ∷ 43 ∷ us) us ds rest false d)
exponent_against (minus {e} {us} {ds} {rest} h d) = rw h (raised_against (e ∷ 45 ∷ us) us ds rest true d)

-- literals
abbrev pub IsNumeral : List ℕ → ℕ × ℕ × ℕ × List ℕ → Type 0
IsNumeral us x = Numeral us x.0 x.1 x.2 x.3

whole_sound : (us ds mid : List ℕ) → WholeDigits us ds mid → IsNumeral us (with_exponent ds 0 (exponent mid))
unfolding with_exponent
whole_sound us ds mid w = rw (zero-add) (whole w (exponent_sound mid))

after_whole_sound : (us ds mid : List ℕ) → WholeDigits us ds mid → IsNumeral us (after_whole ds mid)
unfolding after_whole after_fraction with_exponent
after_whole_sound us ds [] w = whole_sound us ds [] w
after_whole_sound us ds (u ∷ mid) w = choose (IsNumeral us) (u == 46) _ _
    (λ h. with_point (subst (λ v. WholeDigits us ds (v ∷ mid)) (is_unit u 46 h) w) (units_row is_digit mid)
    (exponent_sound (many (one_unit is_digit) mid).1))
    (λ h. whole_sound us ds (u ∷ mid) w)

hex_sound : (x : ℕ) (us : List ℕ) → (x == 120 || x == 88) ≡ true → (o : Option (List ℕ × List ℕ))
    → Holds o (Digits is_hex_digit us) → IsNumeral (48 ∷ x ∷ us) (hex_literal (x ∷ us) o)
unfolding hex_literal
hex_sound x us h None d = after_whole_sound (48 ∷ x ∷ us) (48 ∷ []) (x ∷ us) zero_digit
hex_sound x us h (Some (ds, rest)) d = hex h d.has

zero_sound : (us : List ℕ) → IsNumeral (48 ∷ us) (after_zero us)
unfolding after_zero
zero_sound [] = after_whole_sound (48 ∷ []) (48 ∷ []) [] zero_digit
zero_sound (x ∷ us) = choose (IsNumeral (48 ∷ x ∷ us)) (x == 120 || x == 88) _ _
    (λ h. hex_sound x us h (some_digits is_hex_digit us) (digits_sound is_hex_digit us))
    (λ h. after_whole_sound (48 ∷ x ∷ us) (48 ∷ []) (x ∷ us) zero_digit)

-- where a literal begins
abbrev pub begins_number : ℕ → List ℕ → Bool
begins_number u us = is_digit u || (u == 46 && first_is is_digit us)

pub numeral_sound : (u : ℕ) (us : List ℕ) → (is_digit u || (u == 46 && first_is is_digit us)) ≡ true
    → IsNumeral (u ∷ us) (numeral u us)
unfolding numeral after_fraction with_exponent from_whole
numeral_sound u us h = choose (IsNumeral (u ∷ us)) (u == 48) _ _
    (λ e. subst (λ v. IsNumeral (v ∷ us) (after_zero us)) (sym (is_unit u 48 e)) (zero_sound us))
    (λ z. choose (IsNumeral (u ∷ us)) (u == 46) _ _
    (λ e. point e (or_cases (is_digit u) (u == 46 && first_is is_digit us) h))
    (λ e. from (or_cases (is_digit u) (u == 46 && first_is is_digit us) h) z e)) where
      point : (u == 46) ≡ true → (is_digit u ≡ true) ⊎ ((u == 46 && first_is is_digit us) ≡ true)
          → IsNumeral (u ∷ us) (after_fraction [] (many (one_unit is_digit) us))
      point e (inl d) = absurd (never_both (u == 46) e (digits u d).point)
      point e (inr a) = subst (λ v. IsNumeral (v ∷ us) (after_fraction [] (many (one_unit is_digit) us)))
          (sym (is_unit u 46 e))
          (from_point (digits_row is_digit us (and_true (u == 46) (first_is is_digit us) a).1)
          (exponent_sound (many (one_unit is_digit) us).1))

      from : (is_digit u ≡ true) ⊎ ((u == 46 && first_is is_digit us) ≡ true) → (u == 48) ≡ false → (u == 46) ≡ false
          → IsNumeral (u ∷ us) (from_whole (many (one_unit is_digit) (u ∷ us)))
      from (inl d) z e = after_whole_sound (u ∷ us) _ _ (nonzero z (digits_row is_digit (u ∷ us) d))
      from (inr a) z e = absurd (never_both (u == 46) (and_true (u == 46) (first_is is_digit us) a).0 e)

-- what is found against a literal that is told of
pub data NumeralAgainst (x : ℕ × ℕ × ℕ × List ℕ) (m r l : ℕ) (rest : List ℕ) : Type 0 where
  longer_numeral : length x.3 < length rest → NumeralAgainst x m r l rest
  same_numeral : x ≡ (m, r, l, rest) → NumeralAgainst x m r l rest

with_against : (ds : List ℕ) (n : ℕ) (x : ℕ × ℕ × List ℕ) (r l : ℕ) (rest : List ℕ) → ExponentAgainst x r l rest
    → NumeralAgainst (with_exponent ds n x) (decimal_from 0 ds) r (n + l) rest
unfolding with_exponent
with_against ds n x r l rest (longer_exponent h) = longer_numeral h
with_against ds n x r l rest (same_exponent e) = same_numeral (rw e refl)

pub fraction_rest : (ds : List ℕ) (x : List ℕ × List ℕ) → length (after_fraction ds x).3 ≤ length x.1
unfolding after_fraction with_exponent
fraction_rest ds x = exponent_shorter x.1

whole_rest : (ds us : List ℕ) → length (after_whole ds us).3 ≤ length us
unfolding after_whole with_exponent
whole_rest ds [] = exponent_shorter []
whole_rest ds (u ∷ us) = choose (λ (x : ℕ × ℕ × ℕ × List ℕ). length x.3 ≤ length (u ∷ us)) (u == 46) _ _
    (λ h. let a = fraction_rest ds (many (one_unit is_digit) us) in let b = units_shorter is_digit us in omega arith)
    (λ h. exponent_shorter (u ∷ us))

fraction_against : (ds : List ℕ) {mid fs end rest : List ℕ} {r l : ℕ} → Many (OneUnit is_digit) mid fs end
    → Exponent end r l rest → NumeralAgainst (after_fraction ds (many (one_unit is_digit) mid))
    (decimal_from 0 (ds ++ fs)) r (length fs + l) rest
unfolding after_fraction
fraction_against ds {mid} {fs} {end} {rest} {r} {l} m e = elim (against is_digit m) [
  | longer h g ↦ longer_numeral (let a = fraction_rest ds (many (one_unit is_digit) mid) in
      rw (none_at_digit end rest r l h e) (omega arith))
  | same q ↦ rw q (with_against (ds ++ fs) (length fs) (exponent end) r l rest (exponent_against e))
]

-- at the end of the whole part
whole_against : (ds mid rest : List ℕ) (r l : ℕ) → Exponent mid r l rest
    → NumeralAgainst (after_whole ds mid) (decimal_from 0 ds) r l rest
unfolding after_whole
whole_against ds [] rest r l e =
    subst (λ n. NumeralAgainst (with_exponent ds 0 (exponent [])) (decimal_from 0 ds) r n rest) (zero-add l)
    (with_against ds 0 (exponent []) r l rest (exponent_against e))
whole_against ds (u ∷ mid) rest r l e = choose (λ x. NumeralAgainst x (decimal_from 0 ds) r l rest) (u == 46) _ _
    (λ h. longer_numeral (let a = fraction_rest ds (many (one_unit is_digit) mid) in
    let b = units_shorter is_digit mid in
    rw (none_before u mid rest r l (subst (λ v. (v == 101 || v == 69) ≡ false) (sym (is_unit u 46 h)) refl) e).2
    (omega arith)))
    (λ h. subst (λ n. NumeralAgainst (with_exponent ds 0 (exponent (u ∷ mid))) (decimal_from 0 ds) r n rest)
    (zero-add l) (with_against ds 0 (exponent (u ∷ mid)) r l rest (exponent_against e)))

hex_rest : (x : ℕ) (us : List ℕ) (o : Option (List ℕ × List ℕ)) → Holds o (Digits is_hex_digit us)
    → ExponentAgainst (0, 0, x ∷ us) 0 0 (x ∷ us) → (x == 120 || x == 88) ≡ true → (rest : List ℕ) (r l : ℕ)
    → Exponent (x ∷ us) r l rest → NumeralAgainst (hex_literal (x ∷ us) o) (decimal_from 0 (48 ∷ [])) r l rest
unfolding hex_literal
hex_rest x us None d _ h rest r l e = whole_against (48 ∷ []) (x ∷ us) rest r l e
hex_rest x us (Some (ds, end)) d _ h rest r l e =
    longer_numeral (let i = row_shorter (reads_unit is_hex_digit).shorter (as_row is_hex_digit d.has) in
    rw (none_before x us rest r l (x_mark x h) e).2 (omega arith)) where
      x_mark : (x : ℕ) → (x == 120 || x == 88) ≡ true → (x == 101 || x == 69) ≡ false
      x_mark x h = elim (or_cases (x == 120) (x == 88) h) [
        | inl e ↦ subst (λ v. (v == 101 || v == 69) ≡ false) (sym (is_unit x 120 e)) refl
        | inr e ↦ subst (λ v. (v == 101 || v == 69) ≡ false) (sym (is_unit x 88 e)) refl
      ]

zero_against : (mid rest : List ℕ) (r l : ℕ) → Exponent mid r l rest
    → NumeralAgainst (after_zero mid) (decimal_from 0 (48 ∷ [])) r l rest
unfolding after_zero
zero_against [] rest r l e = whole_against (48 ∷ []) [] rest r l e
zero_against (x ∷ us) rest r l e =
    choose (λ y. NumeralAgainst y (decimal_from 0 (48 ∷ [])) r l rest) (x == 120 || x == 88) _ _
    (λ h. hex_rest x us (some_digits is_hex_digit us) (digits_sound is_hex_digit us) (same_exponent refl) h rest r l e)
    (λ h. whole_against (48 ∷ []) (x ∷ us) rest r l e)

-- digits of which the first isn't 0
nonzero_numeral : (u : ℕ) (us : List ℕ) → (u == 48) ≡ false → is_digit u ≡ true
    → numeral u us ≡ from_whole (many (one_unit is_digit) (u ∷ us))
unfolding numeral
nonzero_numeral u us z d = rw (z, (digits u d).point) refl

many_digits_against : (us ds mid rest : List ℕ) (r l : ℕ) → Many (OneUnit is_digit) us ds mid → Exponent mid r l rest
    → NumeralAgainst (from_whole (many (one_unit is_digit) us)) (decimal_from 0 ds) r l rest
unfolding from_whole
many_digits_against us ds mid rest r l m e = elim (against is_digit m) [
  | longer h g ↦ longer_numeral (let a = whole_rest (many (one_unit is_digit) us).0 (many (one_unit is_digit) us).1 in
      rw (none_at_digit mid rest r l h e) (omega arith))
  | same q ↦ rw q (whole_against ds mid rest r l e)
]

many_digits_point : (us ds mid : List ℕ) → Many (OneUnit is_digit) us ds (46 ∷ mid)
    → from_whole (many (one_unit is_digit) us) ≡ after_fraction ds (many (one_unit is_digit) mid)
unfolding from_whole after_whole units
many_digits_point us ds mid m = elim (against is_digit m) [ longer h g ↦ absurd cc | same q ↦ rw q refl ]

-- what is found at a row of units
abbrev pub found_numeral : List ℕ → ℕ × ℕ × ℕ × List ℕ
found_numeral [] = (0, 0, 0, [])
found_numeral (u ∷ us) = numeral u us

abbrev pub begins_at : List ℕ → Bool
begins_at [] = false
begins_at (u ∷ us) = is_digit u || (u == 46 && first_is is_digit us)

pub numeral_begins : {us rest : List ℕ} {m r l : ℕ} → Numeral us m r l rest → begins_at us ≡ true
unfolding units
numeral_begins (whole zero_digit e) = refl
numeral_begins (whole (nonzero z (some (unit h) m)) e) = rw h refl
numeral_begins (with_point zero_digit f e) = refl
numeral_begins (with_point (nonzero z (some (unit h) m)) f e) = rw h refl
numeral_begins (from_point {us} d e) = first_of is_digit d
numeral_begins (hex h d) = refl

pub numeral_against : {us rest : List ℕ} {m r l : ℕ} → Numeral us m r l rest
    → NumeralAgainst (found_numeral us) m r l rest
unfolding numeral after_zero after_whole hex_literal
numeral_against (whole {mid} {rest} {r} {l} zero_digit e) = zero_against mid rest r l e
numeral_against (whole {mid} {ds} {rest} {r} {l} (nonzero {u} {us} z d) e) =
    rw (nonzero_numeral u us z (first_of is_digit d))
    (many_digits_against (u ∷ us) ds mid rest r l (as_row is_digit d) e)
numeral_against (with_point {mid} zero_digit f e) = fraction_against (48 ∷ []) f e
numeral_against (with_point {mid} {ds} (nonzero {u} {us} z d) f e) =
    rw (nonzero_numeral u us z (first_of is_digit d), many_digits_point (u ∷ us) ds mid (as_row is_digit d))
    (fraction_against ds f e)
numeral_against (from_point d e) = fraction_against [] (as_row is_digit d) e
numeral_against (hex {x} {us} {ds} {rest} h d) =
    rw (h, found_digits is_hex_digit d) (elim (against is_hex_digit (as_row is_hex_digit d)) [
      | longer h l ↦ longer_numeral l
      | same e ↦ same_numeral (rw e refl)
    ])

-- what is found is the longest literal
pub numeral_longest : {us rest : List ℕ} {m r l : ℕ} → Numeral us m r l rest → length (found_numeral us).3 ≤ length rest
numeral_longest n = elim (numeral_against n) [ longer_numeral h ↦ omega arith | same_numeral e ↦ rw e (omega arith) ]
