-- What converts to another number than NaN is a literal by the productions.
use Rattle.std.proofs.Common.{◌≡◌, ◌≢◌, refl, sym, ap, ◌∙◌, subst, ℕ, ◌+◌, ◌<◌, Bool, true, false, not, ◌==◌, ◌&&◌}
use Rattle.std.proofs.Common.{◌||◌, cond, List, [], ◌∷◌, ◌++◌, length, get_or, drop, Option, Some, None, ◌⊎◌, inl, inr}
use Rattle.std.proofs.Common.{arith, append-nil, append_assoc, ⊎_elim}
use Rattle.std.proofs.lemmas.List.Folds.{list_all-append}
use Rattle.std.proofs.lemmas.List.Sums.{split_at_first, passes_at_first}
use Rattle.std.proofs.lemmas.Slice.Eq.{bytes_eq-Decides}
use Rattle.std.specs.Prelude.{if◌then◌else◌, codes}
use Rattle.std.specs.Str.{bytes_eq}
use Rattle.std.specs.List.{position_or_len, after_first, list_all, list_any}
use Rattle.jl_token.specs.Characters.{is_digit, is_hex_digit, decimal_from, first_is}
use Rattle.jl_token.specs.Elements.{Many, no_more, one_more, OneUnit, unit, Digits, Exponent, no_exponent, no_sign}
use Rattle.jl_token.specs.Elements as elements
use Rattle.jl_token.proofs.Tests.{true_or_false, and_true, is_unit, some_pair}
use Rattle.jl_conv.specs.Numerals.{trim, are_digits, raises, lowers, exponent_of, is_exponent_letter, is_point}
use Rattle.jl_conv.specs.Numerals.{significand, whole_part, fraction_part, exponent_part, parts_number, decimal_number}
use Rattle.jl_conv.specs.Numerals.{is_hexadecimal_letter, hexadecimal_number, literal_number, text_number}
use Rattle.jl_conv.specs.Literals.{Unsigned, whole, with_point, from_point, Literal, unsigned, infinity, plus_infinity}
use Rattle.jl_conv.specs.Literals.{minus_infinity, hexadecimal}
use Rattle.jl_conv.specs.Literals as literals
use Rattle.jl_conv.specs.Laws.{OnlyLiteralsHaveOne}
use Rattle.jl_conv.proofs.Splits.{both}
use Rattle.jl_conv.proofs.ReadBack.{all_before, nothing_after}
use Rattle.jl_conv.proofs.Literals.{none_position, unsigned_value}

-- ---- rows of digits

row_many : (p : ℕ → Bool) (ds rest : List ℕ) → list_all p ds ≡ true → Many (OneUnit p) (ds ++ rest) ds rest
row_many p [] rest h = no_more
row_many p (d ∷ ds) rest h = let a = both (p d) (list_all p ds) h in one_more (unit a.0) (row_many p ds rest a.1)

row_digits : (p : ℕ → Bool) (ds rest : List ℕ) → list_all p ds ≡ true → 0 < length ds → Digits p (ds ++ rest) ds rest
row_digits p [] rest h some = absurd (omega arith)
row_digits p (d ∷ ds) rest h some =
    let a = both (p d) (list_all p ds) h in elements.digits (unit a.0) (row_many p ds rest a.1)

whole_digits : (p : ℕ → Bool) (ds : List ℕ) → are_digits p ds ≡ true → Digits p ds ds []
whole_digits p [] h = absurd cc
whole_digits p (d ∷ ds) h =
    subst (λ v. Digits p v (d ∷ ds) []) (append-nil (d ∷ ds)) (row_digits p (d ∷ ds) [] h (omega arith))

-- ---- exponents

raises_sound : (us : List ℕ) (r l : ℕ) → raises us ≡ Some (r, l)
    → (are_digits is_digit us ≡ true) × (decimal_from 0 us ≡ r) × (0 ≡ l)
raises_sound us r l e = by_test (are_digits is_digit us) refl e
  where
    by_test : (t : Bool) → are_digits is_digit us ≡ t
        → ◌≡◌ {A = Option (ℕ × ℕ)} (if t then Some (decimal_from 0 us, 0) else None) (Some (r, l))
        → (are_digits is_digit us ≡ true) × (decimal_from 0 us ≡ r) × (0 ≡ l)
    by_test true h e = let x = some_pair e in (h, x.0, x.1)
    by_test false h e = absurd cc

lowers_sound : (us : List ℕ) (r l : ℕ) → lowers us ≡ Some (r, l)
    → (are_digits is_digit us ≡ true) × (0 ≡ r) × (decimal_from 0 us ≡ l)
lowers_sound us r l e = by_test (are_digits is_digit us) refl e
  where
    by_test : (t : Bool) → are_digits is_digit us ≡ t
        → ◌≡◌ {A = Option (ℕ × ℕ)} (if t then Some (0, decimal_from 0 us) else None) (Some (r, l))
        → (are_digits is_digit us ≡ true) × (0 ≡ r) × (decimal_from 0 us ≡ l)
    by_test true h e = let x = some_pair e in (h, x.0, x.1)
    by_test false h e = absurd cc

powers_are : (mid : List ℕ) (a b r l : ℕ) → a ≡ r → b ≡ l → Exponent mid a b [] → Exponent mid r l []
powers_are mid a b r l p q x =
    subst (λ k. Exponent mid r k []) q (subst (λ k. Exponent mid k b []) p x)

exponent_sound : (e : ℕ) (us : List ℕ) (r l : ℕ) → is_exponent_letter e ≡ true → exponent_of us ≡ Some (r, l)
    → Exponent (e ∷ us) r l []
exponent_sound e [] r l h is = absurd cc
exponent_sound e (u ∷ us) r l h is = by (true_or_false (u == 43)) (true_or_false (u == 45))
  where
    by : ((u == 43) ≡ true) ⊎ ((u == 43) ≡ false) → ((u == 45) ≡ true) ⊎ ((u == 45) ≡ false)
        → Exponent (e ∷ u ∷ us) r l []
    by (inl a) b =
        let x = raises_sound us r l (rw a at is) in
        subst (λ v. Exponent (e ∷ v ∷ us) r l []) (sym (is_unit u 43 a))
        (powers_are (e ∷ 43 ∷ us) (decimal_from 0 us) 0 r l x.1 x.2 (elements.plus h (whole_digits is_digit us x.0)))
    by (inr a) (inl b) =
        let x = lowers_sound us r l (rw (a, b) at is) in
        subst (λ v. Exponent (e ∷ v ∷ us) r l []) (sym (is_unit u 45 b))
        (powers_are (e ∷ 45 ∷ us) 0 (decimal_from 0 us) r l x.1 x.2 (elements.minus h (whole_digits is_digit us x.0)))
    by (inr a) (inr b) =
        let x = raises_sound (u ∷ us) r l (rw (a, b) at is) in
        powers_are (e ∷ u ∷ us) (decimal_from 0 (u ∷ us)) 0 r l x.1 x.2 (no_sign h (whole_digits is_digit (u ∷ us) x.0))

any_by : (t b : Bool) (n k : ℕ) → (b ≡ true → n < k) → (t || b) ≡ true → cond (not t) (1 + n) 0 < 1 + k
any_by true b n k f h = omega arith
any_by false b n k f h = let less = f h in omega arith

any_position : (p : ℕ → Bool) (xs : List ℕ) → list_any p xs ≡ true → position_or_len p xs < length xs
any_position p [] h = absurd cc
any_position p (x ∷ xs) h =
    let less = any_by (p x) (list_any p xs) (position_or_len p xs) (length xs) (any_position p xs) h in omega arith

record Ended (us : List ℕ) (r l : ℕ) : Type 0 where
  mid : List ℕ
  is : us ≡ significand us ++ mid
  exponent : Exponent mid r l []

ended : (us : List ℕ) (r l : ℕ) → exponent_part us ≡ Some (r, l) → Ended us r l
ended us r l e = by (true_or_false (list_any is_exponent_letter us))
  where
    by : (list_any is_exponent_letter us ≡ true) ⊎ (list_any is_exponent_letter us ≡ false) → Ended us r l
    by (inl h) =
        let at = any_position is_exponent_letter us h in
        let letter = get_or us (position_or_len is_exponent_letter us) 0 in
        record {
          mid = letter ∷ after_first is_exponent_letter us;
          is = split_at_first is_exponent_letter us 0 at;
          exponent = exponent_sound letter (after_first is_exponent_letter us) r l
              (passes_at_first is_exponent_letter us 0 at) (rw h at e);
        }
    by (inr h) =
        let x : ◌≡◌ {A = Option (ℕ × ℕ)} (Some (0, 0)) (Some (r, l)) = (rw h at e) in
        let y = some_pair x in
        record {
          mid = [];
          is = sym (append-nil (significand us)
              ∙ all_before is_exponent_letter us (none_position is_exponent_letter us h));
          exponent = powers_are [] 0 0 r l y.0 y.1 no_exponent;
        }

-- ---- unsigned literals

record IsUnsigned (us : List ℕ) : Type 0 where
  m : ℕ
  r : ℕ
  l : ℕ
  reads : Unsigned us m r l

some_units : (us : List ℕ) → are_digits is_digit us ≡ true → (list_all is_digit us ≡ true) × (0 < length us)
some_units [] h = absurd cc
some_units (u ∷ us) h = (h, omega arith)

pointed : (us sig mid ws fs : List ℕ) (r l : ℕ) → us ≡ sig ++ mid → Exponent mid r l [] → sig ≡ ws ++ 46 ∷ fs
    → are_digits is_digit (ws ++ fs) ≡ true → IsUnsigned us
pointed us sig mid [] fs r l is x split h =
    let a = some_units fs h in
    let all : us ≡ 46 ∷ (fs ++ mid) = is ∙ ap (λ v. v ++ mid) split in
    record {
      m = decimal_from 0 fs;
      r = r;
      l = length fs + l;
      reads = subst (λ v. Unsigned v (decimal_from 0 fs) r (length fs + l)) (sym all)
          (from_point (row_digits is_digit fs mid a.0 a.1) x);
    }
pointed us sig mid (w ∷ ws) fs r l is x split h =
    let a = both (list_all is_digit (w ∷ ws)) (list_all is_digit fs) (sym (list_all-append is_digit (w ∷ ws) fs) ∙ h) in
    let all : us ≡ (w ∷ ws) ++ 46 ∷ (fs ++ mid) =
    is ∙ ap (λ v. v ++ mid) split ∙ append_assoc (w ∷ ws) (46 ∷ fs) mid in
    record {
      m = decimal_from 0 ((w ∷ ws) ++ fs);
      r = r;
      l = length fs + l;
      reads = subst (λ v. Unsigned v (decimal_from 0 ((w ∷ ws) ++ fs)) r (length fs + l)) (sym all)
          (with_point (row_digits is_digit (w ∷ ws) (46 ∷ (fs ++ mid)) a.0 (omega arith)) (row_many is_digit fs mid a.1)
          x);
    }

unpointed : (us sig mid : List ℕ) (r l : ℕ) → us ≡ sig ++ mid → Exponent mid r l [] → are_digits is_digit sig ≡ true
    → IsUnsigned us
unpointed us sig mid r l is x h =
    let a = some_units sig h in
    record {
      m = decimal_from 0 sig;
      r = r;
      l = l;
      reads = subst (λ v. Unsigned v (decimal_from 0 sig) r l) (sym is) (whole (row_digits is_digit sig mid a.0 a.1) x);
    }

is_unsigned : (us : List ℕ) (r l : ℕ) → exponent_part us ≡ Some (r, l)
    → are_digits is_digit (whole_part us ++ fraction_part us) ≡ true → IsUnsigned us
is_unsigned us r l e h = by (true_or_false (list_any is_point (significand us)))
  where
    x : Ended us r l
    x = ended us r l e

    by : (list_any is_point (significand us) ≡ true) ⊎ (list_any is_point (significand us) ≡ false) → IsUnsigned us
    by (inl t) =
        let at = any_position is_point (significand us) t in
        let point = is_unit (get_or (significand us) (position_or_len is_point (significand us)) 0) 46
        (passes_at_first is_point (significand us) 0 at) in
        pointed us (significand us) x.mid (whole_part us) (fraction_part us) r l x.is x.exponent
        (split_at_first is_point (significand us) 0 at ∙ ap (λ v. whole_part us ++ v ∷ fraction_part us) point) h
    by (inr t) =
        let at = none_position is_point (significand us) t in
        let all : whole_part us ++ fraction_part us ≡ significand us =
        ap (λ v. v ++ fraction_part us) (all_before is_point (significand us) at)
        ∙ ap (λ v. significand us ++ v) (nothing_after is_point (significand us) at) ∙ append-nil (significand us) in
        unpointed us (significand us) x.mid r l x.is x.exponent (subst (λ v. are_digits is_digit v ≡ true) all h)

decimal_sound : (negative : Bool) (us : List ℕ) → decimal_number negative us ≢ Some None
    → (us ≡ codes "Infinity") ⊎ IsUnsigned us
decimal_sound negative us n = by (true_or_false (bytes_eq us (codes "Infinity")))
  where
    by_digits : (r l : ℕ) (t : Bool) → exponent_part us ≡ Some (r, l)
        → are_digits is_digit (whole_part us ++ fraction_part us) ≡ t
        → parts_number negative (whole_part us) (fraction_part us) (Some (r, l)) ≢ Some None → IsUnsigned us
    by_digits r l true e h k = is_unsigned us r l e h
    by_digits r l false e h k = absurd (k (rw h refl))

    by_exponent : (o : Option (ℕ × ℕ)) → exponent_part us ≡ o
        → parts_number negative (whole_part us) (fraction_part us) o ≢ Some None → IsUnsigned us
    by_exponent None e k = absurd (k refl)
    by_exponent (Some x) e k =
        by_digits x.0 x.1 (are_digits is_digit (whole_part us ++ fraction_part us)) e refl k

    by : (bytes_eq us (codes "Infinity") ≡ true) ⊎ (bytes_eq us (codes "Infinity") ≡ false)
        → (us ≡ codes "Infinity") ⊎ IsUnsigned us
    by (inl t) = inl ((bytes_eq-Decides us (codes "Infinity")).0 t)
    by (inr f) = inr (by_exponent (exponent_part us) refl (λ e. n (rw f e)))

-- ---- literals

plus_literal : (us : List ℕ) → decimal_number false us ≢ Some None → Literal (43 ∷ us) (decimal_number false us)
plus_literal us n =
    ⊎_elim
    (λ e. subst (λ v. Literal (43 ∷ v) (decimal_number false v)) (sym e) plus_infinity)
    (λ (x : IsUnsigned us). subst (Literal (43 ∷ us)) (sym (unsigned_value false x.reads)) (literals.plus x.reads))
    (decimal_sound false us n)

minus_literal : (us : List ℕ) → decimal_number true us ≢ Some None → Literal (45 ∷ us) (decimal_number true us)
minus_literal us n =
    ⊎_elim
    (λ e. subst (λ v. Literal (45 ∷ v) (decimal_number true v)) (sym e) minus_infinity)
    (λ (x : IsUnsigned us). subst (Literal (45 ∷ us)) (sym (unsigned_value true x.reads)) (literals.minus x.reads))
    (decimal_sound true us n)

unsigned_literal : (us : List ℕ) → decimal_number false us ≢ Some None → Literal us (decimal_number false us)
unsigned_literal us n =
    ⊎_elim
    (λ e. subst (λ v. Literal v (decimal_number false v)) (sym e) infinity)
    (λ (x : IsUnsigned us). subst (Literal us) (sym (unsigned_value false x.reads)) (unsigned x.reads))
    (decimal_sound false us n)

hexadecimal_literal : (us : List ℕ) → first_is is_hexadecimal_letter us ≡ true
    → hexadecimal_number (drop 1 us) ≢ Some None → Literal (48 ∷ us) (hexadecimal_number (drop 1 us))
hexadecimal_literal [] h n = absurd cc
hexadecimal_literal (x ∷ us) h n = by (true_or_false (are_digits is_hex_digit us))
  where
    by : (are_digits is_hex_digit us ≡ true) ⊎ (are_digits is_hex_digit us ≡ false)
        → Literal (48 ∷ x ∷ us) (hexadecimal_number us)
    by (inl t) = rw t (hexadecimal h (whole_digits is_hex_digit us t))
    by (inr f) = absurd (n (rw f refl))

is_literal : (us : List ℕ) → literal_number us ≢ Some None → us ≢ [] → Literal us (literal_number us)
is_literal [] n some = absurd (some refl)
is_literal (u ∷ us) n some =
    by (true_or_false (u == 43)) (true_or_false (u == 45))
    (true_or_false (u == 48 && first_is is_hexadecimal_letter us))
  where
    by : ((u == 43) ≡ true) ⊎ ((u == 43) ≡ false) → ((u == 45) ≡ true) ⊎ ((u == 45) ≡ false)
        → ((u == 48 && first_is is_hexadecimal_letter us) ≡ true)
        ⊎ ((u == 48 && first_is is_hexadecimal_letter us) ≡ false)
        → Literal (u ∷ us) (literal_number (u ∷ us))
    by (inl a) b c =
        rw a (subst (λ v. Literal (v ∷ us) (decimal_number false us)) (sym (is_unit u 43 a))
        (plus_literal us (λ e. n (rw a e))))
    by (inr a) (inl b) c =
        rw (a, b) (subst (λ v. Literal (v ∷ us) (decimal_number true us)) (sym (is_unit u 45 b))
        (minus_literal us (λ e. n (rw (a, b) e))))
    by (inr a) (inr b) (inl c) =
        let x = and_true (u == 48) (first_is is_hexadecimal_letter us) c in
        rw (a, b, c) (subst (λ v. Literal (v ∷ us) (hexadecimal_number (drop 1 us))) (sym (is_unit u 48 x.0))
        (hexadecimal_literal us x.1 (λ e. n (rw (a, b, c) e))))
    by (inr a) (inr b) (inr c) =
        rw (a, b, c) (unsigned_literal (u ∷ us) (λ e. n (rw (a, b, c) e)))

pub only_literals_have_one : OnlyLiteralsHaveOne
unfolding text_number
only_literals_have_one us n some = is_literal (trim us) n some
