-- The definition by parts, and the productions.
use Rattle.std.proofs.Common.{◌≡◌, refl, sym, ap, ◌∙◌, subst, ℕ, ◌+◌, ◌<◌, pos, Bool, true, false, ◌==◌, ◌&&◌, List, []}
use Rattle.std.proofs.Common.{◌∷◌, ◌++◌, length, take, drop, Option, Some, arith, append-nil, append_assoc}
use Rattle.std.proofs.Common.{length-append, ⊎_elim}
use Rattle.std.proofs.lemmas.List.{take_at, drop_at}
use Rattle.std.proofs.lemmas.List.Folds.{list_all-append, list_any-append}
use Rattle.std.specs.Prelude.{codes}
use Rattle.std.specs.Str.{bytes_eq}
use Rattle.std.specs.List.{position_or_len, before_first, after_first, list_all, list_any}
use Rattle.jl_num.specs.Number.{Number}
use Rattle.jl_num.specs.Arithmetic.{number_of}
use Rattle.jl_token.specs.Characters.{is_digit, decimal_from, hex_from, first_is}
use Rattle.jl_token.specs.Elements.{Many, no_more, one_more, OneUnit, unit, Digits, Exponent, no_exponent, no_sign}
use Rattle.jl_token.specs.Elements as elements
use Rattle.jl_token.proofs.Tests.{or_cases, or_false, is_unit}
use Rattle.jl_token.proofs.Units.{digits}
use Rattle.jl_conv.specs.Numerals.{are_digits, raises, lowers, exponent_of, is_exponent_letter, is_point, significand}
use Rattle.jl_conv.specs.Numerals.{whole_part, fraction_part, exponent_part, parts_number, decimal_number, exact_value}
use Rattle.jl_conv.specs.Numerals.{is_hexadecimal_letter, literal_number, text_number}
use Rattle.jl_conv.specs.Literals.{Unsigned, whole, with_point, from_point, Literal, unsigned, infinity, plus_infinity}
use Rattle.jl_conv.specs.Literals.{minus_infinity, hexadecimal}
use Rattle.jl_conv.specs.Literals as literals
use Rattle.jl_conv.specs.Laws.{LiteralsHaveTheirValue}
use Rattle.jl_conv.proofs.Splits.{both, passes_at, some_passes, none_passes}
use Rattle.jl_conv.proofs.ReadBack.{no_letter, no_point, all_before, nothing_after, no_capital}

-- ---- rows of digits

many_row : {p : ℕ → Bool} {us ds rest : List ℕ} → Many (OneUnit p) us ds rest → (us ≡ ds ++ rest)
    × (list_all p ds ≡ true)
many_row no_more = (refl, refl)
many_row (one_more {a = u} (unit t) m) = let x = many_row m in (ap (λ vs. u ∷ vs) x.0, rw t x.1)

-- digits, and nothing else
alone : (p : ℕ → Bool) (ds : List ℕ) → list_all p ds ≡ true → 0 < length ds → are_digits p ds ≡ true
alone p [] all some = absurd (omega arith)
alone p (d ∷ ds) all some = all

record Row (p : ℕ → Bool) (us ds rest : List ℕ) : Type 0 where
  is : us ≡ ds ++ rest
  all : list_all p ds ≡ true
  some : 0 < length ds

digits_row : {p : ℕ → Bool} {us ds rest : List ℕ} → Digits p us ds rest → Row p us ds rest
digits_row (elements.digits {d = u} (unit t) m) =
    let x = many_row m in record { is = ap (λ vs. u ∷ vs) x.0; all = rw t x.1; some = omega arith }

-- ---- an exponent, or none

data Tail (mid : List ℕ) (r l : ℕ) : Type 0 where
  empty : mid ≡ [] → r ≡ 0 → l ≡ 0 → Tail mid r l
  letter : (e : ℕ) (us : List ℕ) → mid ≡ e ∷ us → is_exponent_letter e ≡ true → exponent_of us ≡ Some (r, l)
      → Tail mid r l

whole_row : {p : ℕ → Bool} {us ds : List ℕ} → Digits p us ds [] → (us ≡ ds) × (are_digits p us ≡ true)
whole_row {p = p} {us = us} {ds = ds} d =
    let r = digits_row d in
    let e : us ≡ ds = r.is ∙ append-nil ds in
    (e, subst (λ v. are_digits p v ≡ true) (sym e) (alone p ds r.all r.some))

raises_digits : {us ds : List ℕ} → Digits is_digit us ds [] → raises us ≡ Some (decimal_from 0 ds, 0)
raises_digits {us = us} {ds = ds} d =
    let w = whole_row d in rw (w.1) (ap (λ v. Some (decimal_from 0 v, 0)) w.0)

lowers_digits : {us ds : List ℕ} → Digits is_digit us ds [] → lowers us ≡ Some (0, decimal_from 0 ds)
lowers_digits {us = us} {ds = ds} d =
    let w = whole_row d in rw (w.1) (ap (λ v. Some (0, decimal_from 0 v)) w.0)

exponent_digits : (us : List ℕ) → are_digits is_digit us ≡ true → exponent_of us ≡ raises us
exponent_digits [] h = absurd cc
exponent_digits (u ∷ us) h =
    let sign = or_false (u == 43) (u == 45) (digits u (passes_at is_digit (u ∷ us) 0 h (omega arith))).sign in
    rw (sign.0, sign.1) refl

tail_of : {mid : List ℕ} {r l : ℕ} → Exponent mid r l [] → Tail mid r l
tail_of no_exponent = empty refl refl refl
tail_of (no_sign {e = e} {us = us} h d) = letter e us refl h (exponent_digits us (whole_row d).1 ∙ raises_digits d)
tail_of (elements.plus {e = e} {us = us} h d) = letter e (43 ∷ us) refl h (raises_digits d)
tail_of (elements.minus {e = e} {us = us} h d) = letter e (45 ∷ us) refl h (lowers_digits d)

-- ---- before and after the first that passes

pub none_position : (p : ℕ → Bool) (xs : List ℕ) → list_any p xs ≡ false → position_or_len p xs ≡ length xs
none_position p [] none = refl
none_position p (w ∷ xs) none =
    let o = or_false (p w) (list_any p xs) none in
    let rest = none_position p xs o.1 in rw (o.0) (omega arith)

module _ (p : ℕ → Bool) (xs ys : List ℕ) (x : ℕ) (h : p x ≡ true) where
  before_split : position_or_len p (xs ++ x ∷ ys) ≡ length xs → before_first p (xs ++ x ∷ ys) ≡ xs
  before_split e = ap (λ n. take n (xs ++ x ∷ ys)) e ∙ take_at xs (x ∷ ys) (length xs) refl

  after_split : position_or_len p (xs ++ x ∷ ys) ≡ length xs → after_first p (xs ++ x ∷ ys) ≡ ys
  after_split e =
      ap (λ n. drop (n + 1) (xs ++ x ∷ ys)) e ∙ ap (drop (length xs + 1)) (sym (append_assoc xs (x ∷ []) ys))
      ∙ drop_at (xs ++ x ∷ []) ys (length xs + 1) (length-append xs (x ∷ []))

  any_split : position_or_len p (xs ++ x ∷ ys) ≡ length xs → list_any p (xs ++ x ∷ ys) ≡ true
  any_split e = let all = length-append xs (x ∷ ys) in some_passes p (xs ++ x ∷ ys) (omega arith)

first_split : (p : ℕ → Bool) (xs ys : List ℕ) (x : ℕ) → list_any p xs ≡ false → p x ≡ true
    → position_or_len p (xs ++ x ∷ ys) ≡ length xs
first_split p [] ys x none h = rw h refl
first_split p (w ∷ xs) ys x none h =
    let o = or_false (p w) (list_any p xs) none in
    let rest = first_split p xs ys x o.1 h in rw (o.0) (omega arith)

-- ---- a significand and what follows

zero_powers : (r l : ℕ) → r ≡ 0 → l ≡ 0 → ◌≡◌ {A = Option (ℕ × ℕ)} (Some (0, 0)) (Some (r, l))
zero_powers r l a b = rw (a, b) refl

after_significand : (sig mid : List ℕ) (r l : ℕ) → list_any is_exponent_letter sig ≡ false → Tail mid r l
    → (significand (sig ++ mid) ≡ sig) × (exponent_part (sig ++ mid) ≡ Some (r, l))
after_significand sig mid r l none (empty m a b) =
    let is : sig ++ mid ≡ sig = ap (λ v. sig ++ v) m ∙ append-nil sig in (
      ap significand is ∙ all_before is_exponent_letter sig (none_position is_exponent_letter sig none),
      ap exponent_part is ∙ rw none (zero_powers r l a b),
    )
after_significand sig mid r l none (letter e us m h x) =
    let is : sig ++ mid ≡ sig ++ e ∷ us = ap (λ v. sig ++ v) m in
    let at = first_split is_exponent_letter sig us e none h in (
      ap significand is ∙ before_split is_exponent_letter sig us e h at,
      ap exponent_part is
          ∙ rw (any_split is_exponent_letter sig us e h at)
          (ap exponent_of (after_split is_exponent_letter sig us e h at) ∙ x),
    )

decimal_parts : (negative : Bool) (us sig mid ws fs : List ℕ) (r l : ℕ) → us ≡ sig ++ mid
    → list_any is_exponent_letter sig ≡ false → before_first is_point sig ≡ ws → after_first is_point sig ≡ fs
    → are_digits is_digit (ws ++ fs) ≡ true → Tail mid r l → bytes_eq us (codes "Infinity") ≡ false
    → decimal_number negative us ≡ exact_value negative (decimal_from 0 (ws ++ fs)) r (length fs + l)
decimal_parts negative us sig mid ws fs r l is none before after all tail finite =
    let s = after_significand sig mid r l none tail in
    let whole : whole_part us ≡ ws =
    ap (λ v. before_first is_point (significand v)) is ∙ ap (before_first is_point) s.0 ∙ before in
    let fraction : fraction_part us ≡ fs =
    ap (λ v. after_first is_point (significand v)) is ∙ ap (after_first is_point) s.0 ∙ after in
    let exponent : exponent_part us ≡ Some (r, l) = ap exponent_part is ∙ s.1 in
    rw finite
    (ap (λ v. parts_number negative v (fraction_part us) (exponent_part us)) whole
    ∙ ap (λ v. parts_number negative ws v (exponent_part us)) fraction ∙ ap (parts_number negative ws fs) exponent
    ∙ rw all refl)

-- ---- unsigned literals

no_letters : (ds : List ℕ) → list_all is_digit ds ≡ true → list_any is_exponent_letter ds ≡ false
no_letters ds all = none_passes is_exponent_letter ds (no_letter ds all)

no_points : (ds : List ℕ) → list_all is_digit ds ≡ true → list_any is_point ds ≡ false
no_points ds all = none_passes is_point ds (no_point ds all)

finite_digits : (us ds rest : List ℕ) → us ≡ ds ++ rest → list_all is_digit ds ≡ true → 0 < length ds
    → bytes_eq us (codes "Infinity") ≡ false
finite_digits us [] rest e all some = absurd (omega arith)
finite_digits us (d ∷ ds) rest e all some =
    ap (λ v. bytes_eq v (codes "Infinity")) e ∙ rw (no_capital d (passes_at is_digit (d ∷ ds) 0 all some)) refl

both_parts : (ws fs : List ℕ) → list_all is_digit ws ≡ true → list_all is_digit fs ≡ true → 0 < length ws
    → are_digits is_digit (ws ++ fs) ≡ true
both_parts ws fs a b some =
    let all = length-append ws fs in
    alone is_digit (ws ++ fs) (list_all-append is_digit ws fs ∙ rw (a, b) refl) (omega arith)

pub unsigned_value : (negative : Bool) {us : List ℕ} {m r l : ℕ} → Unsigned us m r l
    → decimal_number negative us ≡ exact_value negative m r l
unsigned_value negative {us = us} {r = r} {l = l} (whole {mid = mid} {ds = ds} d x) =
    let row = digits_row d in
    let none : 0 + l ≡ l = omega arith in
    decimal_parts negative us ds mid ds [] r l row.is (no_letters ds row.all)
    (all_before is_point ds (no_point ds row.all)) (nothing_after is_point ds (no_point ds row.all))
    (both_parts ds [] row.all refl row.some) (tail_of x) (finite_digits us ds mid row.is row.all row.some)
    ∙ ap (λ v. exact_value negative (decimal_from 0 v) r (0 + l)) (append-nil ds)
    ∙ ap (λ k. exact_value negative (decimal_from 0 ds) r k) none
unsigned_value negative {us = us} {r = r} {l = _} (with_point {mid = mid} {ds = ds} {fs = fs} {end = end} {l = l} d m
    x) =
    let row = digits_row d in
    let f = many_row m in
    let is : us ≡ (ds ++ 46 ∷ fs) ++ end =
    row.is ∙ ap (λ v. ds ++ 46 ∷ v) f.0 ∙ sym (append_assoc ds (46 ∷ fs) end) in
    let at = first_split is_point ds fs 46 (no_points ds row.all) refl in
    decimal_parts negative us (ds ++ 46 ∷ fs) end ds fs r l is
    (list_any-append is_exponent_letter ds (46 ∷ fs) ∙ rw (no_letters ds row.all, no_letters fs f.1) refl)
    (before_split is_point ds fs 46 refl at) (after_split is_point ds fs 46 refl at)
    (both_parts ds fs row.all f.1 row.some) (tail_of x) (finite_digits us ds (46 ∷ mid) row.is row.all row.some)
unsigned_value negative {r = r} (from_point {us = us} {fs = fs} {end = end} {l = l} d x) =
    let row = digits_row d in
    let at = first_split is_point [] fs 46 refl refl in
    decimal_parts negative (46 ∷ us) (46 ∷ fs) end [] fs r l (ap (λ v. 46 ∷ v) row.is)
    (no_letters fs row.all) (before_split is_point [] fs 46 refl at) (after_split is_point [] fs 46 refl at)
    (alone is_digit fs row.all row.some) (tail_of x) refl

-- ---- literals

no_x : (e : ℕ) → is_exponent_letter e ≡ true → is_hexadecimal_letter e ≡ false
no_x e h =
    ⊎_elim
    (λ a. subst (λ v. is_hexadecimal_letter v ≡ false) (sym (is_unit e 101 a)) refl)
    (λ b. subst (λ v. is_hexadecimal_letter v ≡ false) (sym (is_unit e 69 b)) refl)
    (or_cases (e == 101) (e == 69) h)

tail_first : (mid : List ℕ) (r l : ℕ) → Tail mid r l → first_is is_hexadecimal_letter mid ≡ false
tail_first mid r l (empty m a b) = ap (first_is is_hexadecimal_letter) m
tail_first mid r l (letter e us m h x) = ap (first_is is_hexadecimal_letter) m ∙ no_x e h

second_digit : (ds rest : List ℕ) → list_all is_digit ds ≡ true → first_is is_hexadecimal_letter rest ≡ false
    → first_is is_hexadecimal_letter (ds ++ rest) ≡ false
second_digit [] rest all h = h
second_digit (d ∷ ds) rest all h = (digits d (passes_at is_digit (d ∷ ds) 0 all (omega arith))).x_mark

never : (a : Bool) → (a && false) ≡ false
never true = refl
never false = refl

plain_first : (us ds rest : List ℕ) → us ≡ ds ++ rest → list_all is_digit ds ≡ true → 0 < length ds
    → first_is is_hexadecimal_letter rest ≡ false → literal_number us ≡ decimal_number false us
plain_first us [] rest is all some h = absurd (omega arith)
plain_first us (d ∷ ds) rest is all some h =
    subst (λ v. literal_number v ≡ decimal_number false v) (sym is)
    (rw (sign.0, sign.1, second_digit ds rest (both (is_digit d) (list_all is_digit ds) all).1 h, never (d == 48)) refl)
  where
    sign : ((d == 43) ≡ false) × ((d == 45) ≡ false)
    sign = or_false (d == 43) (d == 45) (digits d (passes_at is_digit (d ∷ ds) 0 all (omega arith))).sign

unsigned_first : {us : List ℕ} {m r l : ℕ} → Unsigned us m r l → literal_number us ≡ decimal_number false us
unsigned_first {us = us} (whole {mid = mid} {ds = ds} {r = r} {l = l} d x) =
    let row = digits_row d in plain_first us ds mid row.is row.all row.some (tail_first mid r l (tail_of x))
unsigned_first {us = us} (with_point {mid = mid} {ds = ds} d m x) =
    let row = digits_row d in plain_first us ds (46 ∷ mid) row.is row.all row.some refl
unsigned_first (from_point d x) = refl

literal_value : {us : List ℕ} {v : Option Number} → Literal us v → literal_number us ≡ v
literal_value (unsigned u) = unsigned_first u ∙ unsigned_value false u
literal_value (literals.plus u) = unsigned_value false u
literal_value (literals.minus u) = unsigned_value true u
literal_value infinity = refl
literal_value plus_infinity = refl
literal_value minus_infinity = refl
literal_value (hexadecimal h d) =
    let w = whole_row d in rw (h, w.1) (ap (λ v. number_of (pos (hex_from 0 v))) w.0)

pub literals_have_their_value : LiteralsHaveTheirValue
unfolding text_number
literals_have_their_value us v x = literal_value x
