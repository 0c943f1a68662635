-- Units that are the digits of an index.
use Rattle.std.proofs.Common.{◌≡◌, refl, sym, ap, ◌∙◌, subst, ℕ, zero, suc, ◌+◌, ◌-◌, ◌*◌, ◌/◌, ◌%◌, ◌<◌, ◌≤◌, ⊎_elim}
use Rattle.std.proofs.Common.{Bool, true, false, ◌&&◌, nat_lt, List, [], ◌∷◌, ◌++◌, length, take, drop, get_or, Option}
use Rattle.std.proofs.Common.{Some, None, arith, add-one, if◌then◌else◌}
use Rattle.std.specs.Prelude.{All, slice_index}
use Rattle.std.specs.Char.{digit_value}
use Rattle.std.specs.Str.{bytes_eq}
use Rattle.std.specs.Str.Parse.{digits_value}
use Rattle.std.proofs.lemmas.Bool.{cases_lt}
use Rattle.std.proofs.lemmas.Bool.Decides.{nat_tests}
use Rattle.std.proofs.lemmas.Int.Digits.{digits_value_more}
use Rattle.std.proofs.lemmas.List.Elements.{All-get_or, All-append}
use Rattle.std.proofs.lemmas.List.{take_all, take_more}
use Rattle.std.proofs.lemmas.Slice.Eq.{bytes_eq-Decides}
use Rattle.std.proofs.lemmas.Str.{digit_value_digit}
use Rattle.std.proofs.lemmas.Str.Parse.{digits_value-take-le}
use Rattle.jl_num.specs.Digits.{digit_code, digits_within, digits_of}
use Rattle.jl_num.proofs.Numeral.{digits_write_numbers}
use Rattle.jl_num.proofs.Places.{one_digit, more_digits, quotient_less, last_digit}
use Rattle.jl_value.specs.Indices.{IsIndex, index_of}

-- ---- digits, by the last one

-- more places than there are digits change nothing
enough_places : (p q n : ℕ) → n < p → n < q → digits_within 10 p n ≡ digits_within 10 q n
enough_places zero q n hp hq = absurd (omega arith)
enough_places (suc p) zero n hp hq = absurd (omega arith)
enough_places (suc p) (suc q) n hp hq =
    ⊎_elim
    (λ below. one_digit 10 p n below ∙ sym (one_digit 10 q n below))
    (λ above.
    let less = quotient_less 10 n (omega arith) above in
    let front = enough_places p q (n / 10) (omega arith) (omega arith) in
    more_digits 10 p n above ∙ ap (λ ds. ds ++ last_digit 10 n) front ∙ sym (more_digits 10 q n above))
    (cases_lt n 10)

code_of : (d : ℕ) → d < 10 → digit_code d ≡ 48 + d
code_of d h = grind (arith, nat_tests)

digits_of_digit : (d : ℕ) → d < 10 → digits_of 10 d ≡ (48 + d) ∷ []
digits_of_digit d h =
    let one : digits_of 10 d ≡ digit_code d ∷ [] = rw add-one (one_digit 10 d d h) in
    one ∙ ap (λ c. c ∷ []) (code_of d h)

digits_of_more : (n d m : ℕ) → 0 < n → d < 10 → m ≡ n * 10 + d → digits_of 10 m ≡ digits_of 10 n ++ (48 + d) ∷ []
digits_of_more n d m some h e =
    let q : m / 10 ≡ n = grind arith in
    let r : m % 10 ≡ d = grind arith in
    let front : digits_within 10 m (m / 10) ≡ digits_of 10 n =
    rw q (enough_places m (n + 1) n (omega arith) (omega arith)) in
    rw add-one (more_digits 10 m m (omega arith) ∙ ap (λ ds. ds ++ last_digit 10 m) front
    ∙ ap (λ k. digits_of 10 n ++ digit_code k ∷ []) r
    ∙ ap (λ c. digits_of 10 n ++ c ∷ []) (code_of d h))

abbrev IsDigit : ℕ → Type 0
IsDigit c = (48 ≤ c) × (c ≤ 57)

one_is_digit : (c : ℕ) → IsDigit c → (k d : ℕ) → k < 1 → IsDigit (get_or (c ∷ []) k d)
one_is_digit c i zero d h = i
one_is_digit c i (suc k) d h = absurd (omega arith)

code_is_digit : (d : ℕ) → d < 10 → All IsDigit (digit_code d ∷ [])
code_is_digit d h = let e = code_of d h in one_is_digit (digit_code d) (omega arith, omega arith)

none_is_digit : (k d : ℕ) → k < 0 → IsDigit d
none_is_digit k d h = absurd (omega arith)

all_digits_within : (p n : ℕ) → All IsDigit (digits_within 10 p n)
all_digits_within zero n = none_is_digit
all_digits_within (suc p) n =
    ⊎_elim
    (λ below. subst (All IsDigit) (sym (one_digit 10 p n below)) (code_is_digit n below))
    (λ above.
    let front = all_digits_within p (n / 10) in
    let last = code_is_digit (n % 10) (omega arith) in
    subst (All IsDigit) (sym (more_digits 10 p n above)) (All-append IsDigit _ _ front last))
    (cases_lt n 10)

digits_are_digits : (n i : ℕ) → i < length (digits_of 10 n) → IsDigit (get_or (digits_of 10 n) i 0)
digits_are_digits n i h = All-get_or IsDigit (digits_of 10 n) i 0 h (all_digits_within (n + 1) n)

value_of : (n : ℕ) → digits_value 10 (digits_of 10 n) ≡ n
value_of n = (digits_write_numbers 10 n (omega arith) (omega arith)).value

-- ---- the index of units

-- the index of units that read as n
abbrev index_at : List ℕ → ℕ → Option ℕ
index_at units n = if bytes_eq units (digits_of 10 n) && nat_lt n 4294967295 then Some n else None

both : (a b : Bool) (n : ℕ) → a ≡ true → b ≡ true → (if a && b then Some n else None) ≡ Some n
both true true n f g = refl
both true false n f g = cc
both false b n f g = cc

was_both : (a b : Bool) (m n : ℕ) → (if a && b then Some m else None) ≡ Some n → (a ≡ true) × (b ≡ true) × (m ≡ n)
was_both true true m n e = (refl, refl, cc)
was_both true false m n e = cc
was_both false b m n e = cc

reads : (units : List ℕ) (n : ℕ) → IsIndex units n → digits_value 10 units ≡ n
reads units n i = ap (digits_value 10) i.digits ∙ value_of n

pub index_is : (units : List ℕ) (n : ℕ) → IsIndex units n → index_of units ≡ Some n
unfolding index_of
index_is units n i =
    ap (index_at units) (reads units n i)
    ∙ both (bytes_eq units (digits_of 10 n)) (nat_lt n 4294967295) n
    ((bytes_eq-Decides units (digits_of 10 n)).1 i.digits) (below n i.below)
  where
    below : (n : ℕ) → n < 4294967295 → nat_lt n 4294967295 ≡ true
    below n h = grind (arith, nat_tests)

pub index_of_is : (units : List ℕ) (n : ℕ) → index_of units ≡ Some n → IsIndex units n
unfolding index_of
index_of_is units n e =
    let m = digits_value 10 units in
    let t = was_both (bytes_eq units (digits_of 10 m)) (nat_lt m 4294967295) m n e in
    record {
      digits = (bytes_eq-Decides units (digits_of 10 m)).0 t.0 ∙ ap (digits_of 10) t.2;
      below = subst (λ k. k < 4294967295) t.2 (below m t.1);
    }
  where
    below : (n : ℕ) → nat_lt n 4294967295 ≡ true → n < 4294967295
    below n h = grind (arith, nat_tests)

pub one_index : (units : List ℕ) (m n : ℕ) → IsIndex units m → IsIndex units n → m ≡ n
one_index units m n i j = sym (reads units m i) ∙ reads units n j

none_of : (o : Option ℕ) → ((n : ℕ) → o ≡ Some n → ⊥) → o ≡ None
none_of None f = refl
none_of (Some n) f = absurd (f n refl)

no_index : (units : List ℕ) → ((n : ℕ) → IsIndex units n → ⊥) → index_of units ≡ None
unfolding index_of
no_index units f = none_of (index_of units) (λ n e. f n (index_of_is units n e))

unit_is_digit : (units : List ℕ) (n i : ℕ) → IsIndex units n → i < length units → IsDigit (get_or units i 0)
unit_is_digit units n i is h =
    let Has : List ℕ → Type 0 = λ l. i < length l → IsDigit (get_or l i 0) in
    subst Has (sym is.digits) (digits_are_digits n i) h

-- ---- a walk over the units

-- after the first unit and i of the rest, which are the digits of n
pub record IsRead (units rest : List ℕ) (n i : ℕ) : Type 0 where
  pub first : ℕ
  pub whole : units ≡ first ∷ rest
  pub digits : digits_of 10 n ≡ first ∷ take i rest

split : (units : List ℕ) → 1 ≤ length units → units ≡ get_or units 0 0 ∷ take (length units - 1) (drop 1 units)
split [] h = absurd (omega arith)
split (u ∷ units) h = ap (λ us. u ∷ us) (sym (take_all (suc (length units) - 1) units (omega arith)))

no_digit : (c : ℕ) (rest : List ℕ) → (48 ≤ c → 58 ≤ c) → index_of (c ∷ rest) ≡ None
no_digit c rest h = no_index (c ∷ rest) (λ n is. let d = unit_is_digit (c ∷ rest) n 0 is (omega arith) in omega arith)

pub no_digit_first : (units : List ℕ) → 1 ≤ length units → (48 ≤ get_or units 0 0 → 58 ≤ get_or units 0 0)
    → index_of units ≡ None
no_digit_first units some h = ap index_of (split units some) ∙ no_digit (get_or units 0 0) _ h

pub begun : (units : List ℕ) (d : ℕ) → 1 ≤ length units → d < 10 → 48 + d ≡ get_or units 0 0
    → IsRead units (take (length units - 1) (drop 1 units)) d 0
begun units d some h e = record {
  first = get_or units 0 0;
  whole = split units some;
  digits = digits_of_digit d h ∙ ap (λ c. c ∷ []) e;
}

-- a further digit, after those of a number other than 0
pub one_more : (units rest : List ℕ) (n m u i : ℕ) → IsRead units rest n i → i < length rest → u ≡ get_or rest i 0
    → 0 < n → 48 ≤ u → u ≤ 57 → m ≡ n * 10 + (u - 48) → IsRead units rest m (i + 1)
one_more units rest n m u i r h g some low high is =
    let code : 48 + (u - 48) ≡ u = omega arith in
    record {
      first = r.first;
      whole = r.whole;
      digits = digits_of_more n (u - 48) m some (omega arith) is
          ∙ ap (λ k. digits_of 10 n ++ k ∷ []) (code ∙ g)
          ∙ ap (λ ds. ds ++ get_or rest i 0 ∷ []) r.digits
          ∙ ap (λ ds. r.first ∷ ds) (sym (take_more rest i 0 h));
    }

-- a further unit after a 0
after_zero : (c i k : ℕ) (rest : List ℕ) → 48 ∷ [] ≡ c ∷ take i rest → i < length rest → IsIndex (c ∷ rest) k → ⊥
after_zero c i zero rest e h is = let none : [] ≡ rest = cc (sym is.digits) in omega (arith, ap length none)
after_zero c i (suc k) rest e h is =
    let first : slice_index (digits_of 10 (suc k)) 0 ≡ 48 = ap (λ l. slice_index l 0) (sym is.digits) ∙ cc in
    (digits_write_numbers 10 (suc k) (omega arith) (omega arith)).no_zero_first (omega arith) first

-- a further digit past 2^32 - 1
too_large : (c n u i k : ℕ) (rest : List ℕ) → digits_of 10 n ≡ c ∷ take i rest → i < length rest → u ≡ get_or rest i 0
    → IsIndex (c ∷ rest) k → IsDigit u → 4294967296 ≤ n * 10 + (u - 48) → ⊥
too_large c n u i k rest e h g is d f =
    let units : List ℕ = c ∷ rest in
    let value : digits_value 10 (take (suc i) units) ≡ n = ap (digits_value 10) (sym e) ∙ value_of n in
    let more = digits_value_more 10 units (suc i) (omega arith) in
    let part = digits_value-take-le 10 units (suc i + 1) (omega arith) in
    past _ _ (digit_value u) _ n u k value (more ∙ ap (λ v. digits_value 10 (take (suc i) units) * 10 + digit_value v)
    (sym g)) (digit_value_digit u d) part (reads units k is) is.below f
  where
    past : (a b v w n u k : ℕ) → b ≡ n → a ≡ b * 10 + v → v + 48 ≡ u → a ≤ w → w ≡ k → k < 4294967295
        → 4294967296 ≤ n * 10 + (u - 48) → ⊥
    past a b v w n u k p q r l s below f = omega arith

no_more_after : (c n u i : ℕ) (rest : List ℕ) → digits_of 10 n ≡ c ∷ take i rest → i < length rest → u ≡ get_or rest i 0
    → (0 < n → 48 ≤ u → u ≤ 57 → 4294967296 ≤ n * 10 + (u - 48)) → index_of (c ∷ rest) ≡ None
no_more_after c zero u i rest e h g f = no_index (c ∷ rest) (λ k is. after_zero c i k rest e h is)
no_more_after c (suc n) u i rest e h g f =
    no_index (c ∷ rest) (λ k is.
    let d : IsDigit u = subst IsDigit (sym g) (unit_is_digit (c ∷ rest) k (suc i) is (omega arith)) in
    too_large c (suc n) u i k rest e h g is d (f (omega arith) d.0 d.1))

-- a further unit that is no such digit
pub no_more : (units rest : List ℕ) (n u i : ℕ) → IsRead units rest n i → i < length rest → u ≡ get_or rest i 0
    → (0 < n → 48 ≤ u → u ≤ 57 → 4294967296 ≤ n * 10 + (u - 48)) → index_of units ≡ None
no_more units rest n u i r h g f = ap index_of r.whole ∙ no_more_after r.first n u i rest r.digits h g f

all_read : (units rest : List ℕ) (n i : ℕ) → IsRead units rest n i → length rest ≤ i → units ≡ digits_of 10 n
all_read units rest n i r all = r.whole ∙ sym (r.digits ∙ ap (λ ds. r.first ∷ ds) (take_all i rest all))

pub at_end : (units rest : List ℕ) (n i : ℕ) → IsRead units rest n i → length rest ≤ i → n < 4294967295
    → index_of units ≡ Some n
at_end units rest n i r all h = index_is units n record { digits = all_read units rest n i r all; below = h }

pub past_end : (units rest : List ℕ) (n i : ℕ) → IsRead units rest n i → length rest ≤ i → 4294967295 ≤ n
    → index_of units ≡ None
past_end units rest n i r all h = no_index units (λ k is.
    let same : n ≡ k = sym (value_of n) ∙ ap (digits_value 10) (sym (all_read units rest n i r all))
    ∙ reads units k is in
    let below = is.below in
    omega arith)

pub no_units : (units : List ℕ) → length units < 1 → index_of units ≡ None
unfolding index_of
no_units [] h = refl
no_units (u ∷ units) h = absurd (omega arith)
