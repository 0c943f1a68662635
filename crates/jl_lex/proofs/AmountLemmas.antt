-- What digits that were read stand for.
use Rattle.std.proofs.Common.{◌≡◌, refl, sym, ap, ◌∙◌, subst, ℕ, zero, suc, ◌+◌, ◌-◌, ◌*◌, ◌%◌, ◌^◌, ◌<◌, ◌≤◌, ◌⊎◌, inl}
use Rattle.std.proofs.Common.{inr, Bool, true, false, ◌==◌, nat_le, List, [], ◌∷◌, Option, Some, None, if◌then◌else◌}
use Rattle.std.proofs.Common.{arith}
use Rattle.std.proofs.Math.Nat.{pow-suc}
use Rattle.std.proofs.lemmas.Nat.{pow-add}
use Rattle.std.proofs.lemmas.Bool.{le-leb, eqb-true}
use Rattle.std.proofs.lemmas.Bool.Decides.{nat_tests, leb_tells}
use Rattle.jl_token.specs.Characters.{is_digit, first_is}
use Rattle.jl_token.specs.Elements.{HasValue}
use Rattle.jl_token.specs.inner.Scanner.{many, one_unit, some_digits, value_of}
use Rattle.jl_lex.proofs.Loops.{unit_more, unit_stop, unit_end}
use Rattle.jl_token.proofs.Tests.{true_or_false, other_unit, is_unit}
use Rattle.jl_token.proofs.Units.{digit_bounds}
use Rattle.jl_token.proofs.Values.{value_sound, value_complete, ten_pos}
use Rattle.jl_lex.specs.inner.Amounts.{scale, add_digit, add_digits, if_number, value_from, capped_from, Exponents}
use Rattle.jl_lex.specs.inner.Amounts.{the_same, is_high, is_low, Large, Stands, exact, beyond}
use Rattle.jl_lex.proofs.Powers.{ten_more, cancel, times_ten, last_digit, assoc, at_least, far}

past : (n : ℕ) → nat_le n 9007199254740991 ≡ false → 9007199254740991 < n
past n h = grind (arith, nat_tests)

pub over : (n : ℕ) → 9007199254740991 < n → nat_le n 9007199254740991 ≡ false
over n h = grind (arith, nat_tests)

not_zero : (n : ℕ) → 0 < n → (n == 0) ≡ false
not_zero n h = grind (arith, nat_tests)

-- a product with a power of ten, or something past the numbers of a script that isn't past it
data Scaled (s t : ℕ) : Type 0 where
  is : s ≡ t → Scaled s t
  stopped : 9007199254740991 < s → s ≤ t → Scaled s t

scaled_step : (k c : ℕ) → Scaled (scale (c * 10) k) ((c * 10) * 10 ^ k) → (b : Bool) → nat_le c 9007199254740991 ≡ b
    → Scaled (if b then scale (c * 10) k else c) (c * 10 ^ suc k)
scaled_step k c i true h =
    subst (λ t. Scaled (scale (c * 10) k) t) (assoc c 10 (10 ^ k)
    ∙ ap (λ n. c * n) (turned (10 ^ k) ∙ sym (pow-suc 10 k))) i where
      turned : (n : ℕ) → 10 * n ≡ n * 10
      turned n = omega arith
scaled_step k c i false h = stopped (past c h) (at_least c (suc k))

scaled_is : (k c : ℕ) → Scaled (scale c k) (c * 10 ^ k)
unfolding scale
scaled_is zero c = is (omega arith)
scaled_is (suc k) c = scaled_step k c (scaled_is k (c * 10)) (nat_le c 9007199254740991) refl

pub large_itself : (m d : ℕ) → 0 < d → d < 10 → 9007199254740991 < m * 10 + d → Large (m * 10 + d)
large_itself m d h g p =
    record {
      digits = m * 10 + d;
      zeros = 0;
      is = omega arith;
      last = λ e. let l = last_digit m d g in omega arith;
      past = p;
    }

pub large_more : (m : ℕ) → Large m → Large (m * 10)
large_more m l = record {
  digits = l.digits;
  zeros = l.zeros + 1;
  is = ap (λ n. n * 10) l.is
      ∙ (assoc l.digits (10 ^ l.zeros) 10 ∙ ap (λ n. l.digits * n) (sym (ten_more l.zeros)));
  last = l.last;
  past = l.past;
}

pub large_past : (m : ℕ) → Large m → 9007199254740991 < m
large_past m l = let a = at_least l.digits l.zeros in let e = l.is in let p = l.past in omega arith

pub none_stands : Stands 0 0 0
none_stands = exact (omega arith) (omega arith) (λ e. refl)

-- a digit other than 0 after c · 10 ^ z
append_digit : (c z m d : ℕ) → c ≤ 9007199254740991 → m ≡ c * 10 ^ z → 0 < d → d < 10
    → Stands (scale c (z + 1) + d) 0 (m * 10 + d)
append_digit c z m d h e p q = by (scaled_is (z + 1) c) (leb_tells (scale c (z + 1) + d) 9007199254740991) where
  whole : c * 10 ^ (z + 1) ≡ m * 10
  whole = sym (ap (λ n. n * 10) e ∙ (assoc c (10 ^ z) 10 ∙ ap (λ n. c * n) (sym (ten_more z))))

  by : Scaled (scale c (z + 1)) (c * 10 ^ (z + 1))
      → ((nat_le (scale c (z + 1) + d) 9007199254740991 ≡ true) × (scale c (z + 1) + d ≤ 9007199254740991))
      ⊎ ((nat_le (scale c (z + 1) + d) 9007199254740991 ≡ false) × (9007199254740991 < scale c (z + 1) + d))
      → Stands (scale c (z + 1) + d) 0 (m * 10 + d)
  by (is s) (inl l) =
      let t : scale c (z + 1) ≡ m * 10 = s ∙ whole in
      exact l.1 (omega arith) (λ g. let i = last_digit m d q in let j : (scale c (z + 1) + d) % 10
      ≡ (m * 10 + d) % 10 = ap (λ n. (n + d) % 10) t in absurd (omega arith))
  by (is s) (inr l) = let t : scale c (z + 1) ≡ m * 10 = s ∙ whole in let k = l.1 in
      beyond k (large_itself m d p q (omega arith))
  by (stopped a b) l = let w = whole in beyond (omega arith) (large_itself m d p q (omega arith))

digit_value : (u : ℕ) → is_digit u ≡ true → (u ≡ 48 → ⊥) → (0 < u - 48) × (u - 48 < 10)
digit_value u h n = let b = digit_bounds u h in (omega (arith, b.0, b.1), omega (arith, b.0, b.1))

pub add_digit_stands : (u c z m : ℕ) → is_digit u ≡ true → Stands c z m
    → Stands (add_digit u (c, z)).0 (add_digit u (c, z)).1 (m * 10 + (u - 48))
unfolding add_digit
add_digit_stands u c z m d (exact h e l) = by (true_or_false (u == 48)) (true_or_false (c == 0)) where
  by : ((u == 48) ≡ true) ⊎ ((u == 48) ≡ false) → ((c == 0) ≡ true) ⊎ ((c == 0) ≡ false)
      → Stands (add_digit u (c, z)).0 (add_digit u (c, z)).1 (m * 10 + (u - 48))
  by (inl a) (inl b) =
      let k = is_unit u 48 a in let y = eqb-true c 0 b in
      let w : m ≡ 0 = e ∙ (ap (λ n. n * 10 ^ z) y ∙ (omega arith)) in
      rw (a, b) (exact h (let t : m * 10 + (u - 48) ≡ 0 = omega arith in
      t ∙ sym (ap (λ n. n * 10 ^ z) y ∙ (omega arith))) l)
  by (inl a) (inr b) =
      let k = is_unit u 48 a in
      let w : m * 10 ≡ c * 10 ^ (z + 1) =
      ap (λ n. n * 10) e ∙ (assoc c (10 ^ z) 10 ∙ ap (λ n. c * n) (sym (ten_more z))) in
      rw (a, b) (exact h (omega arith) l)
  by (inr a) b = let v = digit_value u d (λ q. absurd (clash u q a)) in
      rw (a, le-leb c 9007199254740991 h) (append_digit c z m (u - 48) h e v.0 v.1) where
        clash : (u : ℕ) → u ≡ 48 → (u == 48) ≡ false → ⊥
        clash u q a = absurd (two (subst (λ w. (w == 48) ≡ false) q a)) where
          two : (48 == 48) ≡ false → ⊥
          two e = cc
add_digit_stands u c z m d (beyond h g) = by (true_or_false (u == 48)) where
  by : ((u == 48) ≡ true) ⊎ ((u == 48) ≡ false)
      → Stands (add_digit u (c, z)).0 (add_digit u (c, z)).1 (m * 10 + (u - 48))
  by (inl a) =
      let k = is_unit u 48 a in
      let t : m * 10 ≡ m * 10 + (u - 48) = omega arith in
      rw (a, not_zero c (omega arith)) (beyond h (subst Large t (large_more m g)))
  by (inr a) = let v = digit_value u d (λ q. absurd (clash u q a)) in let p = large_past m g in
      rw (a, over c h) (beyond h (large_itself m (u - 48) v.0 v.1 (omega arith))) where
        clash : (u : ℕ) → u ≡ 48 → (u == 48) ≡ false → ⊥
        clash u q a = absurd (two (subst (λ w. (w == 48) ≡ false) q a)) where
          two : (48 == 48) ≡ false → ⊥
          two e = cc

-- the value of a literal whose digits end in no 0
pub whole_value : (a y r l n : ℕ) → (a % 10 ≡ 0 → ⊥) → n * 10 ^ l ≡ (a * 10 ^ y) * 10 ^ r → (l ≤ y + r)
    × (n ≡ a * 10 ^ ((y + r) - l))
whole_value a y r l n h e = by (leb_tells l (y + r)) where
  joined : n * 10 ^ l ≡ a * 10 ^ (y + r)
  joined = e ∙ (assoc a (10 ^ y) (10 ^ r) ∙ ap (λ k. a * k) (sym (pow-add 10 y r)))

  by : ((nat_le l (y + r) ≡ true) × (l ≤ y + r)) ⊎ ((nat_le l (y + r) ≡ false) × (y + r < l)) → (l ≤ y + r)
      × (n ≡ a * 10 ^ ((y + r) - l))
  by (inl g) =
      let q : ((y + r) - l) + l ≡ y + r = omega (arith, g.1) in
      let s : a * 10 ^ (y + r) ≡ (a * 10 ^ ((y + r) - l)) * 10 ^ l =
      ap (λ k. a * 10 ^ k) (sym q)
      ∙ (ap (λ k. a * k) (pow-add 10 ((y + r) - l) l) ∙ sym (assoc a (10 ^ ((y + r) - l)) (10 ^ l))) in
      (g.1, cancel n (a * 10 ^ ((y + r) - l)) (10 ^ l) (ten_pos l) (joined ∙ s))
  by (inr g) =
      let j = l - (y + r) - 1 in
      let q : (j + 1) + (y + r) ≡ l = omega (arith, g.1) in
      let s : n * 10 ^ l ≡ (n * 10 ^ (j + 1)) * 10 ^ (y + r) =
      ap (λ k. n * 10 ^ k) (sym q)
      ∙ (ap (λ k. n * k) (pow-add 10 (j + 1) (y + r)) ∙ sym (assoc n (10 ^ (j + 1)) (10 ^ (y + r)))) in
      let t : n * 10 ^ (j + 1) ≡ a = cancel (n * 10 ^ (j + 1)) a (10 ^ (y + r)) (ten_pos (y + r)) (sym s ∙ joined) in
      let w : (n * 10 ^ j) * 10 ≡ a = assoc n (10 ^ j) 10 ∙ (ap (λ k. n * k) (sym (ten_more j)) ∙ t) in
      absurd (h (ap (λ k. k % 10) (sym w) ∙ times_ten (n * 10 ^ j)))

-- from what is known of values
pub from_value : (m r l n : ℕ) (o : Option ℕ) → o ≡ Some n → HasValue m r l n → o ≡ value_of m r l
from_value m r l n o e v = e ∙ sym (value_complete m r l n v)

no_value_by : (m r l : ℕ) (o : Option ℕ) → value_of m r l ≡ o → ((n : ℕ) → HasValue m r l n → ⊥) → None ≡ o
no_value_by m r l None e f = refl
no_value_by m r l (Some n) e f = absurd (f n (value_sound m r l n e))

pub from_none : (m r l : ℕ) (o : Option ℕ) → o ≡ None → ((n : ℕ) → HasValue m r l n → ⊥) → o ≡ value_of m r l
from_none m r l o e f = e ∙ no_value_by m r l (value_of m r l) refl f

zero_value : (m r l : ℕ) → m ≡ 0 → HasValue m r l 0
zero_value m r l e = record {
  exact = (let a : 0 * 10 ^ l ≡ 0 = omega arith in a)
      ∙ sym (ap (λ n. n * 10 ^ r) e ∙ (omega arith));
  inside = omega arith;
}

-- with the exponents of the literal
module _ (c z m : ℕ) where
  value_inside : (r l : ℕ) → c ≤ 9007199254740991 → m ≡ c * 10 ^ z → (c % 10 ≡ 0 → c ≡ 0) → (c ≡ 0 → ⊥)
      → value_from c z r l ≡ value_of m r l
  unfolding value_from if_number
  value_inside r l h e p n =
      rw (other_unit c 0 n, le-leb c 9007199254740991 h)
      (by (leb_tells l (z + r)) (scaled_is ((z + r) - l) c) (leb_tells (scale c ((z + r) - l)) 9007199254740991)) where
        meant : (k : ℕ) → HasValue m r l k → (l ≤ z + r) × (k ≡ c * 10 ^ ((z + r) - l))
        meant k v = whole_value c z r l k (λ g. n (p g)) (v.exact ∙ ap (λ x. x * 10 ^ r) e)

        by : ((nat_le l (z + r) ≡ true) × (l ≤ z + r)) ⊎ ((nat_le l (z + r) ≡ false) × (z + r < l))
            → Scaled (scale c ((z + r) - l)) (c * 10 ^ ((z + r) - l))
            → ((nat_le (scale c ((z + r) - l)) 9007199254740991 ≡ true) × (scale c ((z + r) - l) ≤ 9007199254740991))
            ⊎ ((nat_le (scale c ((z + r) - l)) 9007199254740991 ≡ false) × (9007199254740991 < scale c ((z + r) - l)))
            → (if nat_le l (z + r) then (if nat_le (scale c ((z + r) - l)) 9007199254740991 then Some
            (scale c ((z + r) - l)) else None) else None) ≡ value_of m r l
        by (inr a) s t = rw (a.0) (from_none m r l None refl (λ k v. let w = meant k v in let g = w.0 in
            absurd (omega (arith, a.1))))
        by (inl a) s (inr t) = rw (a.0, t.0) (from_none m r l None refl (λ k v. let w = meant k v in let i = v.inside in
            let g = w.1 in absurd (larger s t.1 (omega arith)))) where
              larger : Scaled (scale c ((z + r) - l)) (c * 10 ^ ((z + r) - l))
                  → 9007199254740991 < scale c ((z + r) - l)
                  → c * 10 ^ ((z + r) - l) ≤ 9007199254740991 → ⊥
              larger (is x) y w = omega arith
              larger (stopped x q) y w = omega arith
        by (inl a) (stopped x q) (inl t) = absurd (omega (arith, t.1))
        by (inl a) (is x) (inl t) =
            let q : ((z + r) - l) + l ≡ z + r = omega (arith, a.1) in
            let w : scale c ((z + r) - l) * 10 ^ l ≡ m * 10 ^ r =
            ap (λ k. k * 10 ^ l) x ∙ (assoc c (10 ^ ((z + r) - l)) (10 ^ l)
            ∙ (ap (λ k. c * k) (sym (pow-add 10 ((z + r) - l) l))
            ∙ (ap (λ k. c * 10 ^ k) q
            ∙ (ap (λ k. c * k) (pow-add 10 z r) ∙ (sym (assoc c (10 ^ z) (10 ^ r)) ∙ ap (λ k. k * 10 ^ r) (sym e))))))
            in
            rw (a.0, t.0) (from_value m r l (scale c ((z + r) - l)) (Some (scale c ((z + r) - l))) refl
            (record { exact = w; inside = t.1 }))

  value_zero : (r' l' r l : ℕ) → c ≡ 0 → m ≡ c * 10 ^ z → value_from c z r' l' ≡ value_of m r l
  unfolding value_from
  value_zero r' l' r l h e =
      let q : m ≡ 0 = e ∙ (ap (λ n. n * 10 ^ z) h ∙ (omega arith)) in
      rw (h) (from_value m r l 0 (Some 0) refl (zero_value m r l q))

  value_beyond : (r' l' r l : ℕ) → 9007199254740991 < c → Large m → value_from c z r' l' ≡ value_of m r l
  unfolding value_from
  value_beyond r' l' r l h g = rw (not_zero c (omega arith), over c h) (from_none m r l None refl
      (λ k v. let w = whole_value g.digits g.zeros r l k g.last (v.exact ∙ ap (λ x. x * 10 ^ r) g.is) in
      let i = v.inside in let a = at_least g.digits ((g.zeros + r) - l) in let p = g.past in let q = w.1 in
      absurd (omega arith)))

  -- a large exponent
  value_high : (r' r f : ℕ) → c ≤ 9007199254740991 → m ≡ c * 10 ^ z → (c % 10 ≡ 0 → c ≡ 0) → (c ≡ 0 → ⊥)
      → 1099511627776 ≤ r' → r' ≤ r → f ≤ 4294967296 → value_from c z r' (f + 0) ≡ value_of m r (f + 0)
  unfolding value_from if_number
  value_high r' r f h e p n a b d =
      rw (other_unit c 0 n, le-leb c 9007199254740991 h, le-leb (f + 0) (z + r') (omega arith))
      (rw (over (scale c ((z + r') - (f + 0))) (huge (scaled_is ((z + r') - (f + 0)) c)))
      (from_none m r (f + 0) None refl
      (λ k v. let w = whole_value c z r (f + 0) k (λ g. n (p g)) (v.exact ∙ ap (λ x. x * 10 ^ r) e) in
      let i = v.inside in let q = w.1 in let s = far c ((z + r) - (f + 0)) (positive c n) (omega arith) in
      absurd (omega arith)))) where
        positive : (c : ℕ) → (c ≡ 0 → ⊥) → 0 < c
        positive c n = grind arith

        huge : Scaled (scale c ((z + r') - (f + 0))) (c * 10 ^ ((z + r') - (f + 0)))
            → 9007199254740991 < scale c ((z + r') - (f + 0))
        huge (is x) = let s = far c ((z + r') - (f + 0)) (positive c n) (omega arith) in omega arith
        huge (stopped x y) = x

  value_low : (l' l f : ℕ) → c ≤ 9007199254740991 → m ≡ c * 10 ^ z → (c % 10 ≡ 0 → c ≡ 0) → (c ≡ 0 → ⊥)
      → 1099511627776 ≤ l' → l' ≤ l → z ≤ 4294967296 → value_from c z 0 (f + l') ≡ value_of m 0 (f + l)
  unfolding value_from if_number
  value_low l' l f h e p n a b d =
      rw (other_unit c 0 n, le-leb c 9007199254740991 h, not_le (f + l') (z + 0) (omega arith))
      (from_none m 0 (f + l) None refl
      (λ k v. let w = whole_value c z 0 (f + l) k (λ g. n (p g)) (v.exact ∙ ap (λ x. x * 10 ^ 0) e) in let q = w.0 in
      absurd (omega arith))) where
        not_le : (a b : ℕ) → b < a → nat_le a b ≡ false
        not_le a b h = grind (arith, nat_tests)

-- whatever the exponents
pub value_stands : (c z m r' l' r l f : ℕ) → Stands c z m → Exponents r' l' r l → z ≤ 4294967296 → f ≤ 4294967296
    → value_from c z r' (f + l') ≡ value_of m r (f + l)
value_stands c z m r' l' r l f (beyond h g) x a b = value_beyond c z m r' (f + l') r (f + l) h g
value_stands c z m r' l' r l f (exact h e p) x a b = by (true_or_false (c == 0)) x where
  by : ((c == 0) ≡ true) ⊎ ((c == 0) ≡ false) → Exponents r' l' r l → value_from c z r' (f + l') ≡ value_of m r (f + l)
  by (inl y) x = value_zero c z m r' (f + l') r (f + l) (eqb-true c 0 y) e
  by (inr y) (the_same q s) = rw (q, s) (value_inside c z m r (f + l) h e p (no c y))
    where
      no : (c : ℕ) → (c == 0) ≡ false → c ≡ 0 → ⊥
      no c y q = grind (arith, nat_tests)
  by (inr y) (is_high q s t w) = rw (t, w) (value_high c z m r' r f h e p (no c y) q s b)
    where
      no : (c : ℕ) → (c == 0) ≡ false → c ≡ 0 → ⊥
      no c y q = grind (arith, nat_tests)
  by (inr y) (is_low q s t w) = rw (t, w) (value_low c z m l' l f h e p (no c y) q s a)
    where
      no : (c : ℕ) → (c == 0) ≡ false → c ≡ 0 → ⊥
      no c y q = grind (arith, nat_tests)

-- the steps of the loops
pub scaled_more : (value left : ℕ) → 0 < left → value ≤ 9007199254740991
    → scale value left ≡ scale (value * 10) (left - 1)
unfolding scale
scaled_more value zero h g = absurd (omega arith)
scaled_more value (suc left) h g = rw (le-leb value 9007199254740991 g) (let e : suc left - 1 ≡ left = omega arith in
    rw e refl)

pub scaled_stop : (value left : ℕ) → 9007199254740991 < value → scale value left ≡ value
unfolding scale
scaled_stop value zero h = refl
scaled_stop value (suc left) h = rw (over value h) refl

pub scaled_end : (value left : ℕ) → left ≤ 0 → scale value left ≡ value
unfolding scale
scaled_end value zero h = refl
scaled_end value (suc left) h = absurd (omega arith)

-- digits so far, and how they go on
pub record DigitsSoFar (c z : ℕ) (us : List ℕ) (first : ℕ × ℕ) (all : List ℕ) : Type 0 where
  pub amount : add_digits (c, z) (many (one_unit is_digit) us).0 ≡ add_digits first (many (one_unit is_digit) all).0
  pub rest : (many (one_unit is_digit) us).1 ≡ (many (one_unit is_digit) all).1

pub digits_begin : (c z : ℕ) (us : List ℕ) → DigitsSoFar c z us (c, z) us
digits_begin c z us = record { amount = refl; rest = refl }

pub digits_more : (c z e y : ℕ) (us mid : List ℕ) (u : ℕ) (first : ℕ × ℕ) (all : List ℕ) → us ≡ u ∷ mid
    → is_digit u ≡ true → ◌≡◌ {A = ℕ × ℕ} (e, y) (add_digit u (c, z)) → DigitsSoFar c z us first all
    → DigitsSoFar e y mid first all
unfolding add_digits
digits_more c z e y us mid u first all q h a n =
    let m = unit_more is_digit us mid u q h in
    record {
      amount = ap (λ (x : ℕ × ℕ). add_digits x (many (one_unit is_digit) mid).0) a
          ∙ (sym (ap (λ (x : List ℕ × List ℕ). add_digits (c, z) x.0) m) ∙ n.amount);
      rest = sym (ap (λ (x : List ℕ × List ℕ). x.1) m) ∙ n.rest;
    }

digits_done : (c z : ℕ) (us : List ℕ) (first : ℕ × ℕ) (all : List ℕ) → many (one_unit is_digit) us ≡ ([], us)
    → DigitsSoFar c z us first all → ((c, z) ≡ add_digits first (many (one_unit is_digit) all).0)
    × (us ≡ (many (one_unit is_digit) all).1)
unfolding add_digits
digits_done c z us first all m n = (
  sym (ap (λ (x : List ℕ × List ℕ). add_digits (c, z) x.0) m) ∙ n.amount,
  sym (ap (λ (x : List ℕ × List ℕ). x.1) m)
      ∙ n.rest,
)

pub digits_stop : (c z : ℕ) (us mid : List ℕ) (u : ℕ) (first : ℕ × ℕ) (all : List ℕ) → us ≡ u ∷ mid → is_digit u ≡ false
    → DigitsSoFar c z us first all → ((c, z) ≡ add_digits first (many (one_unit is_digit) all).0)
    × (us ≡ (many (one_unit is_digit) all).1)
digits_stop c z us mid u first all q h n = digits_done c z us first all (unit_stop is_digit us mid u q h) n

pub digits_end : (c z : ℕ) (us : List ℕ) (first : ℕ × ℕ) (all : List ℕ) → us ≡ [] → DigitsSoFar c z us first all
    → ((c, z) ≡ add_digits first (many (one_unit is_digit) all).0) × (us ≡ (many (one_unit is_digit) all).1)
digits_end c z us first all q n = digits_done c z us first all (unit_end is_digit us q) n

-- an exponent's digits so far
pub record CappedSoFar (n : ℕ) (us all : List ℕ) : Type 0 where
  pub number : capped_from n (many (one_unit is_digit) us).0 ≡ capped_from 0 (many (one_unit is_digit) all).0
  pub rest : (many (one_unit is_digit) us).1 ≡ (many (one_unit is_digit) all).1

pub capped_begin : (us : List ℕ) → CappedSoFar 0 us us
capped_begin us = record { number = refl; rest = refl }

pub capped_more : (n k : ℕ) (us mid : List ℕ) (u : ℕ) (all : List ℕ) → us ≡ u ∷ mid → is_digit u ≡ true
    → k ≡ (if nat_le 1099511627776 n then n else n * 10 + (u - 48)) → CappedSoFar n us all → CappedSoFar k mid all
unfolding capped_from
capped_more n k us mid u all q h a s =
    let m = unit_more is_digit us mid u q h in
    record {
      number = ap (λ x. capped_from x (many (one_unit is_digit) mid).0) a
          ∙ (sym (ap (λ (x : List ℕ × List ℕ). capped_from n x.0) m) ∙ s.number);
      rest = sym (ap (λ (x : List ℕ × List ℕ). x.1) m) ∙ s.rest;
    }

-- the digits are all there
pub record CappedDone (n : ℕ) (us all : List ℕ) : Type 0 where
  pub digits : some_digits is_digit all ≡ Some ((many (one_unit is_digit) all).0, us)
  pub number : n ≡ capped_from 0 (many (one_unit is_digit) all).0

capped_done : (n : ℕ) (us all : List ℕ) → first_is is_digit all ≡ true → many (one_unit is_digit) us ≡ ([], us)
    → CappedSoFar n us all → CappedDone n us all
unfolding capped_from some_digits
capped_done n us all f m s =
    let r = sym (ap (λ (x : List ℕ × List ℕ). x.1) m) ∙ s.rest in
    record {
      digits = rw f (ap (λ (x : List ℕ). Some ((many (one_unit is_digit) all).0, x)) (sym r));
      number = sym (ap (λ (x : List ℕ × List ℕ). capped_from n x.0) m) ∙ s.number;
    }

pub capped_stop : (n : ℕ) (us mid all : List ℕ) (u : ℕ) → first_is is_digit all ≡ true → us ≡ u ∷ mid
    → is_digit u ≡ false → CappedSoFar n us all → CappedDone n us all
capped_stop n us mid all u f q h s = capped_done n us all f (unit_stop is_digit us mid u q h) s

pub capped_end : (n : ℕ) (us all : List ℕ) → first_is is_digit all ≡ true → us ≡ [] → CappedSoFar n us all
    → CappedDone n us all
capped_end n us all f q s = capped_done n us all f (unit_end is_digit us q) s

pub no_digits : (p : ℕ → Bool) (us : List ℕ) → first_is p us ≡ false → some_digits p us ≡ None
unfolding some_digits
no_digits p us h = rw h refl
