-- What digits that were read stand for.
use Rattle.std.proofs.Common.{◌≡◌, refl, sym, ap, ◌∙◌, subst, ℕ, zero, suc, ◌+◌, ◌-◌, ◌*◌, ◌%◌, ◌^◌, ◌<◌, ◌≤◌, min}
use Rattle.std.proofs.Common.{List, [], ◌∷◌, length, get_or, take, arith, add-one, ⊎_elim}
use Rattle.std.proofs.lemmas.Bool.{cases_lt}
use Rattle.std.proofs.lemmas.Nat.{mul-le}
use Rattle.jl_token.specs.Characters.{decimal_from, hex_from, hex_digit_value}
use Rattle.jl_lex.specs.inner.Amounts.{Large, Stands, exact, beyond}
use Rattle.jl_lex.proofs.Powers.{ten_more, assoc, at_least, far, last_digit}
use Rattle.jl_lex.proofs.AmountLemmas.{large_itself, large_more, large_past}
use Rattle.jl_conv.specs.inner.Amounts.{Agree, equal, reached}

pub first_digit : (z m d : ℕ) → d < 10 → Stands 0 z m → Stands d 0 (m * 10 + d)
first_digit z m d small (exact h e l) =
    let nothing : 0 * 10 ^ z ≡ 0 = omega arith in
    exact (omega arith) (omega arith) (λ g. omega arith)
first_digit z m d small (beyond h g) = absurd (omega arith)

pub zero_digit : (c z m d : ℕ) → d ≡ 0 → Stands c z m → Stands c (z + 1) (m * 10 + d)
zero_digit c z m d none (exact h e l) =
    let more : m * 10 ≡ c * 10 ^ (z + 1) =
    ap (λ n. n * 10) e ∙ (assoc c (10 ^ z) 10 ∙ ap (λ n. c * n) (sym (ten_more z))) in
    exact h (omega arith) l
zero_digit c z m d none (beyond h g) =
    let same : m * 10 ≡ m * 10 + d = omega arith in beyond h (subst Large same (large_more m g))

above_zero : (c : ℕ) → ¬ (c ≡ 0) → 0 < c
above_zero c h = grind arith

pub far_digit : (c z m d : ℕ) → ¬ (c ≡ 0) → ¬ (d ≡ 0) → d < 10 → 15 < z → Stands c z m
    → Stands 18446744073709551615 0 (m * 10 + d)
far_digit c z m d some other small h (exact i e l) =
    let past = far c z (above_zero c some) (omega arith) in
    beyond (omega arith) (large_itself m d (above_zero d other) small (omega arith))
far_digit c z m d some other small h (beyond i g) =
    let past = large_past m g in
    beyond (omega arith) (large_itself m d (above_zero d other) small (omega arith))

pub near_digit : (c z m d s t : ℕ) → ¬ (d ≡ 0) → d < 10 → s ≡ min (c * 10 ^ (z + 1)) (2 ^ 64 - 1)
    → t ≡ min (s + d) (2 ^ 64 - 1) → Stands c z m → Stands t 0 (m * 10 + d)
near_digit c z m d s t other small is_s is_t (exact i e l) = ⊎_elim inside past (cases_lt 9007199254740991 t)
  where
    whole : c * 10 ^ (z + 1) ≡ m * 10
    whole = sym (ap (λ n. n * 10) e ∙ (assoc c (10 ^ z) 10 ∙ ap (λ n. c * n) (sym (ten_more z))))

    inside : 9007199254740991 < t → Stands t 0 (m * 10 + d)
    inside h = let w = whole in beyond h (large_itself m d (above_zero d other) small (omega arith))

    past : t ≤ 9007199254740991 → Stands t 0 (m * 10 + d)
    past h =
        let w = whole in
        let is : t ≡ m * 10 + d = omega arith in
        let last = last_digit m d small in
        exact h (omega arith) (λ g. absurd (other (sym last ∙ ap (λ n. n % 10) (sym is) ∙ g)))
near_digit c z m d s t other small is_s is_t (beyond i g) =
    let past = large_past m g in
    let more = at_least c (z + 1) in
    beyond (omega arith) (large_itself m d (above_zero d other) small (omega arith))

-- one more digit of a list
pub decimal_more : (m : ℕ) (us : List ℕ) (i : ℕ) → i < length us
    → decimal_from m (take (i + 1) us) ≡ decimal_from m (take i us) * 10 + (get_or us i 0 - 48)
decimal_more m [] i h = absurd (omega arith)
decimal_more m (u ∷ us) zero h = refl
decimal_more m (u ∷ us) (suc i) h = rw add-one (rw add-one at (decimal_more (m * 10 + (u - 48)) us i (omega arith)))

pub hex_more : (m : ℕ) (us : List ℕ) (i : ℕ) → i < length us
    → hex_from m (take (i + 1) us) ≡ hex_from m (take i us) * 16 + hex_digit_value (get_or us i 0)
hex_more m [] i h = absurd (omega arith)
hex_more m (u ∷ us) zero h = refl
hex_more m (u ∷ us) (suc i) h = rw add-one (rw add-one at (hex_more (m * 16 + hex_digit_value u) us i (omega arith)))

-- a number that stands still at the top, with one more digit
pub agree_more : (limit b n m d s t : ℕ) → limit ≤ 2 ^ 64 - 1 → 0 < b → s ≡ min (n * b) (2 ^ 64 - 1)
    → t ≡ min (s + d) (2 ^ 64 - 1) → Agree limit n m → Agree limit t (m * b + d)
agree_more limit b n m d s t top some is_s is_t (equal e) =
    let same : n * b ≡ m * b = ap (λ k. k * b) e in
    ⊎_elim
    (λ over. reached (omega arith) (omega arith))
    (λ inside. equal (omega arith))
    (cases_lt (2 ^ 64 - 1) (m * b + d))
agree_more limit b n m d s t top some is_s is_t (reached h g) =
    let more = mul-le n 1 n b (omega arith) some in
    let more' = mul-le m 1 m b (omega arith) some in
    reached (omega arith) (omega arith)
