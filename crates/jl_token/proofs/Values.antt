-- The value of a numeric literal.
use Rattle.std.proofs.Common.{◌≡◌, refl, sym, ap, ◌∙◌, ℕ, zero, suc, ◌*◌, ◌/◌, ◌%◌, ◌^◌, ◌<◌, ◌≤◌, Bool, true, false}
use Rattle.std.proofs.Common.{◌&&◌, ◌==◌, nat_le, Some, None, if◌then◌else◌, arith, add-zero}
use Rattle.std.proofs.Math.Nat.{pow-suc}
use Rattle.std.proofs.lemmas.Nat.{div-add-mod', div-mul-add, mod-mul-add}
use Rattle.std.proofs.lemmas.Bool.{eqb-true, leb-true, le-leb}
use Rattle.jl_token.specs.Elements.{HasValue}
use Rattle.jl_token.specs.inner.Scanner.{value_of}
use Rattle.jl_token.proofs.Tests.{and_true}

pub ten_pos : (l : ℕ) → 0 < 10 ^ l
ten_pos zero = omega arith
ten_pos (suc l) = let h = ten_pos l in omega (arith, pow-suc 10 l)

sound_by : (m r l n : ℕ) (b : Bool)
    → (((m * 10 ^ r) % (10 ^ l) == 0) && nat_le ((m * 10 ^ r) / (10 ^ l)) 9007199254740991) ≡ b
    → (if b then Some ((m * 10 ^ r) / (10 ^ l)) else None) ≡ Some n → HasValue m r l n
sound_by m r l n false h e = absurd cc
sound_by m r l n true h e =
    let a = and_true ((m * 10 ^ r) % (10 ^ l) == 0) (nat_le ((m * 10 ^ r) / (10 ^ l)) 9007199254740991) h in
    let z = eqb-true ((m * 10 ^ r) % (10 ^ l)) 0 a.0 in
    let i = leb-true ((m * 10 ^ r) / (10 ^ l)) 9007199254740991 a.1 in
    let q : (m * 10 ^ r) / (10 ^ l) ≡ n = cc in
    let d = div-add-mod' (m * 10 ^ r) (10 ^ l) in
    let f : (m * 10 ^ r) / (10 ^ l) * 10 ^ l ≡ m * 10 ^ r = omega arith in
    record { exact = ap (λ x. x * 10 ^ l) (sym q) ∙ f; inside = omega arith }

pub value_sound : (m r l n : ℕ) → value_of m r l ≡ Some n → HasValue m r l n
unfolding value_of
value_sound m r l n e = sound_by m r l n _ refl e

complete_by : (n d : ℕ) → 0 < d → n ≤ 9007199254740991
    → (if ((n * d) % d == 0) && nat_le ((n * d) / d) 9007199254740991 then Some ((n * d) / d) else None) ≡ Some n
complete_by n d h i =
    let a : (n * d) % d ≡ 0 = (rw add-zero at (mod-mul-add n d 0 h)) in
    let b : (n * d) / d ≡ n = (rw add-zero at (div-mul-add n d 0 h)) in
    rw (a, b, le-leb n 9007199254740991 i) refl

pub value_complete : (m r l n : ℕ) → HasValue m r l n → value_of m r l ≡ Some n
unfolding value_of
value_complete m r l n v = rw (sym v.exact) (complete_by n (10 ^ l) (ten_pos l) v.inside)
