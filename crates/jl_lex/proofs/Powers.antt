-- Powers of ten.
use Rattle.std.proofs.Common.{◌≡◌, sym, ap, ◌∙◌, subst, ℕ, suc, ◌+◌, ◌-◌, ◌*◌, ◌/◌, ◌%◌, ◌^◌, ◌<◌, ◌≤◌, arith}
use Rattle.std.proofs.Common.{add-zero}
use Rattle.std.proofs.Math.Nat.{pow-suc}
use Rattle.std.proofs.lemmas.Nat.{pow-add, div-mul-add, mod-mul-add, mul-le}
use Rattle.jl_token.proofs.Values.{ten_pos}

pub ten_more : (z : ℕ) → 10 ^ (z + 1) ≡ 10 ^ z * 10
ten_more z = (let e : z + 1 ≡ suc z = omega arith in ap (λ k. 10 ^ k) e) ∙ pow-suc 10 z

-- a power of ten can be left out on both sides
pub cancel : (a b d : ℕ) → 0 < d → a * d ≡ b * d → a ≡ b
cancel a b d h e =
    let x : (a * d) / d ≡ a = (rw add-zero at (div-mul-add a d 0 h)) in
    let y : (b * d) / d ≡ b = (rw add-zero at (div-mul-add b d 0 h)) in
    sym x ∙ (ap (λ n. n / d) e ∙ y)

pub times_ten : (a : ℕ) → (a * 10) % 10 ≡ 0
times_ten a = rw add-zero at (mod-mul-add a 10 0 (omega arith))

pub last_digit : (a d : ℕ) → d < 10 → (a * 10 + d) % 10 ≡ d
last_digit a d h = mod-mul-add a 10 d h

pub assoc : (a b c : ℕ) → (a * b) * c ≡ a * (b * c)
assoc a b c = grind arith

-- c · 10 ^ k is at least c, and past 10 ^ 16 where k is 16 or more and c isn't 0
pub at_least : (c k : ℕ) → c ≤ c * 10 ^ k
at_least c k = let h = ten_pos k in let m = mul-le c 1 c (10 ^ k) (omega arith) (omega arith) in omega arith

pub sixteen : (k : ℕ) → 16 ≤ k → 10000000000000000 ≤ 10 ^ k
sixteen k h =
    let e : 16 + (k - 16) ≡ k = omega arith in
    let p = pow-add 10 16 (k - 16) in
    let t = ten_pos (k - 16) in
    let m = mul-le 10000000000000000 1 10000000000000000 (10 ^ (k - 16)) (omega arith) (omega arith) in
    subst (λ n. 10000000000000000 ≤ 10 ^ n) e (omega arith)

pub far : (c k : ℕ) → 0 < c → 16 ≤ k → 9007199254740991 < c * 10 ^ k
far c k h g = let s = sixteen k g in let m = mul-le 1 10000000000000000 c (10 ^ k) (omega arith) s in omega arith
