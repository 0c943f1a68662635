-- By whether kinds are chosen, and where none of several is.
use Rattle.std.proofs.Common.{◌≡◌, Bool, true, false, refl}
use Rattle.std.specs.Prelude.{◌||◌}

-- either way
pub split : (b : Bool) (P : Bool → Type 0) → P true → (b ≡ false → P false) → P b
split true P x y = x
split false P x y = y refl

-- of two
pub first_not : (a b : Bool) → (a || b) ≡ false → a ≡ false
first_not true b e = cc
first_not false b e = refl

pub second_not : (a b : Bool) → (a || b) ≡ false → b ≡ false
second_not true b e = cc
second_not false b e = e

-- of three
pub record NoneOf (a b c : Bool) : Type 0 where
  pub first : a ≡ false
  pub second : b ≡ false
  pub third : c ≡ false

pub none_of : (a b c : Bool) → (a || b || c) ≡ false → NoneOf a b c
none_of true true true e = cc
none_of true true false e = cc
none_of true false true e = cc
none_of true false false e = cc
none_of false true true e = cc
none_of false true false e = cc
none_of false false true e = cc
none_of false false false e = record { first = refl; second = refl; third = refl }
