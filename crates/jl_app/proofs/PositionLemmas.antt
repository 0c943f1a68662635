-- A place past the end is told as the end.
use Rattle.std.proofs.Common.{◌≡◌, ℕ, zero, suc, ◌+◌, Bool, true, false, cond, List, [], ◌∷◌, length, get_or}
use Rattle.std.proofs.Common.{min, refl, arith}
use Rattle.jl_text.specs.Places.{ends_line, position_from, position_of}

either : (b : Bool) (x y z w : ℕ × ℕ) → x ≡ z → y ≡ w → cond b x y ≡ cond b z w
either true x y z w e f = e
either false x y z w e f = f

clamped : (line column : ℕ) (units : List ℕ) (at within : ℕ) → within ≡ min at (length units)
    → position_from line column units within ≡ position_from line column units at
clamped line column [] at within e = refl
clamped line column (u ∷ units) zero zero e = refl
clamped line column (u ∷ units) zero (suc within) e = absurd (omega arith)
clamped line column (u ∷ units) (suc at) zero e = absurd (omega arith)
clamped line column (u ∷ units) (suc at) (suc within) e =
    let less : within ≡ min at (length units) = omega arith in
    either (ends_line u (get_or units 0 0)) _ _ _ _ (clamped (line + 1) 1 units at within less)
    (clamped line (column + 1) units at within less)

pub position_clamped : (units : List ℕ) (at within : ℕ) → within ≡ min at (length units)
    → position_of units within ≡ position_of units at
position_clamped units at within e = clamped 1 1 units at within e
