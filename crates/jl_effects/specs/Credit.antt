-- Parts that pay for what they emit: each step is worth one operation that is emitted. For laws that a run emits no
-- more operations than it takes steps.
use Rattle.std.specs.Prelude.{◌≤◌, ℕ, zero, suc}
use Rattle.jl_effects.specs.Effects.{Part, End, Fail, Step, Look, Change, Begin, Print, Perform, Emit}

-- what holds of the credit that is left when one more operation is emitted; there has to be some
abbrev pub if_paid : ℕ → (ℕ → Type 0) → Type 0
if_paid zero holds = ⊥
if_paid (suc credit) holds = holds credit

-- The part pays for all that it emits, whatever its store is and its jobs end with, if it begins with this credit and
-- takes more by its steps; and where it ends with an A, that much is left, or more.
abbrev pub Pays : {S C F J R O A : Type 0} → (left : A → ℕ) → Part S C F J R O A → (credit : ℕ) → Type 0
Pays left (End a) credit = left a ≤ credit
Pays left (Fail f) credit = Unit {0}
Pays left (Step p) credit = Pays left p (suc credit)
Pays {S = S} left (Look p) credit = (s : S) → Pays left (p s) credit
Pays left (Change c p) credit = Pays left p credit
Pays {R = R} left (Begin job p) credit = (end : R) → Pays left (p end) (suc credit)
Pays left (Print line p) credit = Pays left p credit
Pays left (Perform o p) credit = Pays left p credit
Pays left (Emit o p) credit = if_paid credit (λ d. Pays left p d)
