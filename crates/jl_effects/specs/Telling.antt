-- Parts that perform allowed operations alone, and begin allowed jobs alone.
use Rattle.jl_effects.specs.Effects.{Part, End, Fail, Step, Look, Change, Begin, Print, Perform, Emit}

-- whatever the store is, and whatever its jobs end with; hooks may emit what they like
abbrev pub Tells : {S C F J R O A : Type 0} → (IsOwn : O → Type 0) → (IsGood : J → Type 0) → Part S C F J R O A
    → Type 0
Tells IsOwn IsGood (End a) = Unit {0}
Tells IsOwn IsGood (Fail f) = Unit {0}
Tells IsOwn IsGood (Step p) = Tells IsOwn IsGood p
Tells {S = S} IsOwn IsGood (Look p) = (s : S) → Tells IsOwn IsGood (p s)
Tells IsOwn IsGood (Change c p) = Tells IsOwn IsGood p
Tells {R = R} IsOwn IsGood (Begin job p) = IsGood job × ((end : R) → Tells IsOwn IsGood (p end))
Tells IsOwn IsGood (Print line p) = Tells IsOwn IsGood p
Tells IsOwn IsGood (Perform o p) = IsOwn o × Tells IsOwn IsGood p
Tells IsOwn IsGood (Emit o p) = Tells IsOwn IsGood p
