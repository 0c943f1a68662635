-- Parts that fail by allowed faults alone, whatever their jobs do: for proofs that some fault never comes.
use Rattle.std.specs.Prelude.{◌≡◌}
use Rattle.jl_effects.specs.Effects.{Part, End, Fail, Step, Look, Change, Begin, Print, Perform, Emit}

-- From a store on, the part fails by allowed faults alone, ends with what IsEnd allows there, and begins jobs alone
-- that an I names, each of which ends with what IsJobEnd allows, and at a store that Keeps what held of the one before.
module _ {S C F J R I : Type 0} (apply : C → S → S) (Keeps : S → S → Type 0) (IsAllowed : F → Type 0) (job_of : I → J)
    (IsJobEnd : I → R → Type 0) where
  abbrev pub IsSteady : {O A : Type 0} → S → (IsEnd : A → S → Type 0) → Part S C F J R O A → Type 0
  IsSteady s IsEnd (End a) = IsEnd a s
  IsSteady s IsEnd (Fail f) = IsAllowed f
  IsSteady s IsEnd (Step p) = IsSteady s IsEnd p
  IsSteady s IsEnd (Look p) = IsSteady s IsEnd (p s)
  IsSteady s IsEnd (Change c p) = IsSteady (apply c s) IsEnd p
  IsSteady s IsEnd (Begin j p) =
      (i : I) × (job_of i ≡ j) × ((r : R) (t : S) → Keeps s t → IsJobEnd i r → IsSteady t IsEnd (p r))
  IsSteady s IsEnd (Print line p) = IsSteady s IsEnd p
  IsSteady s IsEnd (Perform o p) = IsSteady s IsEnd p
  IsSteady s IsEnd (Emit o p) = IsSteady s IsEnd p
