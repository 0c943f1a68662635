-- What a profile keeps of the operations that it observed.
use Rattle.std.specs.Prelude.{◌≡◌, ℕ, zero, suc, Bool, false, List, [], ◌∷◌, Option, None, Some, is_some, nat_eq}
use Rattle.std.specs.Prelude.{if◌then◌else◌}
use Rattle.std.specs.Map.{lookup}
use Rattle.jl_op.specs.declared.op.OpId.{OpId}
use Rattle.jl_op.specs.Operations.{Operation}
use Rattle.jl_profile.specs.Births.{Born, Made, births_among, is_born, is_used, new_began}

-- it knows the births, the objects that were born and used, and the calls by `new` that began
pub record IsProfileOf (births : List Born) (born used news : ℕ → Bool) (observed : List Operation) : Type 0 where
  pub all : births ≡ births_among observed
  pub born_ones : (object : ℕ) → born object ≡ is_born observed object
  pub used_ones : (object : ℕ) → used object ≡ is_used observed object
  pub begun : (id : ℕ) → news id ≡ new_began observed id

-- whether the operation with this id ends a call by `new`, by the ids with which such calls began
abbrev pub new_ends_by : (news : ℕ → Bool) → (id : ℕ) → Bool
new_ends_by news zero = false
new_ends_by news (suc id) = news id

-- the birth of an object that is made, where it was not born before
abbrev pub borne : Option Made → List Born → OpId → List Born
borne None births id = []
borne (Some made) births id =
    if is_some (lookup (nat_eq made.1) births) then [] else (made.1, record { id = id; way = made.0 }) ∷ []
