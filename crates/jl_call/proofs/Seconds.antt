-- The second of the values that a hook gets.
use Rattle.std.proofs.Common.{◌≡◌, ◌∷◌, [], refl, List}
use Rattle.std.specs.Prelude.{slice_get, None, Some}
use Rattle.jl_value.specs.declared.value.Value.{Value}
use Rattle.jl_value.specs.declared.value.Value.TheVariants as value
use Rattle.jl_meaning.specs.forms.Hooks.{second_of}

pub second_there : (vs : List Value) (v : Value) → slice_get vs 1 ≡ Some v → v ≡ second_of vs
second_there [] v e = absurd (let differ = e in cc)
second_there (w ∷ []) v e = absurd (let differ = e in cc)
second_there (w ∷ x ∷ vs) v e = let same = e in cc

pub second_none : (vs : List Value) → slice_get vs 1 ≡ None → value.Undefined ≡ second_of vs
second_none [] e = refl
second_none (w ∷ []) e = refl
second_none (w ∷ x ∷ vs) e = absurd (let differ = e in cc)

pub ruleset seconds = (second_there, second_none)
