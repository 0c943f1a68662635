use Rattle.std.proofs.Common.{◌≡◌, ◌∷◌, [], map, take}
use Rattle.jl_value.specs.declared.value.Value.TheVariants as value
use Rattle.jl_lib_text.proofs.splitting.single_units.Given as goal

abbrev pub invariant-loop-unit : goal.invariant-loop-unit
invariant-loop-unit l = l.list ≡ map (λ part. value.Text part) (map (λ u. u ∷ []) (take l.unit-index l.units))
