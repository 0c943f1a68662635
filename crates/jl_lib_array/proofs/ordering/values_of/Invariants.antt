use Rattle.std.proofs.Common.{◌≡◌, map, take}
use Rattle.jl_meaning.specs.builtins.ArrayChanges.{KeyedValue}
use Rattle.jl_lib_array.proofs.ordering.values_of.Given as goal

abbrev pub invariant-loop-element : goal.invariant-loop-element
invariant-loop-element l = l.values ≡ map (λ (x : KeyedValue). x.1) (take l.element-index l.elements)
