use Rattle.std.proofs.Common.{◌≡◌, map, take}
use Rattle.jl_lib_object.specs.inner.Names.{text_value}
use Rattle.jl_lib_object.proofs.own_names.text_values.Given as goal

abbrev pub invariant-loop-name : goal.invariant-loop-name
invariant-loop-name l = l.values ≡ map text_value (take l.name-index l.names)
