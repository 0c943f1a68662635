use Rattle.std.proofs.Common.{◌≡◌, map}
use Rattle.std.specs.List.{range_with_len}
use Rattle.jl_meaning.specs.forms.Literals.{index_name}
use Rattle.jl_lib_object.proofs.own_names.unit_names.Given as goal

abbrev pub invariant-loop-index : goal.invariant-loop-index
invariant-loop-index l = l.names ≡ map index_name (range_with_len 0 l.index)
