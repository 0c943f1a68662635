use Rattle.std.proofs.Common.{◌≡◌, take}
use Rattle.std.specs.Prelude.{filter}
use Rattle.jl_meaning.specs.builtins.Descriptors.{has_enumerable}
use Rattle.jl_lib_object.proofs.own_names.enumerable_among.Given as goal

abbrev pub invariant-loop-name : goal.invariant-loop-name
invariant-loop-name l = l.names ≡ filter (has_enumerable l.store l.id.0) (take l.name-index l.all)
