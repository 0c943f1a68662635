use Rattle.std.proofs.Common.{◌≡◌, ◌++◌, map, take}
use Rattle.jl_lib_object.specs.inner.Names.{name_of_entry}
use Rattle.jl_lib_object.proofs.own_names.with_stored.Given as goal

abbrev pub invariant-loop-entry : goal.invariant-loop-entry
invariant-loop-entry l = l.names ≡ l.fn.names ++ map name_of_entry (take l.entry-index l.stored)
