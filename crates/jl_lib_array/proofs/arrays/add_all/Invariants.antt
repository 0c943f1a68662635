use Rattle.std.proofs.Common.{drop}
use Rattle.jl_meaning.specs.builtins.Array.{add_all}
use Rattle.jl_store.proofs.Loops.{Leaves}
use Rattle.jl_lib_array.proofs.arrays.add_all.Given as goal

abbrev pub invariant-loop-index : goal.invariant-loop-index
invariant-loop-index l =
    Leaves (add_all l.array 0 l.values) l.fn.store (add_all l.array l.index (drop l.index l.values)) l.store
