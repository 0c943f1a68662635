use Rattle.std.proofs.Common.{drop}
use Rattle.jl_meaning.specs.DeclarationBinding.{declare_global_variables}
use Rattle.jl_store.proofs.Loops.{Leaves}
use Rattle.jl_store.proofs.store.Store.declare_global_variables.Given as goal

abbrev pub invariant-loop-name : goal.invariant-loop-name
invariant-loop-name l =
    Leaves (declare_global_variables l.names) l.fn.self (declare_global_variables (drop l.name-index l.names)) l.self
