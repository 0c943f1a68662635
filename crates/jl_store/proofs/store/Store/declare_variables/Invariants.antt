use Rattle.std.proofs.Common.{drop}
use Rattle.jl_meaning.specs.DeclarationBinding.{declare_variables}
use Rattle.jl_store.proofs.Loops.{Leaves}
use Rattle.jl_store.proofs.store.Store.declare_variables.Given as goal

abbrev pub invariant-loop-name : goal.invariant-loop-name
invariant-loop-name l =
    Leaves (declare_variables l.env l.names) l.fn.self (declare_variables l.env (drop l.name-index l.names)) l.self
