use Rattle.std.proofs.Common.{drop}
use Rattle.jl_meaning.specs.DeclarationBinding.{declare_functions}
use Rattle.jl_store.specs.Plain.{code_in, plain_functions}
use Rattle.jl_store.proofs.Loops.{Leaves}
use Rattle.jl_store.proofs.store.Store.declare_functions.Given as goal

abbrev pub invariant-loop-f : goal.invariant-loop-f
invariant-loop-f l =
    Leaves (declare_functions (plain_functions l.functions) (code_in l.env l.strict)) l.fn.self
    (declare_functions (plain_functions (drop l.f-index l.functions)) (code_in l.env l.strict)) l.self
