use Rattle.std.proofs.Common.{drop}
use Rattle.jl_meaning.specs.DeclarationBinding.{declare_global_functions}
use Rattle.jl_store.specs.Plain.{code_in, plain_functions}
use Rattle.jl_store.proofs.Loops.{Leaves}
use Rattle.jl_realm.specs.Global.{HasGlobalObject}
use Rattle.jl_realm.proofs.declaring.declare_functions.Given as goal

abbrev pub invariant-loop-f : goal.invariant-loop-f
invariant-loop-f l = record {
  left : Leaves (declare_global_functions (plain_functions l.functions) (code_in 0 l.strict)) l.fn.store
      (declare_global_functions (plain_functions (drop l.f-index l.functions)) (code_in 0 l.strict)) l.store;
  global : HasGlobalObject l.store;
}
