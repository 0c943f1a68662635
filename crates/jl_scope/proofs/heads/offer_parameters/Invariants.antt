use Rattle.std.proofs.Common.{◌≡◌, [], drop, map}
use Rattle.jl_ast.specs.View.{view_ident}
use Rattle.jl_scope.specs.EarlyErrors.{parameter_early_errors}
use Rattle.jl_scope.specs.Kinds.{first_from}
use Rattle.jl_scope.specs.inner.Steps.{scope_of}
use Rattle.jl_scope.proofs.heads.offer_parameters.Given as goal

abbrev pub invariant-loop-p : goal.invariant-loop-p
invariant-loop-p l =
    first_from l.found (parameter_early_errors (scope_of l.s) l.before (map view_ident (drop l.p-index l.params)))
    ≡ first_from l.initial.found (parameter_early_errors (scope_of l.s) [] (map view_ident l.params))
