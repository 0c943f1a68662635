use Rattle.std.proofs.Common.{◌≡◌, ◌++◌, drop, map}
use Rattle.jl_scope.specs.Hoisting.{function_names}
use Rattle.jl_ast.specs.View.{view_functions}
use Rattle.jl_scope.proofs.hoisting.add_functions.Given as goal

abbrev pub invariant-loop-f : goal.invariant-loop-f
invariant-loop-f l =
    map (λ n. n.now) l.names.items ++ function_names (view_functions (drop l.f-index l.functions))
    ≡ map (λ n. n.now) l.initial.names.items ++ function_names (view_functions l.functions)
