use Rattle.std.proofs.Common.{◌≡◌, ◌++◌, drop, map}
use Rattle.jl_scope.specs.Hoisting.{declared_in_forest}
use Rattle.jl_ast.specs.View.{view_declarators}
use Rattle.jl_scope.proofs.hoisting.add_declarators.Given as goal

abbrev pub invariant-loop-d : goal.invariant-loop-d
invariant-loop-d l =
    map (λ n. n.now) l.names.items ++ declared_in_forest (view_declarators (drop l.d-index l.declarators))
    ≡ map (λ n. n.now) l.initial.names.items ++ declared_in_forest (view_declarators l.declarators)
