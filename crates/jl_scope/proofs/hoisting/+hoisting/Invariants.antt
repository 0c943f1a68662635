use Rattle.std.proofs.Common.{◌≡◌, ◌++◌, drop, map}
use Rattle.jl_scope.specs.Hoisting.{declared_in_forest}
use Rattle.jl_ast.specs.View.{view_statements, view_cases}
use Rattle.jl_scope.proofs.hoisting.+hoisting.Given as goal

abbrev pub invariant-add_statements-loop-s : goal.invariant-add_statements-loop-s
invariant-add_statements-loop-s l =
    map (λ n. n.now) l.names.items ++ declared_in_forest (view_statements (drop l.s-index l.statements))
    ≡ map (λ n. n.now) l.initial.names.items ++ declared_in_forest (view_statements l.statements)

abbrev pub invariant-add_cases-loop-c : goal.invariant-add_cases-loop-c
invariant-add_cases-loop-c l =
    map (λ n. n.now) l.names.items ++ declared_in_forest (view_cases (drop l.c-index l.cases))
    ≡ map (λ n. n.now) l.initial.names.items ++ declared_in_forest (view_cases l.cases)
