use Rattle.std.proofs.Common.{◌≡◌, drop}
use Rattle.jl_ast.specs.View.{view_functions, view_statements, view_declarators, view_cases, view_items}
use Rattle.jl_ast.specs.View.{view_entries, view_expressions}
use Rattle.jl_scope.specs.EarlyErrors.{forest_early_errors}
use Rattle.jl_scope.specs.Kinds.{first_from}
use Rattle.jl_scope.specs.inner.Steps.{scope_of}
use Rattle.jl_scope.proofs.walk.+walk.Given as goal

abbrev pub invariant-walk_functions-loop-f : goal.invariant-walk_functions-loop-f
invariant-walk_functions-loop-f l =
    first_from l.found (forest_early_errors (scope_of l.s) (view_functions (drop l.f-index l.functions)))
    ≡ first_from l.initial.found (forest_early_errors (scope_of l.s) (view_functions l.functions))

abbrev pub invariant-walk_statements-loop-statement : goal.invariant-walk_statements-loop-statement
invariant-walk_statements-loop-statement l =
    first_from l.found (forest_early_errors (scope_of l.s) (view_statements (drop l.statement-index l.statements)))
    ≡ first_from l.initial.found (forest_early_errors (scope_of l.s) (view_statements l.statements))

abbrev pub invariant-walk_declarators-loop-d : goal.invariant-walk_declarators-loop-d
invariant-walk_declarators-loop-d l =
    first_from l.found (forest_early_errors (scope_of l.s) (view_declarators (drop l.d-index l.declarators)))
    ≡ first_from l.initial.found (forest_early_errors (scope_of l.s) (view_declarators l.declarators))

abbrev pub invariant-walk_cases-loop-c : goal.invariant-walk_cases-loop-c
invariant-walk_cases-loop-c l =
    first_from l.found (forest_early_errors (scope_of l.s) (view_cases (drop l.c-index l.cases)))
    ≡ first_from l.initial.found (forest_early_errors (scope_of l.s) (view_cases l.cases))

abbrev pub invariant-walk_items-loop-e : goal.invariant-walk_items-loop-e
invariant-walk_items-loop-e l =
    first_from l.found (forest_early_errors (scope_of l.s) (view_items (drop l.e-index l.items)))
    ≡ first_from l.initial.found (forest_early_errors (scope_of l.s) (view_items l.items))

abbrev pub invariant-walk_entries-loop-entry : goal.invariant-walk_entries-loop-entry
invariant-walk_entries-loop-entry l =
    first_from l.found (forest_early_errors (scope_of l.s) (view_entries (drop l.entry-index l.entries)))
    ≡ first_from l.initial.found (forest_early_errors (scope_of l.s) (view_entries l.entries))

abbrev pub invariant-walk_expressions-loop-e : goal.invariant-walk_expressions-loop-e
invariant-walk_expressions-loop-e l =
    first_from l.found (forest_early_errors (scope_of l.s) (view_expressions (drop l.e-index l.expressions)))
    ≡ first_from l.initial.found (forest_early_errors (scope_of l.s) (view_expressions l.expressions))
