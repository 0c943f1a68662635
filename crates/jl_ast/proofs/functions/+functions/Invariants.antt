use Rattle.std.proofs.Common.{◌≡◌, ◌++◌, drop, map}
use Rattle.jl_ast.specs.Table.{functions_of_forest}
use Rattle.jl_ast.specs.View.{view_function, view_functions, view_statements, view_declarators, view_cases}
use Rattle.jl_ast.specs.View.{view_items, view_entries, view_expressions}
use Rattle.jl_ast.proofs.functions.+functions.Given as goal

abbrev pub invariant-add_functions-loop-f : goal.invariant-add_functions-loop-f
invariant-add_functions-loop-f l =
    map view_function l.found ++ functions_of_forest (view_functions (drop l.f-index l.functions))
    ≡ map view_function l.fn.found ++ functions_of_forest (view_functions l.functions)

abbrev pub invariant-add_statements-loop-s : goal.invariant-add_statements-loop-s
invariant-add_statements-loop-s l =
    map view_function l.found ++ functions_of_forest (view_statements (drop l.s-index l.statements))
    ≡ map view_function l.fn.found ++ functions_of_forest (view_statements l.statements)

abbrev pub invariant-add_declarators-loop-d : goal.invariant-add_declarators-loop-d
invariant-add_declarators-loop-d l =
    map view_function l.found ++ functions_of_forest (view_declarators (drop l.d-index l.declarators))
    ≡ map view_function l.fn.found ++ functions_of_forest (view_declarators l.declarators)

abbrev pub invariant-add_cases-loop-c : goal.invariant-add_cases-loop-c
invariant-add_cases-loop-c l =
    map view_function l.found ++ functions_of_forest (view_cases (drop l.c-index l.cases))
    ≡ map view_function l.fn.found ++ functions_of_forest (view_cases l.cases)

abbrev pub invariant-add_items-loop-e : goal.invariant-add_items-loop-e
invariant-add_items-loop-e l =
    map view_function l.found ++ functions_of_forest (view_items (drop l.e-index l.items))
    ≡ map view_function l.fn.found ++ functions_of_forest (view_items l.items)

abbrev pub invariant-add_entries-loop-entry : goal.invariant-add_entries-loop-entry
invariant-add_entries-loop-entry l =
    map view_function l.found ++ functions_of_forest (view_entries (drop l.entry-index l.entries))
    ≡ map view_function l.fn.found ++ functions_of_forest (view_entries l.entries)

abbrev pub invariant-add_expressions-loop-e : goal.invariant-add_expressions-loop-e
invariant-add_expressions-loop-e l =
    map view_function l.found ++ functions_of_forest (view_expressions (drop l.e-index l.expressions))
    ≡ map view_function l.fn.found ++ functions_of_forest (view_expressions l.expressions)
