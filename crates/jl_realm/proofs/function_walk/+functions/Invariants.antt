use Rattle.std.proofs.Common.{◌≡◌, ◌++◌, drop}
use Rattle.jl_ast.specs.View.{view_functions, view_statements, view_declarators, view_cases}
use Rattle.jl_ast.specs.View.{view_items, view_entries, view_expressions}
use Rattle.jl_state.specs.Words.{table_of}
use Rattle.jl_realm.specs.inner.Walk.{functions_of_list}
use Rattle.jl_realm.proofs.function_walk.+functions.Given as goal

abbrev pub invariant-add_functions-loop-f : goal.invariant-add_functions-loop-f
invariant-add_functions-loop-f l =
    table_of l.found.functions ++ functions_of_list l.strict (view_functions (drop l.f-index l.functions))
    ≡ table_of l.fn.found.functions ++ functions_of_list l.strict (view_functions l.functions)

abbrev pub invariant-add_statements-loop-s : goal.invariant-add_statements-loop-s
invariant-add_statements-loop-s l =
    table_of l.found.functions ++ functions_of_list l.strict (view_statements (drop l.s-index l.statements))
    ≡ table_of l.fn.found.functions ++ functions_of_list l.strict (view_statements l.statements)

abbrev pub invariant-add_declarators-loop-d : goal.invariant-add_declarators-loop-d
invariant-add_declarators-loop-d l =
    table_of l.found.functions ++ functions_of_list l.strict (view_declarators (drop l.d-index l.declarators))
    ≡ table_of l.fn.found.functions ++ functions_of_list l.strict (view_declarators l.declarators)

abbrev pub invariant-add_cases-loop-c : goal.invariant-add_cases-loop-c
invariant-add_cases-loop-c l =
    table_of l.found.functions ++ functions_of_list l.strict (view_cases (drop l.c-index l.cases))
    ≡ table_of l.fn.found.functions ++ functions_of_list l.strict (view_cases l.cases)

abbrev pub invariant-add_items-loop-e : goal.invariant-add_items-loop-e
invariant-add_items-loop-e l =
    table_of l.found.functions ++ functions_of_list l.strict (view_items (drop l.e-index l.items))
    ≡ table_of l.fn.found.functions ++ functions_of_list l.strict (view_items l.items)

abbrev pub invariant-add_entries-loop-entry : goal.invariant-add_entries-loop-entry
invariant-add_entries-loop-entry l =
    table_of l.found.functions ++ functions_of_list l.strict (view_entries (drop l.entry-index l.entries))
    ≡ table_of l.fn.found.functions ++ functions_of_list l.strict (view_entries l.entries)

abbrev pub invariant-add_expressions-loop-e : goal.invariant-add_expressions-loop-e
invariant-add_expressions-loop-e l =
    table_of l.found.functions ++ functions_of_list l.strict (view_expressions (drop l.e-index l.expressions))
    ≡ table_of l.fn.found.functions ++ functions_of_list l.strict (view_expressions l.expressions)
