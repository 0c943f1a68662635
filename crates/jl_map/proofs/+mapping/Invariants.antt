use Rattle.std.proofs.Common.{◌≡◌, ◌+◌, ◌*◌, ◌++◌, drop, length}
use Rattle.jl_ast.specs.View.{view_cases, view_declarators, view_entries, view_expressions, view_functions}
use Rattle.jl_ast.specs.View.{view_items, view_statements}
use Rattle.jl_op.specs.IdMap.{forest_entries, place_of}
use Rattle.jl_op.specs.Ids.{forest_id_count}
use Rattle.jl_map.proofs.+mapping.Given as goal

abbrev pub invariant-lists::add_functions-loop-f : goal.invariant-lists::add_functions-loop-f
invariant-lists::add_functions-loop-f l = record {
  so_far : l.map ++ forest_entries place_of (view_functions (drop l.f-index l.functions))
      ≡ l.initial.map ++ forest_entries place_of (view_functions l.functions);
  counted : length l.map + forest_id_count (view_functions (drop l.f-index l.functions))
      ≡ length l.initial.map + forest_id_count (view_functions l.functions);
}

abbrev pub invariant-lists::add_statements-loop-s : goal.invariant-lists::add_statements-loop-s
invariant-lists::add_statements-loop-s l = record {
  so_far : l.map ++ forest_entries place_of (view_statements (drop l.s-index l.statements))
      ≡ l.initial.map ++ forest_entries place_of (view_statements l.statements);
  counted : length l.map + forest_id_count (view_statements (drop l.s-index l.statements))
      ≡ length l.initial.map + forest_id_count (view_statements l.statements);
}

abbrev pub invariant-lists::add_declarators-loop-d : goal.invariant-lists::add_declarators-loop-d
invariant-lists::add_declarators-loop-d l = record {
  so_far : l.map ++ forest_entries place_of (view_declarators (drop l.d-index l.declarators))
      ≡ l.initial.map ++ forest_entries place_of (view_declarators l.declarators);
  counted : length l.map + forest_id_count (view_declarators (drop l.d-index l.declarators))
      ≡ length l.initial.map + forest_id_count (view_declarators l.declarators);
}

abbrev pub invariant-lists::add_cases-loop-c : goal.invariant-lists::add_cases-loop-c
invariant-lists::add_cases-loop-c l = record {
  so_far : l.map ++ forest_entries place_of (view_cases (drop l.c-index l.cases))
      ≡ l.initial.map ++ forest_entries place_of (view_cases l.cases);
  counted : length l.map + forest_id_count (view_cases (drop l.c-index l.cases))
      ≡ length l.initial.map + forest_id_count (view_cases l.cases);
}

abbrev pub invariant-lists::add_array-loop-e : goal.invariant-lists::add_array-loop-e
invariant-lists::add_array-loop-e l = record {
  so_far : l.map ++ forest_entries place_of (view_items (drop l.e-index l.items))
      ≡ l.initial.map ++ forest_entries place_of (view_items l.items);
  counted : length l.map + forest_id_count (view_items (drop l.e-index l.items))
      ≡ length l.initial.map + forest_id_count (view_items l.items);
}

abbrev pub invariant-lists::add_object-loop-entry : goal.invariant-lists::add_object-loop-entry
invariant-lists::add_object-loop-entry l = record {
  so_far : l.map ++ forest_entries place_of (view_entries (drop l.entry-index l.entries))
      ≡ l.initial.map ++ forest_entries place_of (view_entries l.entries);
  counted : length l.map + forest_id_count (view_entries (drop l.entry-index l.entries))
      ≡ length l.initial.map + forest_id_count (view_entries l.entries);
}

abbrev pub invariant-lists::add_expressions-loop-e : goal.invariant-lists::add_expressions-loop-e
invariant-lists::add_expressions-loop-e l = record {
  so_far : l.map ++ forest_entries place_of (view_expressions (drop l.e-index l.expressions))
      ≡ l.initial.map ++ forest_entries place_of (view_expressions l.expressions);
  counted : length l.map + forest_id_count (view_expressions (drop l.e-index l.expressions))
      ≡ length l.initial.map + forest_id_count (view_expressions l.expressions);
}

-- What is as large as its part is above it: a list or an option above what it holds, and a row with a part above that
-- part.

abbrev pub decreases-expressions::add_expression : goal.decreases-expressions::add_expression
decreases-expressions::add_expression l = 4 * goal.size-expressions::add_expression l

abbrev pub decreases-expressions::add_with : goal.decreases-expressions::add_with
decreases-expressions::add_with l = 4 * goal.size-expressions::add_with l + 1

abbrev pub decreases-expressions::add_test : goal.decreases-expressions::add_test
decreases-expressions::add_test l = 4 * goal.size-expressions::add_test l + 2

abbrev pub decreases-expressions::add_optional : goal.decreases-expressions::add_optional
decreases-expressions::add_optional l = 4 * goal.size-expressions::add_optional l + 1

abbrev pub decreases-expressions::add_function_expression : goal.decreases-expressions::add_function_expression
decreases-expressions::add_function_expression l = 4 * goal.size-expressions::add_function_expression l + 1

abbrev pub decreases-expressions::add_callee : goal.decreases-expressions::add_callee
decreases-expressions::add_callee l = 4 * goal.size-expressions::add_callee l + 2

abbrev pub decreases-expressions::add_method : goal.decreases-expressions::add_method
decreases-expressions::add_method l = 4 * goal.size-expressions::add_method l + 1

abbrev pub decreases-expressions::add_constructor : goal.decreases-expressions::add_constructor
decreases-expressions::add_constructor l = 4 * goal.size-expressions::add_constructor l + 1

abbrev pub decreases-expressions::add_unary : goal.decreases-expressions::add_unary
decreases-expressions::add_unary l = 4 * goal.size-expressions::add_unary l + 3

abbrev pub decreases-expressions::add_delete : goal.decreases-expressions::add_delete
decreases-expressions::add_delete l = 4 * goal.size-expressions::add_delete l + 1

abbrev pub decreases-expressions::add_typeof : goal.decreases-expressions::add_typeof
decreases-expressions::add_typeof l = 4 * goal.size-expressions::add_typeof l + 2

abbrev pub decreases-expressions::add_update : goal.decreases-expressions::add_update
decreases-expressions::add_update l = 4 * goal.size-expressions::add_update l + 1

abbrev pub decreases-expressions::add_assigned : goal.decreases-expressions::add_assigned
decreases-expressions::add_assigned l = 4 * goal.size-expressions::add_assigned l + 1

abbrev pub decreases-expressions::add_target : goal.decreases-expressions::add_target
decreases-expressions::add_target l = 4 * goal.size-expressions::add_target l

abbrev pub decreases-expressions::add_entry : goal.decreases-expressions::add_entry
decreases-expressions::add_entry l = 4 * goal.size-expressions::add_entry l

abbrev pub decreases-expressions::add_function : goal.decreases-expressions::add_function
decreases-expressions::add_function l = 4 * goal.size-expressions::add_function l

abbrev pub decreases-lists::add_body : goal.decreases-lists::add_body
decreases-lists::add_body l = 4 * goal.size-lists::add_body l

abbrev pub decreases-lists::add_functions : goal.decreases-lists::add_functions
decreases-lists::add_functions l = 4 * goal.size-lists::add_functions l + 1

abbrev pub decreases-lists::add_statements : goal.decreases-lists::add_statements
decreases-lists::add_statements l = 4 * goal.size-lists::add_statements l + 1

abbrev pub decreases-lists::add_declarators : goal.decreases-lists::add_declarators
decreases-lists::add_declarators l = 4 * goal.size-lists::add_declarators l + 3

abbrev pub decreases-lists::add_cases : goal.decreases-lists::add_cases
decreases-lists::add_cases l = 4 * goal.size-lists::add_cases l + 1

abbrev pub decreases-lists::add_array : goal.decreases-lists::add_array
decreases-lists::add_array l = 4 * goal.size-lists::add_array l + 2

abbrev pub decreases-lists::add_object : goal.decreases-lists::add_object
decreases-lists::add_object l = 4 * goal.size-lists::add_object l + 1

abbrev pub decreases-lists::add_expressions : goal.decreases-lists::add_expressions
decreases-lists::add_expressions l = 4 * goal.size-lists::add_expressions l + 1

abbrev pub decreases-statements::add_statement : goal.decreases-statements::add_statement
decreases-statements::add_statement l = 4 * goal.size-statements::add_statement l

abbrev pub decreases-statements::add_return : goal.decreases-statements::add_return
decreases-statements::add_return l = 4 * goal.size-statements::add_return l + 2

abbrev pub decreases-statements::add_branch : goal.decreases-statements::add_branch
decreases-statements::add_branch l = 4 * goal.size-statements::add_branch l + 2

abbrev pub decreases-statements::add_catch : goal.decreases-statements::add_catch
decreases-statements::add_catch l = 4 * goal.size-statements::add_catch l + 2

abbrev pub decreases-statements::add_init : goal.decreases-statements::add_init
decreases-statements::add_init l = 4 * goal.size-statements::add_init l

abbrev pub decreases-statements::add_declarator : goal.decreases-statements::add_declarator
decreases-statements::add_declarator l = 4 * goal.size-statements::add_declarator l + 2

abbrev pub decreases-statements::add_case : goal.decreases-statements::add_case
decreases-statements::add_case l = 4 * goal.size-statements::add_case l
