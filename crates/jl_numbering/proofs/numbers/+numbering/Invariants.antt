use Rattle.std.proofs.Common.{◌+◌, ◌*◌}
use Rattle.jl_numbering.proofs.Walk.{Halfway, SameFrom}
use Rattle.jl_numbering.proofs.Lists.{functions, statements, declarators, cases, items, entries, expressions}
use Rattle.jl_numbering.proofs.numbers.+numbering.Given as goal

abbrev pub invariant-number_functions-loop-f : goal.invariant-number_functions-loop-f
invariant-number_functions-loop-f l = record {
  unvisited : SameFrom l.f-index l.fn.functions l.f-items;
  halfway : Halfway functions l.fn.functions l.f-items l.f-index l.next l.after;
}

abbrev pub invariant-number_statements-loop-s : goal.invariant-number_statements-loop-s
invariant-number_statements-loop-s l = record {
  unvisited : SameFrom l.s-index l.fn.statements l.s-items;
  halfway : Halfway statements l.fn.statements l.s-items l.s-index l.next l.after;
}

abbrev pub invariant-number_declarators-loop-d : goal.invariant-number_declarators-loop-d
invariant-number_declarators-loop-d l = record {
  unvisited : SameFrom l.d-index l.fn.declarators l.d-items;
  halfway : Halfway declarators l.fn.declarators l.d-items l.d-index l.next l.after;
}

abbrev pub invariant-number_cases-loop-c : goal.invariant-number_cases-loop-c
invariant-number_cases-loop-c l = record {
  unvisited : SameFrom l.c-index l.fn.cases l.c-items;
  halfway : Halfway cases l.fn.cases l.c-items l.c-index l.next l.after;
}

abbrev pub invariant-number_items-loop-e : goal.invariant-number_items-loop-e
invariant-number_items-loop-e l = record {
  unvisited : SameFrom l.e-index l.fn.items l.e-items;
  halfway : Halfway items l.fn.items l.e-items l.e-index l.next l.after;
}

abbrev pub invariant-number_entries-loop-entry : goal.invariant-number_entries-loop-entry
invariant-number_entries-loop-entry l = record {
  unvisited : SameFrom l.entry-index l.fn.entries l.entry-items;
  halfway : Halfway entries l.fn.entries l.entry-items l.entry-index l.next l.after;
}

abbrev pub invariant-number_expressions-loop-e : goal.invariant-number_expressions-loop-e
invariant-number_expressions-loop-e l = record {
  unvisited : SameFrom l.e-index l.fn.expressions l.e-items;
  halfway : Halfway expressions l.fn.expressions l.e-items l.e-index l.next l.after;
}

abbrev pub decreases-number_body : goal.decreases-number_body
decreases-number_body l = 3 * goal.size-number_body l

abbrev pub decreases-number_function : goal.decreases-number_function
decreases-number_function l = 3 * goal.size-number_function l

abbrev pub decreases-number_functions : goal.decreases-number_functions
decreases-number_functions l = 3 * goal.size-number_functions l + 1

abbrev pub decreases-number_statements : goal.decreases-number_statements
decreases-number_statements l = 3 * goal.size-number_statements l + 1

abbrev pub decreases-number_statement : goal.decreases-number_statement
decreases-number_statement l = 3 * goal.size-number_statement l

abbrev pub decreases-number_branch : goal.decreases-number_branch
decreases-number_branch l = 3 * goal.size-number_branch l + 2

abbrev pub decreases-number_catch : goal.decreases-number_catch
decreases-number_catch l = 3 * goal.size-number_catch l + 2

abbrev pub decreases-number_init : goal.decreases-number_init
decreases-number_init l = 3 * goal.size-number_init l

abbrev pub decreases-number_declarators : goal.decreases-number_declarators
decreases-number_declarators l = 3 * goal.size-number_declarators l + 2

abbrev pub decreases-number_cases : goal.decreases-number_cases
decreases-number_cases l = 3 * goal.size-number_cases l + 1

abbrev pub decreases-number_case : goal.decreases-number_case
decreases-number_case l = 3 * goal.size-number_case l

abbrev pub decreases-number_held : goal.decreases-number_held
decreases-number_held l = 3 * goal.size-number_held l + 1

abbrev pub decreases-number_expression : goal.decreases-number_expression
decreases-number_expression l = 3 * goal.size-number_expression l

abbrev pub decreases-number_target : goal.decreases-number_target
decreases-number_target l = 3 * goal.size-number_target l

abbrev pub decreases-number_items : goal.decreases-number_items
decreases-number_items l = 3 * goal.size-number_items l + 2

abbrev pub decreases-number_entries : goal.decreases-number_entries
decreases-number_entries l = 3 * goal.size-number_entries l + 1

abbrev pub decreases-number_entry : goal.decreases-number_entry
decreases-number_entry l = 3 * goal.size-number_entry l

abbrev pub decreases-number_expressions : goal.decreases-number_expressions
decreases-number_expressions l = 3 * goal.size-number_expressions l + 1
