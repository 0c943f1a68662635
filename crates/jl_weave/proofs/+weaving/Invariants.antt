use Rattle.std.proofs.Common.{◌+◌, ◌*◌}
use Rattle.jl_ast.specs.Tree.{end}
use Rattle.jl_weave.specs.inner.Bare.{bare_statements}
use Rattle.jl_weave.specs.inner.Woven.{chosen_of}
use Rattle.jl_weave.proofs.ListsSeen.{cases, declarators, entries, expressions, functions, items, statements}
use Rattle.jl_weave.proofs.Walk.{Halfway}
use Rattle.jl_weave.proofs.+weaving.Given as goal

abbrev pub invariant-lists::weave_expressions-loop-e : goal.invariant-lists::weave_expressions-loop-e
invariant-lists::weave_expressions-loop-e l =
    Halfway (chosen_of l.w) expressions end l.expressions l.made l.e-index l.fn.ids.next l.ids.next

abbrev pub invariant-lists::weave_items-loop-e : goal.invariant-lists::weave_items-loop-e
invariant-lists::weave_items-loop-e l =
    Halfway (chosen_of l.w) items end l.items l.made l.e-index l.fn.ids.next l.ids.next

abbrev pub invariant-lists::weave_entries-loop-entry : goal.invariant-lists::weave_entries-loop-entry
invariant-lists::weave_entries-loop-entry l =
    Halfway (chosen_of l.w) entries end l.entries l.made l.entry-index l.fn.ids.next l.ids.next

abbrev pub invariant-lists::weave_functions-loop-f : goal.invariant-lists::weave_functions-loop-f
invariant-lists::weave_functions-loop-f l =
    Halfway (chosen_of l.w) functions end l.functions l.made l.f-index l.fn.ids.next l.ids.next

abbrev pub invariant-lists::weave_statements-loop-s : goal.invariant-lists::weave_statements-loop-s
invariant-lists::weave_statements-loop-s l =
    Halfway (chosen_of l.w) statements (bare_statements l.fn.first) l.statements l.made l.s-index l.fn.ids.next
    l.ids.next

abbrev pub invariant-lists::weave_declarators-loop-d : goal.invariant-lists::weave_declarators-loop-d
invariant-lists::weave_declarators-loop-d l =
    Halfway (chosen_of l.w) declarators end l.declarators l.made l.d-index l.fn.ids.next l.ids.next

abbrev pub invariant-lists::weave_cases-loop-c : goal.invariant-lists::weave_cases-loop-c
invariant-lists::weave_cases-loop-c l =
    Halfway (chosen_of l.w) cases end l.cases l.made l.c-index l.fn.ids.next l.ids.next

abbrev pub decreases-expressions::weave_expression : goal.decreases-expressions::weave_expression
decreases-expressions::weave_expression l = 5 * goal.size-expressions::weave_expression l

abbrev pub decreases-expressions::weave_test : goal.decreases-expressions::weave_test
decreases-expressions::weave_test l = 5 * goal.size-expressions::weave_test l + 1

abbrev pub decreases-expressions::weave_optional : goal.decreases-expressions::weave_optional
decreases-expressions::weave_optional l = 5 * goal.size-expressions::weave_optional l + 1

abbrev pub decreases-expressions::weave_callee : goal.decreases-expressions::weave_callee
decreases-expressions::weave_callee l = 5 * goal.size-expressions::weave_callee l + 1

abbrev pub decreases-expressions::weave_unary : goal.decreases-expressions::weave_unary
decreases-expressions::weave_unary l = 5 * goal.size-expressions::weave_unary l + 2

abbrev pub decreases-expressions::weave_delete : goal.decreases-expressions::weave_delete
decreases-expressions::weave_delete l = 5 * goal.size-expressions::weave_delete l + 1

abbrev pub decreases-expressions::weave_typeof : goal.decreases-expressions::weave_typeof
decreases-expressions::weave_typeof l = 5 * goal.size-expressions::weave_typeof l + 1

abbrev pub decreases-expressions::weave_target : goal.decreases-expressions::weave_target
decreases-expressions::weave_target l = 5 * goal.size-expressions::weave_target l

abbrev pub decreases-expressions::weave_entry : goal.decreases-expressions::weave_entry
decreases-expressions::weave_entry l = 5 * goal.size-expressions::weave_entry l

abbrev pub decreases-expressions::weave_function : goal.decreases-expressions::weave_function
decreases-expressions::weave_function l = 5 * goal.size-expressions::weave_function l

abbrev pub decreases-lists::weave_expressions : goal.decreases-lists::weave_expressions
decreases-lists::weave_expressions l = 5 * goal.size-lists::weave_expressions l + 1

abbrev pub decreases-lists::weave_items : goal.decreases-lists::weave_items
decreases-lists::weave_items l = 5 * goal.size-lists::weave_items l + 2

abbrev pub decreases-lists::weave_entries : goal.decreases-lists::weave_entries
decreases-lists::weave_entries l = 5 * goal.size-lists::weave_entries l + 1

abbrev pub decreases-lists::weave_functions : goal.decreases-lists::weave_functions
decreases-lists::weave_functions l = 5 * goal.size-lists::weave_functions l + 1

abbrev pub decreases-lists::weave_statements : goal.decreases-lists::weave_statements
decreases-lists::weave_statements l = 5 * goal.size-lists::weave_statements l + 2

abbrev pub decreases-lists::weave_block : goal.decreases-lists::weave_block
decreases-lists::weave_block l = 5 * goal.size-lists::weave_block l + 3

abbrev pub decreases-lists::weave_declarators : goal.decreases-lists::weave_declarators
decreases-lists::weave_declarators l = 5 * goal.size-lists::weave_declarators l + 3

abbrev pub decreases-lists::weave_cases : goal.decreases-lists::weave_cases
decreases-lists::weave_cases l = 5 * goal.size-lists::weave_cases l + 1

abbrev pub decreases-statements::weave_statement : goal.decreases-statements::weave_statement
decreases-statements::weave_statement l = 5 * goal.size-statements::weave_statement l + 1

abbrev pub decreases-statements::weave_branch : goal.decreases-statements::weave_branch
decreases-statements::weave_branch l = 5 * goal.size-statements::weave_branch l + 4

abbrev pub decreases-statements::weave_catch : goal.decreases-statements::weave_catch
decreases-statements::weave_catch l = 5 * goal.size-statements::weave_catch l + 3

abbrev pub decreases-statements::weave_init : goal.decreases-statements::weave_init
decreases-statements::weave_init l = 5 * goal.size-statements::weave_init l

abbrev pub decreases-statements::weave_declarator : goal.decreases-statements::weave_declarator
decreases-statements::weave_declarator l = 5 * goal.size-statements::weave_declarator l + 2

abbrev pub decreases-statements::weave_case : goal.decreases-statements::weave_case
decreases-statements::weave_case l = 5 * goal.size-statements::weave_case l

abbrev pub decreases-statements::weave_if : goal.decreases-statements::weave_if
decreases-statements::weave_if l = 5 * goal.size-statements::weave_if l

abbrev pub decreases-statements::weave_return : goal.decreases-statements::weave_return
decreases-statements::weave_return l = 5 * goal.size-statements::weave_return l

abbrev pub decreases-statements::weave_labelled : goal.decreases-statements::weave_labelled
decreases-statements::weave_labelled l = 5 * goal.size-statements::weave_labelled l

abbrev pub decreases-statements::weave_switch : goal.decreases-statements::weave_switch
decreases-statements::weave_switch l = 5 * goal.size-statements::weave_switch l

abbrev pub decreases-statements::weave_throw : goal.decreases-statements::weave_throw
decreases-statements::weave_throw l = 5 * goal.size-statements::weave_throw l

abbrev pub decreases-statements::weave_try : goal.decreases-statements::weave_try
decreases-statements::weave_try l = 5 * goal.size-statements::weave_try l

abbrev pub decreases-loops::weave_do_while : goal.decreases-loops::weave_do_while
decreases-loops::weave_do_while l = 5 * goal.size-loops::weave_do_while l

abbrev pub decreases-loops::weave_while : goal.decreases-loops::weave_while
decreases-loops::weave_while l = 5 * goal.size-loops::weave_while l

abbrev pub decreases-loops::weave_for : goal.decreases-loops::weave_for
decreases-loops::weave_for l = 5 * goal.size-loops::weave_for l

abbrev pub decreases-loops::weave_for_in : goal.decreases-loops::weave_for_in
decreases-loops::weave_for_in l = 5 * goal.size-loops::weave_for_in l
