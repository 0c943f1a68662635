use Rattle.std.proofs.Common.{◌≡◌, ◌+◌, ◌*◌, ◌++◌, drop, length}
use Rattle.jl_ast.specs.View.{view_functions, view_statements, view_declarators, view_cases, view_items}
use Rattle.jl_ast.specs.View.{view_entries, view_expressions}
use Rattle.jl_print.specs.CanonicalTokens.{tokens_of_all, tokens_of_arguments, tokens_of_entries}
use Rattle.jl_print.specs.CanonicalTokens.{tokens_of_declarators, tokens_of_items}
use Rattle.jl_print.proofs.Writing.{arguments_from, entries_from, declarators_from}
use Rattle.jl_print.proofs.+print.Given as goal

abbrev pub invariant-statement_walk::add_functions-loop-f : goal.invariant-statement_walk::add_functions-loop-f
invariant-statement_walk::add_functions-loop-f l =
    l.out ++ tokens_of_all (view_functions (drop l.f-index l.functions))
    ≡ l.initial.out ++ tokens_of_all (view_functions l.functions)

abbrev pub invariant-statement_walk::add_statements-loop-s : goal.invariant-statement_walk::add_statements-loop-s
invariant-statement_walk::add_statements-loop-s l =
    l.out ++ tokens_of_all (view_statements (drop l.s-index l.statements))
    ≡ l.initial.out ++ tokens_of_all (view_statements l.statements)

abbrev pub invariant-statement_walk::add_cases-loop-c : goal.invariant-statement_walk::add_cases-loop-c
invariant-statement_walk::add_cases-loop-c l =
    l.out ++ tokens_of_all (view_cases (drop l.c-index l.cases))
    ≡ l.initial.out ++ tokens_of_all (view_cases l.cases)

abbrev pub invariant-expression_walk::add_expressions-loop-e : goal.invariant-expression_walk::add_expressions-loop-e
invariant-expression_walk::add_expressions-loop-e l =
    l.out ++ arguments_from l.first (view_expressions (drop l.e-index l.expressions))
    ≡ l.initial.out ++ tokens_of_arguments (view_expressions l.expressions)

abbrev pub invariant-expression_walk::add_entries-loop-entry : goal.invariant-expression_walk::add_entries-loop-entry
invariant-expression_walk::add_entries-loop-entry l =
    l.out ++ entries_from l.first (view_entries (drop l.entry-index l.entries))
    ≡ l.initial.out ++ tokens_of_entries (view_entries l.entries)

abbrev pub invariant-statement_walk::add_declarators-loop-d : goal.invariant-statement_walk::add_declarators-loop-d
invariant-statement_walk::add_declarators-loop-d l =
    l.out ++ declarators_from l.first (view_declarators (drop l.d-index l.declarators))
    ≡ l.initial.out ++ tokens_of_declarators (view_declarators l.declarators)

abbrev pub invariant-expression_walk::add_items-loop-e : goal.invariant-expression_walk::add_items-loop-e
invariant-expression_walk::add_items-loop-e l =
    (l.left + l.e-index ≡ length l.items) ×
    (l.out ++ tokens_of_items (view_items (drop l.e-index l.items))
    ≡ l.initial.out ++ tokens_of_items (view_items l.items))

-- What is as large as its part is above it: a list or an option above what it holds, the operand above the
-- expression.

abbrev pub decreases-expression_walk::add_expression : goal.decreases-expression_walk::add_expression
decreases-expression_walk::add_expression l = 6 * goal.size-expression_walk::add_expression l

abbrev pub decreases-expression_walk::add_in_parens_unless : goal.decreases-expression_walk::add_in_parens_unless
decreases-expression_walk::add_in_parens_unless l = 6 * goal.size-expression_walk::add_in_parens_unless l + 1

abbrev pub decreases-expression_walk::add_operand : goal.decreases-expression_walk::add_operand
decreases-expression_walk::add_operand l = 6 * goal.size-expression_walk::add_operand l + 2

abbrev pub decreases-expression_walk::add_target : goal.decreases-expression_walk::add_target
decreases-expression_walk::add_target l = 6 * goal.size-expression_walk::add_target l

abbrev pub decreases-expression_walk::add_expressions : goal.decreases-expression_walk::add_expressions
decreases-expression_walk::add_expressions l = 6 * goal.size-expression_walk::add_expressions l + 3

abbrev pub decreases-expression_walk::add_arguments : goal.decreases-expression_walk::add_arguments
decreases-expression_walk::add_arguments l = 6 * goal.size-expression_walk::add_arguments l + 4

abbrev pub decreases-expression_walk::add_item : goal.decreases-expression_walk::add_item
decreases-expression_walk::add_item l = 6 * goal.size-expression_walk::add_item l + 3

abbrev pub decreases-expression_walk::add_items : goal.decreases-expression_walk::add_items
decreases-expression_walk::add_items l = 6 * goal.size-expression_walk::add_items l + 4

abbrev pub decreases-expression_walk::add_entries : goal.decreases-expression_walk::add_entries
decreases-expression_walk::add_entries l = 6 * goal.size-expression_walk::add_entries l + 1

abbrev pub decreases-expression_walk::add_entry : goal.decreases-expression_walk::add_entry
decreases-expression_walk::add_entry l = 6 * goal.size-expression_walk::add_entry l

abbrev pub decreases-expression_walk::add_function : goal.decreases-expression_walk::add_function
decreases-expression_walk::add_function l = 6 * goal.size-expression_walk::add_function l

abbrev pub decreases-expression_walk::add_rest : goal.decreases-expression_walk::add_rest
decreases-expression_walk::add_rest l = 6 * goal.size-expression_walk::add_rest l

abbrev pub decreases-statement_walk::add_code : goal.decreases-statement_walk::add_code
decreases-statement_walk::add_code l = 6 * goal.size-statement_walk::add_code l + 1

abbrev pub decreases-statement_walk::add_body : goal.decreases-statement_walk::add_body
decreases-statement_walk::add_body l = 6 * goal.size-statement_walk::add_body l

abbrev pub decreases-statement_walk::add_functions : goal.decreases-statement_walk::add_functions
decreases-statement_walk::add_functions l = 6 * goal.size-statement_walk::add_functions l + 1

abbrev pub decreases-statement_walk::add_statements : goal.decreases-statement_walk::add_statements
decreases-statement_walk::add_statements l = 6 * goal.size-statement_walk::add_statements l + 1

abbrev pub decreases-statement_walk::add_block : goal.decreases-statement_walk::add_block
decreases-statement_walk::add_block l = 6 * goal.size-statement_walk::add_block l + 2

abbrev pub decreases-statement_walk::add_statement : goal.decreases-statement_walk::add_statement
decreases-statement_walk::add_statement l = 6 * goal.size-statement_walk::add_statement l

abbrev pub decreases-statement_walk::add_after : goal.decreases-statement_walk::add_after
decreases-statement_walk::add_after l = 6 * goal.size-statement_walk::add_after l + 3

abbrev pub decreases-statement_walk::add_catch : goal.decreases-statement_walk::add_catch
decreases-statement_walk::add_catch l = 6 * goal.size-statement_walk::add_catch l + 3

abbrev pub decreases-expression_walk::add_part : goal.decreases-expression_walk::add_part
decreases-expression_walk::add_part l = 6 * goal.size-expression_walk::add_part l + 2

abbrev pub decreases-statement_walk::add_init : goal.decreases-statement_walk::add_init
decreases-statement_walk::add_init l = 6 * goal.size-statement_walk::add_init l

abbrev pub decreases-expression_walk::add_initializer : goal.decreases-expression_walk::add_initializer
decreases-expression_walk::add_initializer l = 6 * goal.size-expression_walk::add_initializer l + 3

abbrev pub decreases-statement_walk::add_declarator : goal.decreases-statement_walk::add_declarator
decreases-statement_walk::add_declarator l = 6 * goal.size-statement_walk::add_declarator l + 4

abbrev pub decreases-statement_walk::add_declarators : goal.decreases-statement_walk::add_declarators
decreases-statement_walk::add_declarators l = 6 * goal.size-statement_walk::add_declarators l + 5

abbrev pub decreases-statement_walk::add_cases : goal.decreases-statement_walk::add_cases
decreases-statement_walk::add_cases l = 6 * goal.size-statement_walk::add_cases l + 1

abbrev pub decreases-statement_walk::add_case : goal.decreases-statement_walk::add_case
decreases-statement_walk::add_case l = 6 * goal.size-statement_walk::add_case l

abbrev pub decreases-statement_walk::add_test : goal.decreases-statement_walk::add_test
decreases-statement_walk::add_test l = 6 * goal.size-statement_walk::add_test l + 1

abbrev pub decreases-expression_walk::add_optional : goal.decreases-expression_walk::add_optional
decreases-expression_walk::add_optional l = 6 * goal.size-expression_walk::add_optional l + 1
