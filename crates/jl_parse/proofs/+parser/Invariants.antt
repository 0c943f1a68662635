use Rattle.std.proofs.Common.{◌≡◌, ◌+◌, ◌*◌, length, true}
use Rattle.jl_ast.specs.Tree as tree
use Rattle.jl_ast.specs.View.{view_cases, view_declarators, view_entries, view_expression, view_expressions}
use Rattle.jl_ast.specs.View.{view_functions, view_items, view_statements}
use Rattle.jl_grammar.specs.Reader.{arguments_from, binary_at, binary_from, body_from, clauses_from}
use Rattle.jl_grammar.specs.Reader.{comma_from, declarations_from, elements_from, entries_from, items_from}
use Rattle.jl_grammar.specs.Reader.{left_at, left_from, statements_from}
use Rattle.jl_parse.specs.inner.Steps.{with_elements, within}
use Rattle.jl_parse.proofs.Lists.{with_body}
use Rattle.jl_parse.proofs.Rows.{with_forest}
use Rattle.jl_parse.proofs.+parser.Given as goal

abbrev pub decreases-expressions::inner_assignment : goal.decreases-expressions::inner_assignment
decreases-expressions::inner_assignment l = l.depth.levels * 20

abbrev pub decreases-expressions::inner_unary : goal.decreases-expressions::inner_unary
decreases-expressions::inner_unary l = l.depth.levels * 20

abbrev pub decreases-expressions::inner_binary : goal.decreases-expressions::inner_binary
decreases-expressions::inner_binary l = l.depth.levels * 20

abbrev pub decreases-expressions::postfix : goal.decreases-expressions::postfix
decreases-expressions::postfix l = l.depth.levels * 20 + 12

abbrev pub decreases-expressions::unary : goal.decreases-expressions::unary
decreases-expressions::unary l = l.depth.levels * 20 + 13

abbrev pub decreases-expressions::binary : goal.decreases-expressions::binary
decreases-expressions::binary l = l.depth.levels * 20 + 14

abbrev pub decreases-expressions::conditional : goal.decreases-expressions::conditional
decreases-expressions::conditional l = l.depth.levels * 20 + 15

abbrev pub decreases-expressions::assignment : goal.decreases-expressions::assignment
decreases-expressions::assignment l = l.depth.levels * 20 + 16

abbrev pub decreases-expressions::expression : goal.decreases-expressions::expression
decreases-expressions::expression l = l.depth.levels * 20

abbrev pub decreases-primary::head : goal.decreases-primary::head
decreases-primary::head l = l.depth.levels * 20 + 1

abbrev pub decreases-primary::items : goal.decreases-primary::items
decreases-primary::items l = l.depth.levels * 20 + 1

abbrev pub decreases-primary::punct_primary : goal.decreases-primary::punct_primary
decreases-primary::punct_primary l = l.depth.levels * 20 + 8

abbrev pub decreases-primary::word_primary : goal.decreases-primary::word_primary
decreases-primary::word_primary l = l.depth.levels * 20 + 8

abbrev pub decreases-primary::primary : goal.decreases-primary::primary
decreases-primary::primary l = l.depth.levels * 20 + 9

abbrev pub decreases-primary::some_arguments : goal.decreases-primary::some_arguments
decreases-primary::some_arguments l = l.depth.levels * 20 + 1

abbrev pub decreases-primary::arguments : goal.decreases-primary::arguments
decreases-primary::arguments l = l.depth.levels * 20 + 2

abbrev pub decreases-primary::new_expression : goal.decreases-primary::new_expression
decreases-primary::new_expression l = l.depth.levels * 20 + 3

abbrev pub decreases-primary::member : goal.decreases-primary::member
decreases-primary::member l = l.depth.levels * 20

abbrev pub decreases-primary::start : goal.decreases-primary::start
decreases-primary::start l = l.depth.levels * 20 + 10

abbrev pub decreases-primary::longer : goal.decreases-primary::longer
decreases-primary::longer l = l.depth.levels * 20 + 3

abbrev pub decreases-primary::left : goal.decreases-primary::left
decreases-primary::left l = l.depth.levels * 20 + 11

abbrev pub decreases-functions::rest : goal.decreases-functions::rest
decreases-functions::rest l = l.depth.levels * 20 + 4

abbrev pub decreases-functions::inner_rest : goal.decreases-functions::inner_rest
decreases-functions::inner_rest l = l.depth.levels * 20

abbrev pub decreases-functions::function_expression : goal.decreases-functions::function_expression
decreases-functions::function_expression l = l.depth.levels * 20 + 5

abbrev pub decreases-functions::declaration : goal.decreases-functions::declaration
decreases-functions::declaration l = l.depth.levels * 20 + 1

abbrev pub decreases-functions::elements : goal.decreases-functions::elements
decreases-functions::elements l = l.depth.levels * 20 + 2

abbrev pub decreases-functions::body : goal.decreases-functions::body
decreases-functions::body l = l.depth.levels * 20 + 3

abbrev pub decreases-functions::value : goal.decreases-functions::value
decreases-functions::value l = l.depth.levels * 20 + 1

abbrev pub decreases-functions::getter : goal.decreases-functions::getter
decreases-functions::getter l = l.depth.levels * 20 + 5

abbrev pub decreases-functions::setter : goal.decreases-functions::setter
decreases-functions::setter l = l.depth.levels * 20 + 5

abbrev pub decreases-functions::entry : goal.decreases-functions::entry
decreases-functions::entry l = l.depth.levels * 20 + 6

abbrev pub decreases-functions::entries : goal.decreases-functions::entries
decreases-functions::entries l = l.depth.levels * 20 + 7

abbrev pub decreases-statements::statements : goal.decreases-statements::statements
decreases-statements::statements l = l.depth.levels * 20 + 1

abbrev pub decreases-statements::block : goal.decreases-statements::block
decreases-statements::block l = l.depth.levels * 20 + 2

abbrev pub decreases-statements::sub : goal.decreases-statements::sub
decreases-statements::sub l = l.depth.levels * 20 + 3

abbrev pub decreases-statements::declarator : goal.decreases-statements::declarator
decreases-statements::declarator l = l.depth.levels * 20 + 1

abbrev pub decreases-statements::declarators : goal.decreases-statements::declarators
decreases-statements::declarators l = l.depth.levels * 20 + 2

abbrev pub decreases-statements::var_statement : goal.decreases-statements::var_statement
decreases-statements::var_statement l = l.depth.levels * 20 + 3

abbrev pub decreases-statements::expression_statement : goal.decreases-statements::expression_statement
decreases-statements::expression_statement l = l.depth.levels * 20 + 1

abbrev pub decreases-statements::if_statement : goal.decreases-statements::if_statement
decreases-statements::if_statement l = l.depth.levels * 20 + 4

abbrev pub decreases-statements::do_statement : goal.decreases-statements::do_statement
decreases-statements::do_statement l = l.depth.levels * 20 + 4

abbrev pub decreases-statements::while_statement : goal.decreases-statements::while_statement
decreases-statements::while_statement l = l.depth.levels * 20 + 4

abbrev pub decreases-statements::return_statement : goal.decreases-statements::return_statement
decreases-statements::return_statement l = l.depth.levels * 20 + 1

abbrev pub decreases-statements::throw_statement : goal.decreases-statements::throw_statement
decreases-statements::throw_statement l = l.depth.levels * 20 + 1

abbrev pub decreases-statements::labelled_statement : goal.decreases-statements::labelled_statement
decreases-statements::labelled_statement l = l.depth.levels * 20 + 1

abbrev pub decreases-statements::named_statement : goal.decreases-statements::named_statement
decreases-statements::named_statement l = l.depth.levels * 20 + 2

abbrev pub decreases-statements::block_statement : goal.decreases-statements::block_statement
decreases-statements::block_statement l = l.depth.levels * 20 + 3

abbrev pub decreases-statements::statement : goal.decreases-statements::statement
decreases-statements::statement l = l.depth.levels * 20

abbrev pub decreases-statements::word_statement : goal.decreases-statements::word_statement
decreases-statements::word_statement l = l.depth.levels * 20 + 7

abbrev pub decreases-loops::until_semicolon : goal.decreases-loops::until_semicolon
decreases-loops::until_semicolon l = l.depth.levels * 20 + 1

abbrev pub decreases-loops::until_close : goal.decreases-loops::until_close
decreases-loops::until_close l = l.depth.levels * 20 + 1

abbrev pub decreases-loops::test_and_step : goal.decreases-loops::test_and_step
decreases-loops::test_and_step l = l.depth.levels * 20 + 2

abbrev pub decreases-loops::for_head : goal.decreases-loops::for_head
decreases-loops::for_head l = l.depth.levels * 20 + 3

abbrev pub decreases-loops::for_rest : goal.decreases-loops::for_rest
decreases-loops::for_rest l = l.depth.levels * 20 + 4

abbrev pub decreases-loops::for_in_rest : goal.decreases-loops::for_in_rest
decreases-loops::for_in_rest l = l.depth.levels * 20 + 4

abbrev pub decreases-loops::for_var : goal.decreases-loops::for_var
decreases-loops::for_var l = l.depth.levels * 20 + 5

abbrev pub decreases-loops::for_expression : goal.decreases-loops::for_expression
decreases-loops::for_expression l = l.depth.levels * 20 + 5

abbrev pub decreases-loops::for_statement : goal.decreases-loops::for_statement
decreases-loops::for_statement l = l.depth.levels * 20 + 6

abbrev pub decreases-clauses::clause : goal.decreases-clauses::clause
decreases-clauses::clause l = l.depth.levels * 20 + 2

abbrev pub decreases-clauses::clauses : goal.decreases-clauses::clauses
decreases-clauses::clauses l = l.depth.levels * 20 + 3

abbrev pub decreases-clauses::switch_statement : goal.decreases-clauses::switch_statement
decreases-clauses::switch_statement l = l.depth.levels * 20 + 4

abbrev pub decreases-clauses::catch : goal.decreases-clauses::catch
decreases-clauses::catch l = l.depth.levels * 20 + 3

abbrev pub decreases-clauses::try_statement : goal.decreases-clauses::try_statement
decreases-clauses::try_statement l = l.depth.levels * 20 + 5

abbrev pub decreases-clauses::finally : goal.decreases-clauses::finally
decreases-clauses::finally l = l.depth.levels * 20 + 4

abbrev pub invariant-expressions::binary-parts : goal.invariant-expressions::binary-parts
invariant-expressions::binary-parts l =
    binary_at l.tokens (within l.tokens l.depth) l.no_in l.depth.levels l.loosest l.at
    ≡ binary_from l.tokens (within l.tokens l.depth) l.no_in l.room l.loosest l.at (view_expression l.operand.value)
    l.end

abbrev pub decreases-expressions::binary-parts : goal.decreases-expressions::binary-parts
decreases-expressions::binary-parts l = l.room

abbrev pub invariant-expressions::expression-parts : goal.invariant-expressions::expression-parts
invariant-expressions::expression-parts l =
    (within l.tokens l.fn.depth).expression l.no_in l.at
    ≡ comma_from l.tokens (within l.tokens l.inside) l.no_in l.room l.at (view_expression l.left.value) l.end

abbrev pub decreases-expressions::expression-parts : goal.decreases-expressions::expression-parts
decreases-expressions::expression-parts l = l.room

abbrev pub invariant-primary::left-parts : goal.invariant-primary::left-parts
invariant-primary::left-parts l =
    left_at l.tokens (within l.tokens l.depth) l.calls l.depth.levels l.at
    ≡ left_from l.tokens (within l.tokens l.depth) l.calls l.room l.at (view_expression l.left.value) l.end

abbrev pub decreases-primary::left-parts : goal.decreases-primary::left-parts
decreases-primary::left-parts l = l.room

abbrev pub invariant-primary::some_arguments-parts : goal.invariant-primary::some_arguments-parts
invariant-primary::some_arguments-parts l =
    with_forest (view_expressions l.arguments) (arguments_from l.tokens (within l.tokens l.depth) l.room l.next)
    ≡ arguments_from l.tokens (within l.tokens l.depth) (length l.tokens) l.at

abbrev pub decreases-primary::some_arguments-parts : goal.decreases-primary::some_arguments-parts
decreases-primary::some_arguments-parts l = l.room

abbrev pub invariant-primary::items-parts : goal.invariant-primary::items-parts
invariant-primary::items-parts l =
    with_forest (view_items l.items) (items_from l.tokens (within l.tokens l.depth) l.room l.next)
    ≡ items_from l.tokens (within l.tokens l.depth) (length l.tokens) l.at

abbrev pub decreases-primary::items-parts : goal.decreases-primary::items-parts
decreases-primary::items-parts l = l.room

abbrev pub invariant-functions::elements-parts : goal.invariant-functions::elements-parts
invariant-functions::elements-parts l =
    with_elements l.strict (view_functions l.functions) (view_statements l.statements)
    (elements_from l.tokens (within l.tokens l.depth) l.room l.next)
    ≡ with_elements l.strict tree.end tree.end
    (elements_from l.tokens (within l.tokens l.depth) (length l.tokens) l.at)

abbrev pub decreases-functions::elements-parts : goal.decreases-functions::elements-parts
decreases-functions::elements-parts l = l.room

abbrev pub invariant-functions::body-parts : goal.invariant-functions::body-parts
invariant-functions::body-parts l =
    with_body l.strict (body_from l.tokens (within l.tokens l.depth) l.room l.next)
    ≡ body_from l.tokens (within l.tokens l.depth) (length l.tokens) l.at

abbrev pub decreases-functions::body-parts : goal.decreases-functions::body-parts
decreases-functions::body-parts l = l.room

abbrev pub invariant-functions::entries-parts : goal.invariant-functions::entries-parts
invariant-functions::entries-parts l =
    with_forest (view_entries l.entries) (entries_from l.tokens (within l.tokens l.depth) l.room l.next)
    ≡ entries_from l.tokens (within l.tokens l.depth) (length l.tokens) l.at

abbrev pub decreases-functions::entries-parts : goal.decreases-functions::entries-parts
decreases-functions::entries-parts l = l.room

abbrev pub invariant-statements::statements-parts : goal.invariant-statements::statements-parts
invariant-statements::statements-parts l =
    with_forest (view_statements l.statements) (statements_from l.tokens (within l.tokens l.depth) l.room l.next)
    ≡ statements_from l.tokens (within l.tokens l.depth) (length l.tokens) l.at

abbrev pub decreases-statements::statements-parts : goal.decreases-statements::statements-parts
decreases-statements::statements-parts l = l.room

abbrev pub invariant-statements::declarators-parts : goal.invariant-statements::declarators-parts
invariant-statements::declarators-parts l =
    with_forest (view_declarators l.declarators) (declarations_from l.tokens (within l.tokens l.depth) l.no_in l.room
    l.next)
    ≡ declarations_from l.tokens (within l.tokens l.depth) l.no_in (length l.tokens) l.at

abbrev pub decreases-statements::declarators-parts : goal.decreases-statements::declarators-parts
decreases-statements::declarators-parts l = l.room

abbrev pub invariant-clauses::clauses-parts : goal.invariant-clauses::clauses-parts
invariant-clauses::clauses-parts l =
    with_forest (view_cases l.clauses) (clauses_from l.tokens (within l.tokens l.depth) l.room l.fresh l.next)
    ≡ clauses_from l.tokens (within l.tokens l.depth) (length l.tokens) true l.at

abbrev pub decreases-clauses::clauses-parts : goal.decreases-clauses::clauses-parts
decreases-clauses::clauses-parts l = l.room
