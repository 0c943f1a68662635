use Rattle.std.proofs.Common.{◌≡◌, ◌+◌, ◌-◌, ◌++◌, ◌∷◌, ap, ◌∙◌, false, length, drop, get_or, nat_eq}
use Rattle.std.proofs.Common.{option_map, rules, append_assoc, arith}
use Rattle.jl_ast.proofs.Views.{nodes}
use Rattle.jl_ast.specs.View.{item, view_declarators, view_expression, view_items, view_optional}
use Rattle.jl_print.specs.inner.Kinds.{comma_unless, initializer, item_with_comma}
use Rattle.jl_print.specs.Pieces.{name}
use Rattle.jl_print.specs.CanonicalTokens.{tokens_of_node, tokens_of_items}
use Rattle.jl_print.proofs.Writing.{nodes_by_parts, declarators_from, declarator_at, item_at}
use Rattle.jl_print.proofs.+print.Goals as goal

pub expression_walk::add_expression-returns-in_ok-add_items-in-Array :
    goal.expression_walk::add_expression-returns-in_ok-add_items-in-Array
unfolding tokens_of_node
expression_walk::add_expression-returns-in_ok-add_items-in-Array t c = search (rules, append_assoc, nodes)

pub expression_walk::add_expression-returns-in_ok-add_entries-in-Object :
    goal.expression_walk::add_expression-returns-in_ok-add_entries-in-Object
unfolding tokens_of_node
expression_walk::add_expression-returns-in_ok-add_entries-in-Object t c = search (rules, append_assoc, nodes)

pub expression_walk::add_expression-returns-in_ok-punct-in-Dot :
    goal.expression_walk::add_expression-returns-in_ok-punct-in-Dot
unfolding tokens_of_node
expression_walk::add_expression-returns-in_ok-punct-in-Dot t c = search (rules, append_assoc, nodes)

pub expression_walk::add_expression-returns-in_ok-add_expression-in-Index :
    goal.expression_walk::add_expression-returns-in_ok-add_expression-in-Index
unfolding tokens_of_node
expression_walk::add_expression-returns-in_ok-add_expression-in-Index t c = search (rules, append_assoc, nodes)

pub expression_walk::add_expression-returns-in_ok-add_arguments-in-Call :
    goal.expression_walk::add_expression-returns-in_ok-add_arguments-in-Call
unfolding tokens_of_node
expression_walk::add_expression-returns-in_ok-add_arguments-in-Call t c = search (rules, append_assoc, nodes)

pub expression_walk::add_expression-returns-in_ok-add_arguments-in-New :
    goal.expression_walk::add_expression-returns-in_ok-add_arguments-in-New
unfolding tokens_of_node
expression_walk::add_expression-returns-in_ok-add_arguments-in-New t c = search (rules, append_assoc, nodes)

pub expression_walk::add_expression-returns-in_ok-add_prefix-in-Unary :
    goal.expression_walk::add_expression-returns-in_ok-add_prefix-in-Unary
unfolding tokens_of_node
expression_walk::add_expression-returns-in_ok-add_prefix-in-Unary t c = search (rules, append_assoc, nodes)

pub expression_walk::add_expression-returns-in_ok-add_update-in-Update-default-true-default :
    goal.expression_walk::add_expression-returns-in_ok-add_update-in-Update-default-true-default
unfolding tokens_of_node
expression_walk::add_expression-returns-in_ok-add_update-in-Update-default-true-default t c =
    search (rules, append_assoc, nodes)

pub expression_walk::add_expression-returns-in_ok-add_target-in-Update-default-false-default :
    goal.expression_walk::add_expression-returns-in_ok-add_target-in-Update-default-false-default
unfolding tokens_of_node
expression_walk::add_expression-returns-in_ok-add_target-in-Update-default-false-default t c =
    search (rules, append_assoc, nodes)

pub expression_walk::add_expression-returns-in_ok-add_operand-in-Binary-2 :
    goal.expression_walk::add_expression-returns-in_ok-add_operand-in-Binary-2
unfolding tokens_of_node
expression_walk::add_expression-returns-in_ok-add_operand-in-Binary-2 t c = search (rules, append_assoc, nodes)

pub expression_walk::add_expression-returns-in_ok-add_operand-in-Binary-4 :
    goal.expression_walk::add_expression-returns-in_ok-add_operand-in-Binary-4
unfolding tokens_of_node
expression_walk::add_expression-returns-in_ok-add_operand-in-Binary-4 t c = search (rules, append_assoc, nodes)

pub expression_walk::add_expression-returns-in_ok-add_operand-in-And-2 :
    goal.expression_walk::add_expression-returns-in_ok-add_operand-in-And-2
unfolding tokens_of_node
expression_walk::add_expression-returns-in_ok-add_operand-in-And-2 t c = search (rules, append_assoc, nodes)

pub expression_walk::add_expression-returns-in_ok-add_operand-in-Or-2 :
    goal.expression_walk::add_expression-returns-in_ok-add_operand-in-Or-2
unfolding tokens_of_node
expression_walk::add_expression-returns-in_ok-add_operand-in-Or-2 t c = search (rules, append_assoc, nodes)

pub expression_walk::add_expression-returns-in_ok-add_operand-in-Cond-3 :
    goal.expression_walk::add_expression-returns-in_ok-add_operand-in-Cond-3
unfolding tokens_of_node
expression_walk::add_expression-returns-in_ok-add_operand-in-Cond-3 t c = search (rules, append_assoc, nodes)

pub expression_walk::add_expression-returns-in_ok-add_operand-in-Comma :
    goal.expression_walk::add_expression-returns-in_ok-add_operand-in-Comma
unfolding tokens_of_node
expression_walk::add_expression-returns-in_ok-add_operand-in-Comma t c = search (rules, append_assoc, nodes)

pub statement_walk::add_init-returns-in_ok-word-in-Var : goal.statement_walk::add_init-returns-in_ok-word-in-Var
unfolding tokens_of_node
statement_walk::add_init-returns-in_ok-word-in-Var t c = search (rules, append_assoc, nodes)

pub statement_walk::add_statement-returns-in_ok-add_declarators-in-Var :
    goal.statement_walk::add_statement-returns-in_ok-add_declarators-in-Var
unfolding tokens_of_node
statement_walk::add_statement-returns-in_ok-add_declarators-in-Var t c = search (rules, append_assoc, nodes)

pub statement_walk::add_statement-returns-in_ok-add_in_parens_unless-in-Expr :
    goal.statement_walk::add_statement-returns-in_ok-add_in_parens_unless-in-Expr
unfolding tokens_of_node
statement_walk::add_statement-returns-in_ok-add_in_parens_unless-in-Expr t c = search (rules, append_assoc, nodes)

pub statement_walk::add_statement-returns-in_ok-add_in_parens_unless-in-DoWhile :
    goal.statement_walk::add_statement-returns-in_ok-add_in_parens_unless-in-DoWhile
unfolding tokens_of_node
statement_walk::add_statement-returns-in_ok-add_in_parens_unless-in-DoWhile t c = search (rules, append_assoc, nodes)

pub statement_walk::add_statement-returns-in_ok-add_block-in-While :
    goal.statement_walk::add_statement-returns-in_ok-add_block-in-While
unfolding tokens_of_node
statement_walk::add_statement-returns-in_ok-add_block-in-While t c = search (rules, append_assoc, nodes)

pub statement_walk::add_statement-returns-in_ok-add_block-in-ForIn-true-default-default-default :
    goal.statement_walk::add_statement-returns-in_ok-add_block-in-ForIn-true-default-default-default
unfolding tokens_of_node
statement_walk::add_statement-returns-in_ok-add_block-in-ForIn-true-default-default-default t c =
    search (rules, append_assoc, nodes)

pub statement_walk::add_statement-returns-in_ok-add_block-in-ForIn-false-default-default-default :
    goal.statement_walk::add_statement-returns-in_ok-add_block-in-ForIn-false-default-default-default
unfolding tokens_of_node
statement_walk::add_statement-returns-in_ok-add_block-in-ForIn-false-default-default-default t c =
    search (rules, append_assoc, nodes)

pub statement_walk::add_statement-returns-in_ok-add_optional_name-in-Continue :
    goal.statement_walk::add_statement-returns-in_ok-add_optional_name-in-Continue
unfolding tokens_of_node
statement_walk::add_statement-returns-in_ok-add_optional_name-in-Continue t c = search (rules, append_assoc, nodes)

pub statement_walk::add_statement-returns-in_ok-add_optional_name-in-Break :
    goal.statement_walk::add_statement-returns-in_ok-add_optional_name-in-Break
unfolding tokens_of_node
statement_walk::add_statement-returns-in_ok-add_optional_name-in-Break t c = search (rules, append_assoc, nodes)

pub statement_walk::add_statement-returns-in_ok-add_optional-in-Return :
    goal.statement_walk::add_statement-returns-in_ok-add_optional-in-Return
unfolding tokens_of_node
statement_walk::add_statement-returns-in_ok-add_optional-in-Return t c = search (rules, append_assoc, nodes)

pub statement_walk::add_statement-returns-in_ok-punct-in-Labelled :
    goal.statement_walk::add_statement-returns-in_ok-punct-in-Labelled
unfolding tokens_of_node
statement_walk::add_statement-returns-in_ok-punct-in-Labelled t c = search (rules, append_assoc, nodes)

pub statement_walk::add_statement-returns-in_ok-add_cases-in-Switch :
    goal.statement_walk::add_statement-returns-in_ok-add_cases-in-Switch
unfolding tokens_of_node
statement_walk::add_statement-returns-in_ok-add_cases-in-Switch t c = search (rules, append_assoc, nodes)

pub statement_walk::add_statement-returns-in_ok-add_expression-in-Throw :
    goal.statement_walk::add_statement-returns-in_ok-add_expression-in-Throw
unfolding tokens_of_node
statement_walk::add_statement-returns-in_ok-add_expression-in-Throw t c = search (rules, append_assoc, nodes)

pub statement_walk::add_statement-returns-in_ok-word-in-Debugger :
    goal.statement_walk::add_statement-returns-in_ok-word-in-Debugger
unfolding tokens_of_node
statement_walk::add_statement-returns-in_ok-word-in-Debugger t c = search (rules, append_assoc, nodes)

pub expression_walk::add_expression-returns-in_ok-add_operand-in-Assign :
    goal.expression_walk::add_expression-returns-in_ok-add_operand-in-Assign
expression_walk::add_expression-returns-in_ok-add_operand-in-Assign t c =
    search (rules, append_assoc, nodes, nodes_by_parts)

pub expression_walk::add_entry-returns-in_ok-key-in-Get : goal.expression_walk::add_entry-returns-in_ok-key-in-Get
expression_walk::add_entry-returns-in_ok-key-in-Get t c = search (rules, append_assoc, nodes, nodes_by_parts)

pub expression_walk::add_entry-returns-in_ok-key-in-Set : goal.expression_walk::add_entry-returns-in_ok-key-in-Set
expression_walk::add_entry-returns-in_ok-key-in-Set t c = search (rules, append_assoc, nodes, nodes_by_parts)

pub statement_walk::add_case-returns : goal.statement_walk::add_case-returns
statement_walk::add_case-returns t c = search (rules, append_assoc, nodes, nodes_by_parts)

pub statement_walk::add_declarators-loop-d-preserved : goal.statement_walk::add_declarators-loop-d-preserved
statement_walk::add_declarators-loop-d-preserved t c =
    let l = c.args.declarators.now in
    let i = c.loop-d.d-index in
    let s : c.items-d-items.result.now ≡ c.args.declarators.now = c.items-d-items.ensures in
    let w : c.d-item.result ≡ get_or c.args.declarators.now c.loop-d.d-index c.d-item.result =
    c.d-item.is ∙ ap (λ x. get_or x c.loop-d.d-index c.d-item.result) s in
    let b : c.add_comma_unless.new.out ≡ c.loop-d.out ++ comma_unless c.loop-d.first =
    c.in_ok-add_comma_unless.ensures in
    let a : c.add_declarator.new.out ≡ c.add_comma_unless.new.out
    ++ (name c.d-item.result.0.text ∷ initializer (view_optional c.d-item.result.1)) = c.in_ok-add_declarator.ensures in
    ap (λ x. x ++ declarators_from false (view_declarators (drop (c.loop-d.d-index + 1) l)))
    (a ∙ ap (λ x. x ++ (name c.d-item.result.0.text ∷ initializer (view_optional c.d-item.result.1))) b)
    ∙ declarator_at c.loop-d.out c.loop-d.first l i c.d-item.result w (omega (arith, c.loop-d-test.true, ap length s))
    ∙ c.loop-d.invariant

pub expression_walk::add_items-loop-e-preserved : goal.expression_walk::add_items-loop-e-preserved
expression_walk::add_items-loop-e-preserved t c =
    let l = c.args.items.now in
    let i = c.loop-e.e-index in
    let s : c.items-e-items.result.now ≡ c.args.items.now = c.items-e-items.ensures in
    let w : c.e-item.result ≡ get_or c.args.items.now c.loop-e.e-index c.e-item.result =
    c.e-item.is ∙ ap (λ x. get_or x c.loop-e.e-index c.e-item.result) s in
    let n : (c.loop-e.left - 1) + (c.loop-e.e-index + 1) ≡ length c.args.items.now =
    omega (arith, c.loop-e.invariant.0, c.loop-e-test.true, ap length s) in
    let a : c.add_item.new.out ≡ c.loop-e.out
    ++ item_with_comma (item (option_map view_expression c.e-item.result)) (nat_eq (c.loop-e.left - 1) 0) =
    c.in_ok-add_item.ensures in (
      n,
      ap (λ x. x ++ tokens_of_items (view_items (drop (c.loop-e.e-index + 1) l))) a
          ∙ item_at c.loop-e.out l i (c.loop-e.left - 1) c.e-item.result w n ∙ c.loop-e.invariant.1,
    )

pub statement_walk::add_statement-returns-in_ok-add_block-in-For :
    goal.statement_walk::add_statement-returns-in_ok-add_block-in-For
unfolding tokens_of_node
statement_walk::add_statement-returns-in_ok-add_block-in-For t c = search (rules, append_assoc, nodes)
