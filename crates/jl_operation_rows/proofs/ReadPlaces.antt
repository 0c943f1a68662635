-- Each place of what is read is made of the places of tokens.
use Rattle.std.proofs.Common.{◌≡◌, ℕ, Bool, List, Some, subst}
use Rattle.jl_ast.specs.Tree.{Ident, Tree, Forest, OptionalTree}
use Rattle.jl_ast.specs.Tree as tree
use Rattle.jl_text.specs.declared.span.Span.{Span}
use Rattle.jl_token.specs.declared.token.Token.{Token}
use Rattle.jl_grammar.specs.declared.terminal.Terminal.{Terminal}
use Rattle.jl_grammar.specs.Reads.{Expr, Stmt, Exprs, Stmts, Code, IsTarget, ReadsPrimary, a_this}
use Rattle.jl_grammar.specs.Reads.{a_name, a_null, a_true, a_false, a_number, a_string, an_array, an_object}
use Rattle.jl_grammar.specs.Reads.{in_parens, a_function, a_named_function, ReadsItems, no_items, a_hole, last_item}
use Rattle.jl_grammar.specs.Reads.{more_items, ReadsEntries, no_entries, last_entry, more_entries, ReadsEntry}
use Rattle.jl_grammar.specs.Reads.{a_value, a_getter, a_setter, ReadsRest, a_rest, BeginsLeft, primary, a_dot}
use Rattle.jl_grammar.specs.Reads.{an_index, a_call, a_new, a_bare_new, ReadsLeft, whole_left, ReadsArguments}
use Rattle.jl_grammar.specs.Reads.{no_arguments, arguments, ReadsArgumentList, last_argument, more_arguments}
use Rattle.jl_grammar.specs.Reads.{ReadsPostfix, left, a_postfix, ReadsUnary, postfix, a_prefix, an_update}
use Rattle.jl_grammar.specs.Reads.{BeginsBinary, operand, tighter, an_infix_operator, ReadsBinary, whole_binary}
use Rattle.jl_grammar.specs.Reads.{ReadsConditional, operands, a_conditional, ReadsAssignment, conditional}
use Rattle.jl_grammar.specs.Reads.{an_assignment, BeginsExpression, assignment, a_comma, ReadsExpression}
use Rattle.jl_grammar.specs.Reads.{whole_expression, ReadsStatement, a_block, a_var, an_empty, an_expression}
use Rattle.jl_grammar.specs.Reads.{an_if_else, an_if, a_do_while, a_while, a_for, a_for_in, a_for_var_in}
use Rattle.jl_grammar.specs.Reads.{a_continue, a_continue_to, a_break, a_break_to, a_return, a_return_of, a_switch}
use Rattle.jl_grammar.specs.Reads.{a_label, a_throw, a_try_catch, a_try_finally, a_try_both, a_debugger, ReadsBlock}
use Rattle.jl_grammar.specs.Reads.{in_braces, ReadsStatements, no_statements, more_statements, ReadsSub, several}
use Rattle.jl_grammar.specs.Reads.{alone, ReadsHead, a_head, ReadsDeclaration, declared, initialised}
use Rattle.jl_grammar.specs.Reads.{ReadsDeclarations, last_declaration, more_declarations, ReadsInit, no_init}
use Rattle.jl_grammar.specs.Reads.{an_init, init_vars, ReadsOptional, no_expression, one_expression, ReadsClauses}
use Rattle.jl_grammar.specs.Reads.{no_clauses, a_case, a_default, ReadsCatch, a_catch, ReadsElements, no_elements}
use Rattle.jl_grammar.specs.Reads.{a_declaration, a_statement, ReadsFunction, a_declared_function, ReadsBody}
use Rattle.jl_grammar.specs.Reads.{a_directive, no_directive}
use Rattle.jl_grammar.specs.Next.{target_of}
use Rattle.jl_grammar.specs.Operators.{InfixOperator, infix_node, plain, both, either}
use Rattle.jl_grammar.specs.Tokens.{span}
use Rattle.jl_operation_rows.proofs.EveryPlace.{Every, EveryIn, EveryOf}

same : (a b : Tree Span tree.target) → Some a ≡ Some b → a ≡ b
same a b e = cc

module _ (P : Span → Type 0) (ts : List Token) (made : (i j : ℕ) → P (span ts i j)) where
  joined : (op : InfixOperator) (a b : Expr) (s : Span) → Every P a → Every P b → P s → Every P (infix_node op a b s)
  joined (plain op) a b s x y h = (x, y, h)
  joined both a b s x y h = (x, y, h)
  joined either a b s x y h = (x, y, h)

  -- what is assigned to has the places of the expression
  target_places : (t : Expr) (g : Tree Span tree.target) → IsTarget t g → Every P t → Every P g
  target_places t g h x = of_target t g h.is x
    where
      of_target : (t : Expr) (g : Tree Span tree.target) → target_of t ≡ Some g → Every P t → Every P g
      of_target (tree.name x s) g e h = subst (Every P) (same (tree.to_name (record { text = x; at = s })) g e) tt
      of_target (tree.dot a x s) g e h = subst (Every P) (same (tree.to_dot a x s) g e) h
      of_target (tree.index a b s) g e h = subst (Every P) (same (tree.to_index a b s) g e) h
      of_target _ g e h = absurd (let none = e in cc)

  mutual
    primary_places : {i : ℕ} {t : Expr} {j : ℕ} → ReadsPrimary ts i t j → Every P t
    primary_places (a_this a) = made _ _
    primary_places (a_name a) = made _ _
    primary_places (a_null a) = made _ _
    primary_places (a_true a) = made _ _
    primary_places (a_false a) = made _ _
    primary_places (a_number a) = made _ _
    primary_places (a_string a) = made _ _
    primary_places (an_array a b) = (items_places b, made _ _)
    primary_places (an_object a b) = (entries_places b, made _ _)
    primary_places (in_parens a b c) = expression_places b
    primary_places (a_function a b) = ((rest_places b, made _ _), made _ _)
    primary_places (a_named_function a b c) = ((rest_places c, made _ _), made _ _)

    items_places : {i : ℕ} {t : Forest Span tree.item} {j : ℕ} → ReadsItems ts i t j → EveryIn P t
    items_places (no_items a) = tt
    items_places (a_hole a b) = (tt, items_places b)
    items_places (last_item a b) = (assignment_places a, tt)
    items_places (more_items a b c) = (assignment_places a, items_places c)

    entries_places : {i : ℕ} {t : Forest Span tree.entry} {j : ℕ} → ReadsEntries ts i t j → EveryIn P t
    entries_places (no_entries a) = tt
    entries_places (last_entry a b) = (entry_places a, tt)
    entries_places (more_entries a b c) = (entry_places a, entries_places c)

    entry_places : {i : ℕ} {t : Tree Span tree.entry} {j : ℕ} → ReadsEntry ts i t j → Every P t
    entry_places (a_value a b c) = assignment_places c
    entry_places (a_getter a b c) = (rest_places c, made _ _)
    entry_places (a_setter a b c) = (rest_places c, made _ _)

    rest_places : {i : ℕ} {ps : List (Ident Span)} {c : Code} {j : ℕ} → ReadsRest ts i ps c j → Every P c
    rest_places (a_rest a b c d e) = body_places d

    begins_left_places : {calls : Bool} {i : ℕ} {t : Expr} {j : ℕ} → BeginsLeft ts calls i t j → Every P t
    begins_left_places (primary a) = primary_places a
    begins_left_places (a_dot a b c) = (begins_left_places a, made _ _)
    begins_left_places (an_index a b c d) = (begins_left_places a, expression_places c, made _ _)
    begins_left_places (a_call a b c) = (begins_left_places a, arguments_places c, made _ _)
    begins_left_places (a_new a b c d) = (left_places b, arguments_places d, made _ _)
    begins_left_places (a_bare_new a b c) = (left_places b, tt, made _ _)

    left_places : {calls : Bool} {i : ℕ} {t : Expr} {j : ℕ} → ReadsLeft ts calls i t j → Every P t
    left_places (whole_left a b) = begins_left_places a

    arguments_places : {i : ℕ} {t : Exprs} {j : ℕ} → ReadsArguments ts i t j → EveryIn P t
    arguments_places (no_arguments a) = tt
    arguments_places (arguments a) = argument_list_places a

    argument_list_places : {i : ℕ} {t : Exprs} {j : ℕ} → ReadsArgumentList ts i t j → EveryIn P t
    argument_list_places (last_argument a b) = (assignment_places a, tt)
    argument_list_places (more_arguments a b c) = (assignment_places a, argument_list_places c)

    postfix_places : {i : ℕ} {t : Expr} {j : ℕ} → ReadsPostfix ts i t j → Every P t
    postfix_places (left a b) = left_places a
    postfix_places (a_postfix a b c d) = (target_places _ _ b (left_places a), made _ _)

    unary_places : {i : ℕ} {t : Expr} {j : ℕ} → ReadsUnary ts i t j → Every P t
    unary_places (postfix a) = postfix_places a
    unary_places (a_prefix a b) = (unary_places b, made _ _)
    unary_places (an_update a b c) = (target_places _ _ c (left_places b), made _ _)

    begins_binary_places : {no_in : Bool} {l i : ℕ} {t : Expr} {j : ℕ} → BeginsBinary ts no_in l i t j → Every P t
    begins_binary_places (operand a) = unary_places a
    begins_binary_places (tighter a) = binary_places a
    begins_binary_places {i = i} {j = k} (an_infix_operator {a = x} {b = y} {op} a b c d) =
        joined op x y (span ts i k) (begins_binary_places a) (binary_places d) (made i k)

    binary_places : {no_in : Bool} {l i : ℕ} {t : Expr} {j : ℕ} → ReadsBinary ts no_in l i t j → Every P t
    binary_places (whole_binary a b) = begins_binary_places a

    conditional_places : {no_in : Bool} {i : ℕ} {t : Expr} {j : ℕ} → ReadsConditional ts no_in i t j → Every P t
    conditional_places (operands a b) = binary_places a
    conditional_places (a_conditional a b c d e) =
        (binary_places a, assignment_places c, assignment_places e, made _ _)

    assignment_places : {no_in : Bool} {i : ℕ} {t : Expr} {j : ℕ} → ReadsAssignment ts no_in i t j → Every P t
    assignment_places (conditional a b) = conditional_places a
    assignment_places (an_assignment a b c d) =
        (target_places _ _ b (left_places a), assignment_places d, made _ _)

    begins_expression_places : {no_in : Bool} {i : ℕ} {t : Expr} {j : ℕ} → BeginsExpression ts no_in i t j
        → Every P t
    begins_expression_places (assignment a) = assignment_places a
    begins_expression_places (a_comma a b c) = (begins_expression_places a, assignment_places c, made _ _)

    expression_places : {no_in : Bool} {i : ℕ} {t : Expr} {j : ℕ} → ReadsExpression ts no_in i t j → Every P t
    expression_places (whole_expression a b) = begins_expression_places a

    statement_places : {i : ℕ} {t : Stmt} {j : ℕ} → ReadsStatement ts i t j → Every P t
    statement_places (a_block a) = (block_places a, made _ _)
    statement_places (a_var a b c) = (declarations_places b, made _ _)
    statement_places (an_empty a) = made _ _
    statement_places (an_expression a b c d) = (expression_places c, made _ _)
    statement_places (an_if_else a b c d e) = (head_places b, sub_places c, sub_places e, made _ _)
    statement_places (an_if a b c d) = (head_places b, sub_places c, tt, made _ _)
    statement_places (a_do_while a b c d e) = (sub_places b, head_places d, made _ _)
    statement_places (a_while a b c) = (head_places b, sub_places c, made _ _)
    statement_places (a_for a b c d e f g h m) =
        (init_places c, optional_places e, optional_places g, sub_places m, made _ _)
    statement_places (a_for_in a b c d e f g) = (expression_places e, sub_places g, made _ _)
    statement_places (a_for_var_in a b c d e f g h) = (expression_places f, sub_places h, made _ _)
    statement_places (a_continue a b) = made _ _
    statement_places (a_continue_to a b c d) = made _ _
    statement_places (a_break a b) = made _ _
    statement_places (a_break_to a b c d) = made _ _
    statement_places (a_return a b) = (tt, made _ _)
    statement_places (a_return_of a b c d) = (expression_places c, made _ _)
    statement_places (a_switch a b c d e) = (head_places b, clauses_places d, made _ _)
    statement_places (a_label a b c) = (statement_places c, made _ _)
    statement_places (a_throw a b c d) = (expression_places c, made _ _)
    statement_places (a_try_catch a b c d) = (block_places b, catch_places c, tt, made _ _)
    statement_places (a_try_finally a b c d) = (block_places b, tt, block_places d, made _ _)
    statement_places (a_try_both a b c d e) = (block_places b, catch_places c, block_places e, made _ _)
    statement_places (a_debugger a b) = made _ _

    block_places : {i : ℕ} {t : Stmts} {j : ℕ} → ReadsBlock ts i t j → EveryIn P t
    block_places (in_braces a b c) = statements_places b

    statements_places : {i : ℕ} {t : Stmts} {j : ℕ} → ReadsStatements ts i t j → EveryIn P t
    statements_places (no_statements a) = tt
    statements_places (more_statements a b) = (statement_places a, statements_places b)

    sub_places : {i : ℕ} {t : Stmts} {j : ℕ} → ReadsSub ts i t j → EveryIn P t
    sub_places (several a) = block_places a
    sub_places (alone a b) = (statement_places b, tt)

    head_places : {i : ℕ} {t : Expr} {j : ℕ} → ReadsHead ts i t j → Every P t
    head_places (a_head a b c) = expression_places b

    declaration_places : {no_in : Bool} {i : ℕ} {t : Tree Span tree.decl} {j : ℕ} → ReadsDeclaration ts no_in i t j
        → Every P t
    declaration_places (declared a b) = (made _ _, tt)
    declaration_places (initialised a b c) = (made _ _, assignment_places c)

    declarations_places : {no_in : Bool} {i : ℕ} {t : Forest Span tree.decl} {j : ℕ}
        → ReadsDeclarations ts no_in i t j → EveryIn P t
    declarations_places (last_declaration a b) = (declaration_places a, tt)
    declarations_places (more_declarations a b c) = (declaration_places a, declarations_places c)

    init_places : {i : ℕ} {t : Tree Span tree.init} {j : ℕ} → ReadsInit ts i t j → Every P t
    init_places (no_init a) = tt
    init_places (an_init a) = expression_places a
    init_places (init_vars a b) = declarations_places b

    optional_places : {k : Terminal} {i : ℕ} {t : OptionalTree Span tree.expr} {j : ℕ} → ReadsOptional ts k i t j
        → EveryOf P t
    optional_places (no_expression a) = tt
    optional_places (one_expression a) = expression_places a

    clauses_places : {fresh : Bool} {i : ℕ} {t : Forest Span tree.clause} {j : ℕ} → ReadsClauses ts fresh i t j
        → EveryIn P t
    clauses_places (no_clauses a) = tt
    clauses_places (a_case a b c d e) = ((expression_places b, statements_places d), clauses_places e)
    clauses_places (a_default a b c d) = ((tt, statements_places c), clauses_places d)

    catch_places : {i : ℕ} {t : Tree Span tree.handler} {j : ℕ} → ReadsCatch ts i t j → Every P t
    catch_places (a_catch a b c d e) = (made _ _, block_places e)

    elements_places : {i : ℕ} {fs : Forest Span tree.func} {ws : Stmts} {j : ℕ} → ReadsElements ts i fs ws j
        → EveryIn P fs × EveryIn P ws
    elements_places (no_elements a) = (tt, tt)
    elements_places (a_declaration a b) = let r = elements_places b in ((function_places a, r.0), r.1)
    elements_places (a_statement a b) = let r = elements_places b in (r.0, (statement_places a, r.1))

    function_places : {i : ℕ} {t : Tree Span tree.func} {j : ℕ} → ReadsFunction ts i t j → Every P t
    function_places (a_declared_function a b c) = (rest_places c, made _ _)

    pub body_places : {i : ℕ} {t : Code} {j : ℕ} → ReadsBody ts i t j → Every P t
    body_places (a_directive a b c d) = body_places d
    body_places (no_directive a b) = elements_places b
