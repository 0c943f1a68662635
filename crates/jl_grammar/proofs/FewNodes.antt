-- What is read has no more nodes than tokens.
use Rattle.std.proofs.Common.{◌≡◌, ℕ, ◌+◌, ◌≤◌, Bool, List, Some, refl, ap, ◌∙◌, arith}
use Rattle.jl_ast.specs.Tree.{Ident, Program, Tree, Forest, OptionalTree}
use Rattle.jl_ast.specs.Tree as tree
use Rattle.jl_text.specs.declared.span.Span.{Span}
use Rattle.jl_token.specs.declared.token.Token.{Token}
use Rattle.jl_grammar.specs.declared.terminal.Terminal.{Terminal}
use Rattle.jl_grammar.specs.Reads.{Expr, Stmt, Exprs, Stmts, Code, IsTarget, ReadsPrimary, a_this}
use Rattle.jl_grammar.specs.Reads.{a_name, a_null, a_true, a_false, a_number, a_string, an_array, an_object}
use Rattle.jl_grammar.specs.Reads.{in_parens, a_function, a_named_function, ReadsItems, no_items, a_hole, last_item}
use Rattle.jl_grammar.specs.Reads.{more_items, ReadsEntries, no_entries, last_entry, more_entries, ReadsEntry}
use Rattle.jl_grammar.specs.Reads.{a_value, a_getter, a_setter, ReadsRest, a_rest, BeginsLeft, primary, a_dot}
use Rattle.jl_grammar.specs.Reads.{an_index, a_call, a_new, a_bare_new, ReadsLeft, whole_left, ReadsArguments}
use Rattle.jl_grammar.specs.Reads.{no_arguments, arguments, ReadsArgumentList, last_argument, more_arguments}
use Rattle.jl_grammar.specs.Reads.{ReadsPostfix, left, a_postfix, ReadsUnary, postfix, a_prefix, an_update}
use Rattle.jl_grammar.specs.Reads.{BeginsBinary, operand, tighter, an_infix_operator, ReadsBinary, whole_binary}
use Rattle.jl_grammar.specs.Reads.{ReadsConditional, operands, a_conditional, ReadsAssignment, conditional}
use Rattle.jl_grammar.specs.Reads.{an_assignment, BeginsExpression, assignment, a_comma, ReadsExpression}
use Rattle.jl_grammar.specs.Reads.{whole_expression, ReadsStatement, a_block, a_var, an_empty, an_expression}
use Rattle.jl_grammar.specs.Reads.{an_if_else, an_if, a_do_while, a_while, a_for, a_for_in, a_for_var_in}
use Rattle.jl_grammar.specs.Reads.{a_continue, a_continue_to, a_break, a_break_to, a_return, a_return_of, a_switch}
use Rattle.jl_grammar.specs.Reads.{a_label, a_throw, a_try_catch, a_try_finally, a_try_both, a_debugger, ReadsBlock}
use Rattle.jl_grammar.specs.Reads.{in_braces, ReadsStatements, no_statements, more_statements, ReadsSub, several}
use Rattle.jl_grammar.specs.Reads.{alone, ReadsHead, a_head, ReadsDeclaration, declared, initialised}
use Rattle.jl_grammar.specs.Reads.{ReadsDeclarations, last_declaration, more_declarations, ReadsInit, no_init}
use Rattle.jl_grammar.specs.Reads.{an_init, init_vars, ReadsOptional, no_expression, one_expression, ReadsClauses}
use Rattle.jl_grammar.specs.Reads.{no_clauses, a_case, a_default, ReadsCatch, a_catch, ReadsElements, no_elements}
use Rattle.jl_grammar.specs.Reads.{a_declaration, a_statement, ReadsFunction, a_declared_function, ReadsBody}
use Rattle.jl_grammar.specs.Reads.{a_directive, no_directive}
use Rattle.jl_grammar.specs.Laws.{FewNodes, FunctionsAreNodes}
use Rattle.jl_grammar.specs.Next.{target_of}
use Rattle.jl_grammar.specs.Nodes.{nodes, nodes_forest, nodes_optional}
use Rattle.jl_grammar.specs.Operators.{InfixOperator, infix_node, plain, both, either}
use Rattle.jl_grammar.specs.Tokens.{span}
use Rattle.jl_grammar.proofs.CountedNodes.{counted, renumbered}
use Rattle.jl_grammar.proofs.Progress.{ends_at_goes, parameters_goes}

joined_nodes : (op : InfixOperator) (a b : Expr) (s : Span) → nodes (infix_node op a b s) ≡ nodes a + nodes b + 1
joined_nodes (plain op) a b s = refl
joined_nodes both a b s = refl
joined_nodes either a b s = refl

target_nodes : (t : Expr) (g : Tree Span tree.target) → IsTarget t g → nodes g ≤ nodes t
target_nodes t g h = of_target t g h.is
  where
    same : (a b : Tree Span tree.target) → Some a ≡ Some b → nodes a ≡ nodes b
    same a b e = cc

    of_target : (t : Expr) (g : Tree Span tree.target) → target_of t ≡ Some g → nodes g ≤ nodes t
    of_target (tree.name x s) g e = let q = same (tree.to_name (record { text = x; at = s })) g e in omega arith
    of_target (tree.dot a x s) g e = let q = same (tree.to_dot a x s) g e in omega arith
    of_target (tree.index a b s) g e = let q = same (tree.to_index a b s) g e in omega arith
    of_target _ g e = cc

mutual
  pub primary_few : {ts : List Token} {i : ℕ} {t : Expr} {j : ℕ} → ReadsPrimary ts i t j → nodes t + i ≤ j
  primary_few (a_this a) = omega arith
  primary_few (a_name a) = omega arith
  primary_few (a_null a) = omega arith
  primary_few (a_true a) = omega arith
  primary_few (a_false a) = omega arith
  primary_few (a_number a) = omega arith
  primary_few (a_string a) = omega arith
  primary_few (an_array a b) = let rb = items_few b in omega arith
  primary_few (an_object a b) = let rb = entries_few b in omega arith
  primary_few (in_parens a b c) = let rb = expression_few b in omega arith
  primary_few (a_function a b) = let rb = rest_few b in omega arith
  primary_few (a_named_function a b c) = let rc = rest_few c in omega arith

  pub items_few : {ts : List Token} {i : ℕ} {t : Forest Span tree.item} {j : ℕ}
      → ReadsItems ts i t j → nodes_forest t + i ≤ j
  items_few (no_items a) = omega arith
  items_few (a_hole a b) = let rb = items_few b in omega arith
  items_few (last_item a b) = let ra = assignment_few a in omega arith
  items_few (more_items a b c) = let ra = assignment_few a in let rc = items_few c in omega arith

  pub entries_few : {ts : List Token} {i : ℕ} {t : Forest Span tree.entry} {j : ℕ}
      → ReadsEntries ts i t j → nodes_forest t + i ≤ j
  entries_few (no_entries a) = omega arith
  entries_few (last_entry a b) = let ra = entry_few a in omega arith
  entries_few (more_entries a b c) = let ra = entry_few a in let rc = entries_few c in omega arith

  pub entry_few : {ts : List Token} {i : ℕ} {t : Tree Span tree.entry} {j : ℕ}
      → ReadsEntry ts i t j → nodes t + i ≤ j
  entry_few (a_value a b c) = let rc = assignment_few c in omega arith
  entry_few (a_getter a b c) = let rc = rest_few c in omega arith
  entry_few (a_setter a b c) = let rc = rest_few c in omega arith

  pub rest_few : {ts : List Token} {i : ℕ} {ps : List (Ident Span)} {c : Code} {j : ℕ}
      → ReadsRest ts i ps c j → nodes c + i ≤ j
  rest_few (a_rest a b c d e) = let rb = parameters_goes b in let rd = body_few d in omega arith

  pub begins_left_few : {ts : List Token} {calls : Bool} {i : ℕ} {t : Expr} {j : ℕ}
      → BeginsLeft ts calls i t j → nodes t + i ≤ j
  begins_left_few (primary a) = let ra = primary_few a in omega arith
  begins_left_few (a_dot a b c) = let ra = begins_left_few a in omega arith
  begins_left_few (an_index a b c d) = let ra = begins_left_few a in let rc = expression_few c in omega arith
  begins_left_few (a_call a b c) = let ra = begins_left_few a in let rc = arguments_few c in omega arith
  begins_left_few (a_new a b c d) = let rb = left_few b in let rd = arguments_few d in omega arith
  begins_left_few (a_bare_new a b c) = let rb = left_few b in omega arith

  pub left_few : {ts : List Token} {calls : Bool} {i : ℕ} {t : Expr} {j : ℕ}
      → ReadsLeft ts calls i t j → nodes t + i ≤ j
  left_few (whole_left a b) = let ra = begins_left_few a in omega arith

  pub arguments_few : {ts : List Token} {i : ℕ} {t : Exprs} {j : ℕ}
      → ReadsArguments ts i t j → nodes_forest t + i ≤ j
  arguments_few (no_arguments a) = omega arith
  arguments_few (arguments a) = let ra = argument_list_few a in omega arith

  pub argument_list_few : {ts : List Token} {i : ℕ} {t : Exprs} {j : ℕ}
      → ReadsArgumentList ts i t j → nodes_forest t + i ≤ j
  argument_list_few (last_argument a b) = let ra = assignment_few a in omega arith
  argument_list_few (more_arguments a b c) = let ra = assignment_few a in let rc = argument_list_few c in
      omega arith

  pub postfix_few : {ts : List Token} {i : ℕ} {t : Expr} {j : ℕ} → ReadsPostfix ts i t j → nodes t + i ≤ j
  postfix_few (left a b) = let ra = left_few a in omega arith
  postfix_few (a_postfix a b c d) = let ra = left_few a in let rb = target_nodes _ _ b in omega arith

  pub unary_few : {ts : List Token} {i : ℕ} {t : Expr} {j : ℕ} → ReadsUnary ts i t j → nodes t + i ≤ j
  unary_few (postfix a) = let ra = postfix_few a in omega arith
  unary_few (a_prefix a b) = let rb = unary_few b in omega arith
  unary_few (an_update a b c) = let rb = left_few b in let rc = target_nodes _ _ c in omega arith

  pub begins_binary_few : {ts : List Token} {no_in : Bool} {l i : ℕ} {t : Expr} {j : ℕ}
      → BeginsBinary ts no_in l i t j → nodes t + i ≤ j
  begins_binary_few (operand a) = let ra = unary_few a in omega arith
  begins_binary_few (tighter a) = let ra = binary_few a in omega arith
  begins_binary_few {ts} {i} {j = k} (an_infix_operator {a = x} {b = y} {op} a b c d) = let ra = begins_binary_few a in
      let rd = binary_few d in let e = joined_nodes op x y (span ts i k) in omega arith

  pub binary_few : {ts : List Token} {no_in : Bool} {l i : ℕ} {t : Expr} {j : ℕ}
      → ReadsBinary ts no_in l i t j → nodes t + i ≤ j
  binary_few (whole_binary a b) = let ra = begins_binary_few a in omega arith

  pub conditional_few : {ts : List Token} {no_in : Bool} {i : ℕ} {t : Expr} {j : ℕ}
      → ReadsConditional ts no_in i t j → nodes t + i ≤ j
  conditional_few (operands a b) = let ra = binary_few a in omega arith
  conditional_few (a_conditional a b c d e) = let ra = binary_few a in let rc = assignment_few c in
      let re = assignment_few e in omega arith

  pub assignment_few : {ts : List Token} {no_in : Bool} {i : ℕ} {t : Expr} {j : ℕ}
      → ReadsAssignment ts no_in i t j → nodes t + i ≤ j
  assignment_few (conditional a b) = let ra = conditional_few a in omega arith
  assignment_few (an_assignment a b c d) = let ra = left_few a in let rb = target_nodes _ _ b in
      let rd = assignment_few d in omega arith

  pub begins_expression_few : {ts : List Token} {no_in : Bool} {i : ℕ} {t : Expr} {j : ℕ}
      → BeginsExpression ts no_in i t j → nodes t + i ≤ j
  begins_expression_few (assignment a) = let ra = assignment_few a in omega arith
  begins_expression_few (a_comma a b c) = let ra = begins_expression_few a in let rc = assignment_few c in
      omega arith

  pub expression_few : {ts : List Token} {no_in : Bool} {i : ℕ} {t : Expr} {j : ℕ}
      → ReadsExpression ts no_in i t j → nodes t + i ≤ j
  expression_few (whole_expression a b) = let ra = begins_expression_few a in omega arith

  pub statement_few : {ts : List Token} {i : ℕ} {t : Stmt} {j : ℕ} → ReadsStatement ts i t j → nodes t + i ≤ j
  statement_few (a_block a) = let ra = block_few a in omega arith
  statement_few (a_var a b c) = let rb = declarations_few b in let rc = ends_at_goes c in omega arith
  statement_few (an_empty a) = omega arith
  statement_few (an_expression a b c d) = let rc = expression_few c in let rd = ends_at_goes d in omega arith
  statement_few (an_if_else a b c d e) = let rb = head_few b in let rc = sub_few c in let re = sub_few e in
      omega arith
  statement_few (an_if a b c d) = let rb = head_few b in let rc = sub_few c in omega arith
  statement_few (a_do_while a b c d e) = let rb = sub_few b in let rd = head_few d in let re = ends_at_goes e in
      omega arith
  statement_few (a_while a b c) = let rb = head_few b in let rc = sub_few c in omega arith
  statement_few (a_for a b c d e f g h m) = let rc = init_few c in let re = optional_few e in let rg = optional_few g in
      let rm = sub_few m in omega arith
  statement_few (a_for_in a b c d e f g) = let rc = left_few c in let re = expression_few e in
      let rg = sub_few g in omega arith
  statement_few (a_for_var_in a b c d e f g h) = let rf = expression_few f in let rh = sub_few h in omega arith
  statement_few (a_continue a b) = let rb = ends_at_goes b in omega arith
  statement_few (a_continue_to a b c d) = let rd = ends_at_goes d in omega arith
  statement_few (a_break a b) = let rb = ends_at_goes b in omega arith
  statement_few (a_break_to a b c d) = let rd = ends_at_goes d in omega arith
  statement_few (a_return a b) = let rb = ends_at_goes b in omega arith
  statement_few (a_return_of a b c d) = let rc = expression_few c in let rd = ends_at_goes d in omega arith
  statement_few (a_switch a b c d e) = let rb = head_few b in let rd = clauses_few d in omega arith
  statement_few (a_label a b c) = let rc = statement_few c in omega arith
  statement_few (a_throw a b c d) = let rc = expression_few c in let rd = ends_at_goes d in omega arith
  statement_few (a_try_catch a b c d) = let rb = block_few b in let rc = catch_few c in omega arith
  statement_few (a_try_finally a b c d) = let rb = block_few b in let rd = block_few d in omega arith
  statement_few (a_try_both a b c d e) = let rb = block_few b in let rc = catch_few c in let re = block_few e in
      omega arith
  statement_few (a_debugger a b) = let rb = ends_at_goes b in omega arith

  pub block_few : {ts : List Token} {i : ℕ} {t : Stmts} {j : ℕ} → ReadsBlock ts i t j → nodes_forest t + i ≤ j
  block_few (in_braces a b c) = let rb = statements_few b in omega arith

  pub statements_few : {ts : List Token} {i : ℕ} {t : Stmts} {j : ℕ}
      → ReadsStatements ts i t j → nodes_forest t + i ≤ j
  statements_few (no_statements a) = omega arith
  statements_few (more_statements a b) = let ra = statement_few a in let rb = statements_few b in omega arith

  pub sub_few : {ts : List Token} {i : ℕ} {t : Stmts} {j : ℕ} → ReadsSub ts i t j → nodes_forest t + i ≤ j
  sub_few (several a) = let ra = block_few a in omega arith
  sub_few (alone a b) = let rb = statement_few b in omega arith

  pub head_few : {ts : List Token} {i : ℕ} {t : Expr} {j : ℕ} → ReadsHead ts i t j → nodes t + i ≤ j
  head_few (a_head a b c) = let rb = expression_few b in omega arith

  pub declaration_few : {ts : List Token} {no_in : Bool} {i : ℕ} {t : Tree Span tree.decl} {j : ℕ}
      → ReadsDeclaration ts no_in i t j → nodes t + i ≤ j
  declaration_few (declared a b) = omega arith
  declaration_few (initialised a b c) = let rc = assignment_few c in omega arith

  pub declarations_few : {ts : List Token} {no_in : Bool} {i : ℕ} {t : Forest Span tree.decl} {j : ℕ}
      → ReadsDeclarations ts no_in i t j → nodes_forest t + i ≤ j
  declarations_few (last_declaration a b) = let ra = declaration_few a in omega arith
  declarations_few (more_declarations a b c) = let ra = declaration_few a in let rc = declarations_few c in
      omega arith

  pub init_few : {ts : List Token} {i : ℕ} {t : Tree Span tree.init} {j : ℕ}
      → ReadsInit ts i t j → nodes t + i ≤ j
  init_few (no_init a) = omega arith
  init_few (an_init a) = let ra = expression_few a in omega arith
  init_few (init_vars a b) = let rb = declarations_few b in omega arith

  pub optional_few : {ts : List Token} {k : Terminal} {i : ℕ} {t : OptionalTree Span tree.expr} {j : ℕ}
      → ReadsOptional ts k i t j → nodes_optional t + i ≤ j
  optional_few (no_expression a) = omega arith
  optional_few (one_expression a) = let ra = expression_few a in omega arith

  pub clauses_few : {ts : List Token} {fresh : Bool} {i : ℕ} {t : Forest Span tree.clause} {j : ℕ}
      → ReadsClauses ts fresh i t j → nodes_forest t + i ≤ j
  clauses_few (no_clauses a) = omega arith
  clauses_few (a_case a b c d e) = let rb = expression_few b in let rd = statements_few d in
      let re = clauses_few e in omega arith
  clauses_few (a_default a b c d) = let rc = statements_few c in let rd = clauses_few d in omega arith

  pub catch_few : {ts : List Token} {i : ℕ} {t : Tree Span tree.handler} {j : ℕ}
      → ReadsCatch ts i t j → nodes t + i ≤ j
  catch_few (a_catch a b c d e) = let re = block_few e in omega arith

  pub elements_few : {ts : List Token} {i : ℕ} {fs : Forest Span tree.func} {ws : Stmts} {j : ℕ}
      → ReadsElements ts i fs ws j → nodes_forest fs + nodes_forest ws + i ≤ j
  elements_few (no_elements a) = omega arith
  elements_few (a_declaration a b) = let ra = function_few a in let rb = elements_few b in omega arith
  elements_few (a_statement a b) = let ra = statement_few a in let rb = elements_few b in omega arith

  pub function_few : {ts : List Token} {i : ℕ} {t : Tree Span tree.func} {j : ℕ}
      → ReadsFunction ts i t j → nodes t + i ≤ j
  function_few (a_declared_function a b c) = let rc = rest_few c in omega arith

  pub body_few : {ts : List Token} {i : ℕ} {t : Code} {j : ℕ} → ReadsBody ts i t j → nodes t + i ≤ j
  body_few (a_directive a b c d) = let rc = ends_at_goes c in let rd = body_few d in omega arith
  body_few (no_directive a b) = let rb = elements_few b in omega arith

pub few_nodes : FewNodes
few_nodes ts limit p r =
    let e : nodes p.body ≡ nodes r.code = ap (λ (q : Program Span). nodes q.body) r.is ∙ renumbered 0 r.code in
    let h = body_few r.whole in omega arith

pub functions_are_nodes : FunctionsAreNodes
functions_are_nodes p = counted p.body
