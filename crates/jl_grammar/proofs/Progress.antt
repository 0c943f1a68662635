-- What is read has a token, and what may be nothing does not go back.
use Rattle.std.proofs.Common.{ℕ, ◌<◌, ◌≤◌, Bool, List, arith}
use Rattle.jl_ast.specs.Tree.{Ident, Tree, Forest, OptionalTree}
use Rattle.jl_ast.specs.Tree as tree
use Rattle.jl_text.specs.declared.span.Span.{Span}
use Rattle.jl_token.specs.declared.token.Token.{Token}
use Rattle.jl_grammar.specs.declared.terminal.Terminal.{Terminal}
use Rattle.jl_grammar.specs.Reads.{Expr, Stmt, Exprs, Stmts, Code, EndsAt, there, inserted, ReadsNames, last_name}
use Rattle.jl_grammar.specs.Reads.{more_names, ReadsParameters, no_parameters, parameters, ReadsPrimary, a_this}
use Rattle.jl_grammar.specs.Reads.{a_name, a_null, a_true, a_false, a_number, a_string, an_array, an_object}
use Rattle.jl_grammar.specs.Reads.{in_parens, a_function, a_named_function, ReadsItems, no_items, a_hole, last_item}
use Rattle.jl_grammar.specs.Reads.{more_items, ReadsEntries, no_entries, last_entry, more_entries, ReadsEntry}
use Rattle.jl_grammar.specs.Reads.{a_value, a_getter, a_setter, ReadsRest, a_rest, BeginsLeft, primary, a_dot}
use Rattle.jl_grammar.specs.Reads.{an_index, a_call, a_new, a_bare_new, ReadsLeft, whole_left, ReadsArguments}
use Rattle.jl_grammar.specs.Reads.{no_arguments, arguments, ReadsArgumentList, last_argument, more_arguments}
use Rattle.jl_grammar.specs.Reads.{ReadsPostfix, left, a_postfix, ReadsUnary, postfix, a_prefix, an_update}
use Rattle.jl_grammar.specs.Reads.{BeginsBinary, operand, tighter, an_infix_operator, ReadsBinary, whole_binary}
use Rattle.jl_grammar.specs.Reads.{ReadsConditional, operands, a_conditional, ReadsAssignment, conditional}
use Rattle.jl_grammar.specs.Reads.{an_assignment, BeginsExpression, assignment, a_comma, ReadsExpression}
use Rattle.jl_grammar.specs.Reads.{whole_expression, ReadsStatement, a_block, a_var, an_empty, an_expression}
use Rattle.jl_grammar.specs.Reads.{an_if_else, an_if, a_do_while, a_while, a_for, a_for_in, a_for_var_in}
use Rattle.jl_grammar.specs.Reads.{a_continue, a_continue_to, a_break, a_break_to, a_return, a_return_of, a_switch}
use Rattle.jl_grammar.specs.Reads.{a_label, a_throw, a_try_catch, a_try_finally, a_try_both, a_debugger, ReadsBlock}
use Rattle.jl_grammar.specs.Reads.{in_braces, ReadsStatements, no_statements, more_statements, ReadsSub, several}
use Rattle.jl_grammar.specs.Reads.{alone, ReadsHead, a_head, ReadsDeclaration, declared, initialised}
use Rattle.jl_grammar.specs.Reads.{ReadsDeclarations, last_declaration, more_declarations, ReadsInit, no_init}
use Rattle.jl_grammar.specs.Reads.{an_init, init_vars, ReadsOptional, no_expression, one_expression, ReadsClauses}
use Rattle.jl_grammar.specs.Reads.{no_clauses, a_case, a_default, ReadsCatch, a_catch, ReadsElements, no_elements}
use Rattle.jl_grammar.specs.Reads.{a_declaration, a_statement, ReadsFunction, a_declared_function, ReadsBody}
use Rattle.jl_grammar.specs.Reads.{a_directive, no_directive}

pub ends_at_goes : {ts : List Token} {i j : ℕ} → EndsAt ts i j → i ≤ j
ends_at_goes (there a) = omega arith
ends_at_goes (inserted a b) = omega arith

pub names_goes : {ts : List Token} {i : ℕ} {t : List (Ident Span)} {j : ℕ} → ReadsNames ts i t j → i < j
names_goes (last_name a b) = omega arith
names_goes (more_names a b c) = let rc = names_goes c in omega arith

pub parameters_goes : {ts : List Token} {i : ℕ} {t : List (Ident Span)} {j : ℕ} → ReadsParameters ts i t j → i < j
parameters_goes (no_parameters a) = omega arith
parameters_goes (parameters a) = names_goes a

mutual
  pub primary_goes : {ts : List Token} {i : ℕ} {t : Expr} {j : ℕ} → ReadsPrimary ts i t j → i < j
  primary_goes (a_this a) = omega arith
  primary_goes (a_name a) = omega arith
  primary_goes (a_null a) = omega arith
  primary_goes (a_true a) = omega arith
  primary_goes (a_false a) = omega arith
  primary_goes (a_number a) = omega arith
  primary_goes (a_string a) = omega arith
  primary_goes (an_array a b) = let rb = items_goes b in omega arith
  primary_goes (an_object a b) = let rb = entries_goes b in omega arith
  primary_goes (in_parens a b c) = let rb = expression_goes b in omega arith
  primary_goes (a_function a b) = let rb = rest_goes b in omega arith
  primary_goes (a_named_function a b c) = let rc = rest_goes c in omega arith

  pub items_goes : {ts : List Token} {i : ℕ} {t : Forest Span tree.item} {j : ℕ} → ReadsItems ts i t j → i < j
  items_goes (no_items a) = omega arith
  items_goes (a_hole a b) = let rb = items_goes b in omega arith
  items_goes (last_item a b) = let ra = assignment_goes a in omega arith
  items_goes (more_items a b c) = let ra = assignment_goes a in let rc = items_goes c in omega arith

  pub entries_goes : {ts : List Token} {i : ℕ} {t : Forest Span tree.entry} {j : ℕ} → ReadsEntries ts i t j → i < j
  entries_goes (no_entries a) = omega arith
  entries_goes (last_entry a b) = let ra = entry_goes a in omega arith
  entries_goes (more_entries a b c) = let ra = entry_goes a in let rc = entries_goes c in omega arith

  pub entry_goes : {ts : List Token} {i : ℕ} {t : Tree Span tree.entry} {j : ℕ} → ReadsEntry ts i t j → i < j
  entry_goes (a_value a b c) = let rc = assignment_goes c in omega arith
  entry_goes (a_getter a b c) = let rc = rest_goes c in omega arith
  entry_goes (a_setter a b c) = let rc = rest_goes c in omega arith

  pub rest_goes : {ts : List Token} {i : ℕ} {ps : List (Ident Span)} {c : Code} {j : ℕ} → ReadsRest ts i ps c j
      → i < j
  rest_goes (a_rest a b c d e) = let rb = parameters_goes b in let rd = body_goes d in omega arith

  pub begins_left_goes : {ts : List Token} {calls : Bool} {i : ℕ} {t : Expr} {j : ℕ} → BeginsLeft ts calls i t j
      → i < j
  begins_left_goes (primary a) = primary_goes a
  begins_left_goes (a_dot a b c) = let ra = begins_left_goes a in omega arith
  begins_left_goes (an_index a b c d) = let ra = begins_left_goes a in let rc = expression_goes c in omega arith
  begins_left_goes (a_call a b c) = let ra = begins_left_goes a in let rc = arguments_goes c in omega arith
  begins_left_goes (a_new a b c d) = let rb = left_goes b in let rd = arguments_goes d in omega arith
  begins_left_goes (a_bare_new a b c) = let rb = left_goes b in omega arith

  pub left_goes : {ts : List Token} {calls : Bool} {i : ℕ} {t : Expr} {j : ℕ} → ReadsLeft ts calls i t j → i < j
  left_goes (whole_left a b) = begins_left_goes a

  pub arguments_goes : {ts : List Token} {i : ℕ} {t : Exprs} {j : ℕ} → ReadsArguments ts i t j → i < j
  arguments_goes (no_arguments a) = omega arith
  arguments_goes (arguments a) = argument_list_goes a

  pub argument_list_goes : {ts : List Token} {i : ℕ} {t : Exprs} {j : ℕ} → ReadsArgumentList ts i t j → i < j
  argument_list_goes (last_argument a b) = let ra = assignment_goes a in omega arith
  argument_list_goes (more_arguments a b c) = let ra = assignment_goes a in let rc = argument_list_goes c in
      omega arith

  pub postfix_goes : {ts : List Token} {i : ℕ} {t : Expr} {j : ℕ} → ReadsPostfix ts i t j → i < j
  postfix_goes (left a b) = left_goes a
  postfix_goes (a_postfix a b c d) = let ra = left_goes a in omega arith

  pub unary_goes : {ts : List Token} {i : ℕ} {t : Expr} {j : ℕ} → ReadsUnary ts i t j → i < j
  unary_goes (postfix a) = postfix_goes a
  unary_goes (a_prefix a b) = let rb = unary_goes b in omega arith
  unary_goes (an_update a b c) = let rb = left_goes b in omega arith

  pub begins_binary_goes : {ts : List Token} {no_in : Bool} {l i : ℕ} {t : Expr} {j : ℕ}
      → BeginsBinary ts no_in l i t j → i < j
  begins_binary_goes (operand a) = unary_goes a
  begins_binary_goes (tighter a) = binary_goes a
  begins_binary_goes (an_infix_operator a b c d) = let ra = begins_binary_goes a in let rd = binary_goes d in
      omega arith

  pub binary_goes : {ts : List Token} {no_in : Bool} {l i : ℕ} {t : Expr} {j : ℕ} → ReadsBinary ts no_in l i t j
      → i < j
  binary_goes (whole_binary a b) = begins_binary_goes a

  pub conditional_goes : {ts : List Token} {no_in : Bool} {i : ℕ} {t : Expr} {j : ℕ} → ReadsConditional ts no_in i t j
      → i < j
  conditional_goes (operands a b) = binary_goes a
  conditional_goes (a_conditional a b c d e) = let ra = binary_goes a in let rc = assignment_goes c in
      let re = assignment_goes e in omega arith

  pub assignment_goes : {ts : List Token} {no_in : Bool} {i : ℕ} {t : Expr} {j : ℕ} → ReadsAssignment ts no_in i t j
      → i < j
  assignment_goes (conditional a b) = conditional_goes a
  assignment_goes (an_assignment a b c d) = let ra = left_goes a in let rd = assignment_goes d in omega arith

  pub begins_expression_goes : {ts : List Token} {no_in : Bool} {i : ℕ} {t : Expr} {j : ℕ}
      → BeginsExpression ts no_in i t j → i < j
  begins_expression_goes (assignment a) = assignment_goes a
  begins_expression_goes (a_comma a b c) = let ra = begins_expression_goes a in let rc = assignment_goes c in
      omega arith

  pub expression_goes : {ts : List Token} {no_in : Bool} {i : ℕ} {t : Expr} {j : ℕ} → ReadsExpression ts no_in i t j
      → i < j
  expression_goes (whole_expression a b) = begins_expression_goes a

  pub statement_goes : {ts : List Token} {i : ℕ} {t : Stmt} {j : ℕ} → ReadsStatement ts i t j → i < j
  statement_goes (a_block a) = block_goes a
  statement_goes (a_var a b c) = let rb = declarations_goes b in let rc = ends_at_goes c in omega arith
  statement_goes (an_empty a) = omega arith
  statement_goes (an_expression a b c d) = let rc = expression_goes c in let rd = ends_at_goes d in omega arith
  statement_goes (an_if_else a b c d e) = let rb = head_goes b in let rc = sub_goes c in let re = sub_goes e in
      omega arith
  statement_goes (an_if a b c d) = let rb = head_goes b in let rc = sub_goes c in omega arith
  statement_goes (a_do_while a b c d e) = let rb = sub_goes b in let rd = head_goes d in let re = ends_at_goes e in
      omega arith
  statement_goes (a_while a b c) = let rb = head_goes b in let rc = sub_goes c in omega arith
  statement_goes (a_for a b c d e f g h m) = let rc = init_goes c in let re = optional_goes e in
      let rg = optional_goes g in
      let rm = sub_goes m in omega arith
  statement_goes (a_for_in a b c d e f g) = let rc = left_goes c in let re = expression_goes e in
      let rg = sub_goes g in omega arith
  statement_goes (a_for_var_in a b c d e f g h) = let rf = expression_goes f in let rh = sub_goes h in omega arith
  statement_goes (a_continue a b) = let rb = ends_at_goes b in omega arith
  statement_goes (a_continue_to a b c d) = let rd = ends_at_goes d in omega arith
  statement_goes (a_break a b) = let rb = ends_at_goes b in omega arith
  statement_goes (a_break_to a b c d) = let rd = ends_at_goes d in omega arith
  statement_goes (a_return a b) = let rb = ends_at_goes b in omega arith
  statement_goes (a_return_of a b c d) = let rc = expression_goes c in let rd = ends_at_goes d in omega arith
  statement_goes (a_switch a b c d e) = let rb = head_goes b in let rd = clauses_goes d in omega arith
  statement_goes (a_label a b c) = let rc = statement_goes c in omega arith
  statement_goes (a_throw a b c d) = let rc = expression_goes c in let rd = ends_at_goes d in omega arith
  statement_goes (a_try_catch a b c d) = let rb = block_goes b in let rc = catch_goes c in omega arith
  statement_goes (a_try_finally a b c d) = let rb = block_goes b in let rd = block_goes d in omega arith
  statement_goes (a_try_both a b c d e) = let rb = block_goes b in let rc = catch_goes c in let re = block_goes e in
      omega arith
  statement_goes (a_debugger a b) = let rb = ends_at_goes b in omega arith

  pub block_goes : {ts : List Token} {i : ℕ} {t : Stmts} {j : ℕ} → ReadsBlock ts i t j → i < j
  block_goes (in_braces a b c) = let rb = statements_goes b in omega arith

  pub statements_goes : {ts : List Token} {i : ℕ} {t : Stmts} {j : ℕ} → ReadsStatements ts i t j → i ≤ j
  statements_goes (no_statements a) = omega arith
  statements_goes (more_statements a b) = let ra = statement_goes a in let rb = statements_goes b in omega arith

  pub sub_goes : {ts : List Token} {i : ℕ} {t : Stmts} {j : ℕ} → ReadsSub ts i t j → i < j
  sub_goes (several a) = block_goes a
  sub_goes (alone a b) = statement_goes b

  pub head_goes : {ts : List Token} {i : ℕ} {t : Expr} {j : ℕ} → ReadsHead ts i t j → i < j
  head_goes (a_head a b c) = let rb = expression_goes b in omega arith

  pub declaration_goes : {ts : List Token} {no_in : Bool} {i : ℕ} {t : Tree Span tree.decl} {j : ℕ}
      → ReadsDeclaration ts no_in i t j → i < j
  declaration_goes (declared a b) = omega arith
  declaration_goes (initialised a b c) = let rc = assignment_goes c in omega arith

  pub declarations_goes : {ts : List Token} {no_in : Bool} {i : ℕ} {t : Forest Span tree.decl} {j : ℕ}
      → ReadsDeclarations ts no_in i t j → i < j
  declarations_goes (last_declaration a b) = declaration_goes a
  declarations_goes (more_declarations a b c) = let ra = declaration_goes a in let rc = declarations_goes c in
      omega arith

  pub init_goes : {ts : List Token} {i : ℕ} {t : Tree Span tree.init} {j : ℕ} → ReadsInit ts i t j → i ≤ j
  init_goes (no_init a) = omega arith
  init_goes (an_init a) = let ra = expression_goes a in omega arith
  init_goes (init_vars a b) = let rb = declarations_goes b in omega arith

  pub optional_goes : {ts : List Token} {k : Terminal} {i : ℕ} {t : OptionalTree Span tree.expr} {j : ℕ}
      → ReadsOptional ts k i t j
      → i ≤ j
  optional_goes (no_expression a) = omega arith
  optional_goes (one_expression a) = let ra = expression_goes a in omega arith

  pub clauses_goes : {ts : List Token} {fresh : Bool} {i : ℕ} {t : Forest Span tree.clause} {j : ℕ}
      → ReadsClauses ts fresh i t j → i ≤ j
  clauses_goes (no_clauses a) = omega arith
  clauses_goes (a_case a b c d e) = let rb = expression_goes b in let rd = statements_goes d in
      let re = clauses_goes e in omega arith
  clauses_goes (a_default a b c d) = let rc = statements_goes c in let rd = clauses_goes d in omega arith

  pub catch_goes : {ts : List Token} {i : ℕ} {t : Tree Span tree.handler} {j : ℕ} → ReadsCatch ts i t j → i < j
  catch_goes (a_catch a b c d e) = let re = block_goes e in omega arith

  pub elements_goes : {ts : List Token} {i : ℕ} {fs : Forest Span tree.func} {ws : Stmts} {j : ℕ}
      → ReadsElements ts i fs ws j → i ≤ j
  elements_goes (no_elements a) = omega arith
  elements_goes (a_declaration a b) = let ra = function_goes a in let rb = elements_goes b in omega arith
  elements_goes (a_statement a b) = let ra = statement_goes a in let rb = elements_goes b in omega arith

  pub function_goes : {ts : List Token} {i : ℕ} {t : Tree Span tree.func} {j : ℕ} → ReadsFunction ts i t j → i < j
  function_goes (a_declared_function a b c) = let rc = rest_goes c in omega arith

  pub body_goes : {ts : List Token} {i : ℕ} {t : Code} {j : ℕ} → ReadsBody ts i t j → i ≤ j
  body_goes (a_directive a b c d) = let rc = ends_at_goes c in let rd = body_goes d in omega arith
  body_goes (no_directive a b) = elements_goes b
