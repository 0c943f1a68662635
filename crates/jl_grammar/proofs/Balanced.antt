-- What is read closes the brackets that it opens, and up to a closing bracket one more.
use Rattle.std.proofs.Common.{◌≡◌, ℕ, ◌-◌, Bool, List, refl, arith}
use Rattle.jl_ast.specs.Tree.{Ident, Tree, Forest, OptionalTree}
use Rattle.jl_ast.specs.Tree as tree
use Rattle.jl_text.specs.declared.span.Span.{Span}
use Rattle.jl_token.specs.declared.token.Token.{Token}
use Rattle.jl_grammar.specs.declared.terminal.Terminal.{Terminal}
use Rattle.jl_grammar.specs.Reads.{Expr, Stmt, Exprs, Stmts, Code, EndsAt, there, inserted, ReadsNames, last_name}
use Rattle.jl_grammar.specs.Reads.{more_names, ReadsParameters, no_parameters, parameters, ReadsPrimary, a_this}
use Rattle.jl_grammar.specs.Reads.{a_name, a_null, a_true, a_false, a_number, a_string, an_array, an_object}
use Rattle.jl_grammar.specs.Reads.{in_parens, a_function, a_named_function, ReadsItems, no_items, a_hole, last_item}
use Rattle.jl_grammar.specs.Reads.{more_items, ReadsEntries, no_entries, last_entry, more_entries, ReadsEntry}
use Rattle.jl_grammar.specs.Reads.{a_value, a_getter, a_setter, ReadsRest, a_rest, BeginsLeft, primary, a_dot}
use Rattle.jl_grammar.specs.Reads.{an_index, a_call, a_new, a_bare_new, ReadsLeft, whole_left, ReadsArguments}
use Rattle.jl_grammar.specs.Reads.{no_arguments, arguments, ReadsArgumentList, last_argument, more_arguments}
use Rattle.jl_grammar.specs.Reads.{ReadsPostfix, left, a_postfix, ReadsUnary, postfix, a_prefix, an_update}
use Rattle.jl_grammar.specs.Reads.{BeginsBinary, operand, tighter, an_infix_operator, ReadsBinary, whole_binary}
use Rattle.jl_grammar.specs.Reads.{ReadsConditional, operands, a_conditional, ReadsAssignment, conditional}
use Rattle.jl_grammar.specs.Reads.{an_assignment, BeginsExpression, assignment, a_comma, ReadsExpression}
use Rattle.jl_grammar.specs.Reads.{whole_expression, ReadsStatement, a_block, a_var, an_empty, an_expression}
use Rattle.jl_grammar.specs.Reads.{an_if_else, an_if, a_do_while, a_while, a_for, a_for_in, a_for_var_in}
use Rattle.jl_grammar.specs.Reads.{a_continue, a_continue_to, a_break, a_break_to, a_return, a_return_of, a_switch}
use Rattle.jl_grammar.specs.Reads.{a_label, a_throw, a_try_catch, a_try_finally, a_try_both, a_debugger, ReadsBlock}
use Rattle.jl_grammar.specs.Reads.{in_braces, ReadsStatements, no_statements, more_statements, ReadsSub, several}
use Rattle.jl_grammar.specs.Reads.{alone, ReadsHead, a_head, ReadsDeclaration, declared, initialised}
use Rattle.jl_grammar.specs.Reads.{ReadsDeclarations, last_declaration, more_declarations, ReadsInit, no_init}
use Rattle.jl_grammar.specs.Reads.{an_init, init_vars, ReadsOptional, no_expression, one_expression, ReadsClauses}
use Rattle.jl_grammar.specs.Reads.{no_clauses, a_case, a_default, ReadsCatch, a_catch, ReadsElements, no_elements}
use Rattle.jl_grammar.specs.Reads.{a_declaration, a_statement, ReadsFunction, a_declared_function, ReadsBody}
use Rattle.jl_grammar.specs.Reads.{a_directive, no_directive}
use Rattle.jl_grammar.specs.Brackets.{open_brackets}
use Rattle.jl_grammar.proofs.Opened.{after, after_identifier, after_name, after_key, after_infix_operator, after_assign}
use Rattle.jl_grammar.proofs.Opened.{after_prefix, after_update}

pub ends_at_closes : {ts : List Token} {i j : ℕ} → EndsAt ts i j → open_brackets ts j ≡ open_brackets ts i
ends_at_closes (there a) = let ra = after a in omega arith
ends_at_closes (inserted a b) = refl

pub names_closes : {ts : List Token} {i : ℕ} {t : List (Ident Span)} {j : ℕ} → ReadsNames ts i t j
    → open_brackets ts j ≡ open_brackets ts i - 1
names_closes (last_name a b) = let ra = after_identifier a in let rb = after b in omega arith
names_closes (more_names a b c) = let ra = after_identifier a in let rb = after b in let rc = names_closes c in
    omega arith

pub parameters_closes : {ts : List Token} {i : ℕ} {t : List (Ident Span)} {j : ℕ} → ReadsParameters ts i t j
    → open_brackets ts j ≡ open_brackets ts i - 1
parameters_closes (no_parameters a) = let ra = after a in omega arith
parameters_closes (parameters a) = let ra = names_closes a in omega arith

mutual
  pub primary_closes : {ts : List Token} {i : ℕ} {t : Expr} {j : ℕ} → ReadsPrimary ts i t j
      → open_brackets ts j ≡ open_brackets ts i
  primary_closes (a_this a) = let ra = after a in omega arith
  primary_closes (a_name a) = let ra = after_identifier a in omega arith
  primary_closes (a_null a) = let ra = after a in omega arith
  primary_closes (a_true a) = let ra = after a in omega arith
  primary_closes (a_false a) = let ra = after a in omega arith
  primary_closes (a_number a) = let ra = after a in omega arith
  primary_closes (a_string a) = let ra = after a in omega arith
  primary_closes (an_array a b) = let ra = after a in let rb = items_closes b in omega arith
  primary_closes (an_object a b) = let ra = after a in let rb = entries_closes b in omega arith
  primary_closes (in_parens a b c) = let ra = after a in let rb = expression_closes b in let rc = after c in
      omega arith
  primary_closes (a_function a b) = let ra = after a in let rb = rest_closes b in omega arith
  primary_closes (a_named_function a b c) = let ra = after a in let rb = after_identifier b in
      let rc = rest_closes c in omega arith

  pub items_closes : {ts : List Token} {i : ℕ} {t : Forest Span tree.item} {j : ℕ} → ReadsItems ts i t j
      → open_brackets ts j ≡ open_brackets ts i - 1
  items_closes (no_items a) = let ra = after a in omega arith
  items_closes (a_hole a b) = let ra = after a in let rb = items_closes b in omega arith
  items_closes (last_item a b) = let ra = assignment_closes a in let rb = after b in omega arith
  items_closes (more_items a b c) = let ra = assignment_closes a in let rb = after b in let rc = items_closes c in
      omega arith

  pub entries_closes : {ts : List Token} {i : ℕ} {t : Forest Span tree.entry} {j : ℕ} → ReadsEntries ts i t j
      → open_brackets ts j ≡ open_brackets ts i - 1
  entries_closes (no_entries a) = let ra = after a in omega arith
  entries_closes (last_entry a b) = let ra = entry_closes a in let rb = after b in omega arith
  entries_closes (more_entries a b c) = let ra = entry_closes a in let rb = after b in let rc = entries_closes c in
      omega arith

  pub entry_closes : {ts : List Token} {i : ℕ} {t : Tree Span tree.entry} {j : ℕ} → ReadsEntry ts i t j
      → open_brackets ts j ≡ open_brackets ts i
  entry_closes (a_value a b c) = let ra = after_key a in let rb = after b in let rc = assignment_closes c in
      omega arith
  entry_closes (a_getter a b c) = let ra = after a in let rb = after_key b in let rc = rest_closes c in omega arith
  entry_closes (a_setter a b c) = let ra = after a in let rb = after_key b in let rc = rest_closes c in omega arith

  pub rest_closes : {ts : List Token} {i : ℕ} {ps : List (Ident Span)} {c : Code} {j : ℕ} → ReadsRest ts i ps c j
      → open_brackets ts j ≡ open_brackets ts i
  rest_closes (a_rest a b c d e) = let ra = after a in let rb = parameters_closes b in let rc = after c in
      let rd = body_closes d in let re = after e in omega arith

  pub begins_left_closes : {ts : List Token} {calls : Bool} {i : ℕ} {t : Expr} {j : ℕ} → BeginsLeft ts calls i t j
      → open_brackets ts j ≡ open_brackets ts i
  begins_left_closes (primary a) = let ra = primary_closes a in omega arith
  begins_left_closes (a_dot a b c) = let ra = begins_left_closes a in let rb = after b in let rc = after_name c in
      omega arith
  begins_left_closes (an_index a b c d) = let ra = begins_left_closes a in let rb = after b in
      let rc = expression_closes c in let rd = after d in omega arith
  begins_left_closes (a_call a b c) = let ra = begins_left_closes a in let rb = after b in
      let rc = arguments_closes c in omega arith
  begins_left_closes (a_new a b c d) = let ra = after a in let rb = left_closes b in let rc = after c in
      let rd = arguments_closes d in omega arith
  begins_left_closes (a_bare_new a b c) = let ra = after a in let rb = left_closes b in omega arith

  pub left_closes : {ts : List Token} {calls : Bool} {i : ℕ} {t : Expr} {j : ℕ} → ReadsLeft ts calls i t j
      → open_brackets ts j ≡ open_brackets ts i
  left_closes (whole_left a b) = let ra = begins_left_closes a in omega arith

  pub arguments_closes : {ts : List Token} {i : ℕ} {t : Exprs} {j : ℕ} → ReadsArguments ts i t j
      → open_brackets ts j ≡ open_brackets ts i - 1
  arguments_closes (no_arguments a) = let ra = after a in omega arith
  arguments_closes (arguments a) = let ra = argument_list_closes a in omega arith

  pub argument_list_closes : {ts : List Token} {i : ℕ} {t : Exprs} {j : ℕ} → ReadsArgumentList ts i t j
      → open_brackets ts j ≡ open_brackets ts i - 1
  argument_list_closes (last_argument a b) = let ra = assignment_closes a in let rb = after b in omega arith
  argument_list_closes (more_arguments a b c) = let ra = assignment_closes a in let rb = after b in
      let rc = argument_list_closes c in omega arith

  pub postfix_closes : {ts : List Token} {i : ℕ} {t : Expr} {j : ℕ} → ReadsPostfix ts i t j
      → open_brackets ts j ≡ open_brackets ts i
  postfix_closes (left a b) = let ra = left_closes a in omega arith
  postfix_closes (a_postfix a b c d) = let ra = left_closes a in let rc = after_update c in omega arith

  pub unary_closes : {ts : List Token} {i : ℕ} {t : Expr} {j : ℕ} → ReadsUnary ts i t j
      → open_brackets ts j ≡ open_brackets ts i
  unary_closes (postfix a) = let ra = postfix_closes a in omega arith
  unary_closes (a_prefix a b) = let ra = after_prefix a in let rb = unary_closes b in omega arith
  unary_closes (an_update a b c) = let ra = after_update a in let rb = left_closes b in omega arith

  pub begins_binary_closes : {ts : List Token} {no_in : Bool} {l i : ℕ} {t : Expr} {j : ℕ}
      → BeginsBinary ts no_in l i t j → open_brackets ts j ≡ open_brackets ts i
  begins_binary_closes (operand a) = let ra = unary_closes a in omega arith
  begins_binary_closes (tighter a) = let ra = binary_closes a in omega arith
  begins_binary_closes (an_infix_operator a b c d) = let ra = begins_binary_closes a in
      let rb = after_infix_operator b in
      let rd = binary_closes d in omega arith

  pub binary_closes : {ts : List Token} {no_in : Bool} {l i : ℕ} {t : Expr} {j : ℕ} → ReadsBinary ts no_in l i t j
      → open_brackets ts j ≡ open_brackets ts i
  binary_closes (whole_binary a b) = let ra = begins_binary_closes a in omega arith

  pub conditional_closes : {ts : List Token} {no_in : Bool} {i : ℕ} {t : Expr} {j : ℕ}
      → ReadsConditional ts no_in i t j → open_brackets ts j ≡ open_brackets ts i
  conditional_closes (operands a b) = let ra = binary_closes a in omega arith
  conditional_closes (a_conditional a b c d e) = let ra = binary_closes a in let rb = after b in
      let rc = assignment_closes c in let rd = after d in let re = assignment_closes e in omega arith

  pub assignment_closes : {ts : List Token} {no_in : Bool} {i : ℕ} {t : Expr} {j : ℕ} → ReadsAssignment ts no_in i t j
      → open_brackets ts j ≡ open_brackets ts i
  assignment_closes (conditional a b) = let ra = conditional_closes a in omega arith
  assignment_closes (an_assignment a b c d) = let ra = left_closes a in let rc = after_assign c in
      let rd = assignment_closes d in omega arith

  pub begins_expression_closes : {ts : List Token} {no_in : Bool} {i : ℕ} {t : Expr} {j : ℕ}
      → BeginsExpression ts no_in i t j → open_brackets ts j ≡ open_brackets ts i
  begins_expression_closes (assignment a) = let ra = assignment_closes a in omega arith
  begins_expression_closes (a_comma a b c) = let ra = begins_expression_closes a in let rb = after b in
      let rc = assignment_closes c in omega arith

  pub expression_closes : {ts : List Token} {no_in : Bool} {i : ℕ} {t : Expr} {j : ℕ} → ReadsExpression ts no_in i t j
      → open_brackets ts j ≡ open_brackets ts i
  expression_closes (whole_expression a b) = let ra = begins_expression_closes a in omega arith

  pub statement_closes : {ts : List Token} {i : ℕ} {t : Stmt} {j : ℕ} → ReadsStatement ts i t j
      → open_brackets ts j ≡ open_brackets ts i
  statement_closes (a_block a) = let ra = block_closes a in omega arith
  statement_closes (a_var a b c) = let ra = after a in let rb = declarations_closes b in let rc = ends_at_closes c in
      omega arith
  statement_closes (an_empty a) = let ra = after a in omega arith
  statement_closes (an_expression a b c d) = let rc = expression_closes c in let rd = ends_at_closes d in omega arith
  statement_closes (an_if_else a b c d e) = let ra = after a in let rb = head_closes b in let rc = sub_closes c in
      let rd = after d in let re = sub_closes e in omega arith
  statement_closes (an_if a b c d) = let ra = after a in let rb = head_closes b in let rc = sub_closes c in
      omega arith
  statement_closes (a_do_while a b c d e) = let ra = after a in let rb = sub_closes b in let rc = after c in
      let rd = head_closes d in let re = ends_at_closes e in omega arith
  statement_closes (a_while a b c) = let ra = after a in let rb = head_closes b in let rc = sub_closes c in
      omega arith
  statement_closes (a_for a b c d e f g h m) = let ra = after a in let rb = after b in let rc = init_closes c in
      let rd = after d in let re = optional_closes e in let rf = after f in let rg = optional_closes g in
      let rh = after h in let rm = sub_closes m in omega arith
  statement_closes (a_for_in a b c d e f g) = let ra = after a in let rb = after b in let rc = left_closes c in
      let rd = after d in let re = expression_closes e in let rf = after f in let rg = sub_closes g in omega arith
  statement_closes (a_for_var_in a b c d e f g h) = let ra = after a in let rb = after b in let rc = after c in
      let rd = after_identifier d in let re = after e in let rf = expression_closes f in let rg = after g in
      let rh = sub_closes h in omega arith
  statement_closes (a_continue a b) = let ra = after a in let rb = ends_at_closes b in omega arith
  statement_closes (a_continue_to a b c d) = let ra = after a in let rb = after_identifier b in
      let rd = ends_at_closes d in omega arith
  statement_closes (a_break a b) = let ra = after a in let rb = ends_at_closes b in omega arith
  statement_closes (a_break_to a b c d) = let ra = after a in let rb = after_identifier b in
      let rd = ends_at_closes d in omega arith
  statement_closes (a_return a b) = let ra = after a in let rb = ends_at_closes b in omega arith
  statement_closes (a_return_of a b c d) = let ra = after a in let rc = expression_closes c in
      let rd = ends_at_closes d in omega arith
  statement_closes (a_switch a b c d e) = let ra = after a in let rb = head_closes b in let rc = after c in
      let rd = clauses_closes d in let re = after e in omega arith
  statement_closes (a_label a b c) = let ra = after_identifier a in let rb = after b in let rc = statement_closes c in
      omega arith
  statement_closes (a_throw a b c d) = let ra = after a in let rc = expression_closes c in
      let rd = ends_at_closes d in omega arith
  statement_closes (a_try_catch a b c d) = let ra = after a in let rb = block_closes b in let rc = catch_closes c in
      omega arith
  statement_closes (a_try_finally a b c d) = let ra = after a in let rb = block_closes b in let rc = after c in
      let rd = block_closes d in omega arith
  statement_closes (a_try_both a b c d e) = let ra = after a in let rb = block_closes b in let rc = catch_closes c in
      let rd = after d in let re = block_closes e in omega arith
  statement_closes (a_debugger a b) = let ra = after a in let rb = ends_at_closes b in omega arith

  pub block_closes : {ts : List Token} {i : ℕ} {t : Stmts} {j : ℕ} → ReadsBlock ts i t j
      → open_brackets ts j ≡ open_brackets ts i
  block_closes (in_braces a b c) = let ra = after a in let rb = statements_closes b in let rc = after c in omega arith

  pub statements_closes : {ts : List Token} {i : ℕ} {t : Stmts} {j : ℕ} → ReadsStatements ts i t j
      → open_brackets ts j ≡ open_brackets ts i
  statements_closes (no_statements a) = refl
  statements_closes (more_statements a b) = let ra = statement_closes a in let rb = statements_closes b in omega arith

  pub sub_closes : {ts : List Token} {i : ℕ} {t : Stmts} {j : ℕ} → ReadsSub ts i t j
      → open_brackets ts j ≡ open_brackets ts i
  sub_closes (several a) = let ra = block_closes a in omega arith
  sub_closes (alone a b) = let rb = statement_closes b in omega arith

  pub head_closes : {ts : List Token} {i : ℕ} {t : Expr} {j : ℕ} → ReadsHead ts i t j
      → open_brackets ts j ≡ open_brackets ts i
  head_closes (a_head a b c) = let ra = after a in let rb = expression_closes b in let rc = after c in omega arith

  pub declaration_closes : {ts : List Token} {no_in : Bool} {i : ℕ} {t : Tree Span tree.decl} {j : ℕ}
      → ReadsDeclaration ts no_in i t j → open_brackets ts j ≡ open_brackets ts i
  declaration_closes (declared a b) = let ra = after_identifier a in omega arith
  declaration_closes (initialised a b c) = let ra = after_identifier a in let rb = after b in
      let rc = assignment_closes c in omega arith

  pub declarations_closes : {ts : List Token} {no_in : Bool} {i : ℕ} {t : Forest Span tree.decl} {j : ℕ}
      → ReadsDeclarations ts no_in i t j → open_brackets ts j ≡ open_brackets ts i
  declarations_closes (last_declaration a b) = let ra = declaration_closes a in omega arith
  declarations_closes (more_declarations a b c) = let ra = declaration_closes a in let rb = after b in
      let rc = declarations_closes c in omega arith

  pub init_closes : {ts : List Token} {i : ℕ} {t : Tree Span tree.init} {j : ℕ} → ReadsInit ts i t j
      → open_brackets ts j ≡ open_brackets ts i
  init_closes (no_init a) = let ra = after a in omega arith
  init_closes (an_init a) = let ra = expression_closes a in omega arith
  init_closes (init_vars a b) = let ra = after a in let rb = declarations_closes b in omega arith

  pub optional_closes : {ts : List Token} {k : Terminal} {i : ℕ} {t : OptionalTree Span tree.expr} {j : ℕ}
      → ReadsOptional ts k i t j
      → open_brackets ts j ≡ open_brackets ts i
  optional_closes (no_expression a) = refl
  optional_closes (one_expression a) = let ra = expression_closes a in omega arith

  pub clauses_closes : {ts : List Token} {fresh : Bool} {i : ℕ} {t : Forest Span tree.clause} {j : ℕ}
      → ReadsClauses ts fresh i t j → open_brackets ts j ≡ open_brackets ts i
  clauses_closes (no_clauses a) = let ra = after a in omega arith
  clauses_closes (a_case a b c d e) = let ra = after a in let rb = expression_closes b in let rc = after c in
      let rd = statements_closes d in let re = clauses_closes e in omega arith
  clauses_closes (a_default a b c d) = let ra = after a in let rb = after b in let rc = statements_closes c in
      let rd = clauses_closes d in omega arith

  pub catch_closes : {ts : List Token} {i : ℕ} {t : Tree Span tree.handler} {j : ℕ} → ReadsCatch ts i t j
      → open_brackets ts j ≡ open_brackets ts i
  catch_closes (a_catch a b c d e) = let ra = after a in let rb = after b in let rc = after_identifier c in
      let rd = after d in let re = block_closes e in omega arith

  pub elements_closes : {ts : List Token} {i : ℕ} {fs : Forest Span tree.func} {ws : Stmts} {j : ℕ}
      → ReadsElements ts i fs ws j → open_brackets ts j ≡ open_brackets ts i
  elements_closes (no_elements a) = refl
  elements_closes (a_declaration a b) = let ra = function_closes a in let rb = elements_closes b in omega arith
  elements_closes (a_statement a b) = let ra = statement_closes a in let rb = elements_closes b in omega arith

  pub function_closes : {ts : List Token} {i : ℕ} {t : Tree Span tree.func} {j : ℕ} → ReadsFunction ts i t j
      → open_brackets ts j ≡ open_brackets ts i
  function_closes (a_declared_function a b c) = let ra = after a in let rb = after_identifier b in
      let rc = rest_closes c in omega arith

  pub body_closes : {ts : List Token} {i : ℕ} {t : Code} {j : ℕ} → ReadsBody ts i t j
      → open_brackets ts j ≡ open_brackets ts i
  body_closes (a_directive a b c d) = let ra = after a in let rc = ends_at_closes c in let rd = body_closes d in
      omega arith
  body_closes (no_directive a b) = let rb = elements_closes b in omega arith
