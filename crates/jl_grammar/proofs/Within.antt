-- What is read stands within the tokens.
use Rattle.std.proofs.Common.{◌≡◌, ℕ, zero, suc, ◌<◌, ◌≤◌, max, Bool, true, false, ap, refl, ◌∙◌, List, [], ◌∷◌}
use Rattle.std.proofs.Common.{length, Some, arith}
use Rattle.jl_grammar.specs.declared.terminal.Terminal.TheVariants as terminals
use Rattle.jl_ast.specs.Tree.{Ident, Tree, Forest, OptionalTree}
use Rattle.jl_ast.specs.Tree as tree
use Rattle.jl_text.specs.declared.span.Span.{Span}
use Rattle.jl_token.specs.declared.token.Token.{Token}
use Rattle.jl_grammar.specs.declared.terminal.Terminal.{Terminal}
use Rattle.jl_grammar.specs.Reads.{Expr, Stmt, Exprs, Stmts, Code, UpdateAt, EndsAt, there, inserted, ReadsNames}
use Rattle.jl_grammar.specs.Reads.{last_name, more_names, ReadsParameters, no_parameters, parameters, ReadsPrimary}
use Rattle.jl_grammar.specs.Reads.{a_this, a_name, a_null, a_true, a_false, a_number, a_string, an_array, an_object}
use Rattle.jl_grammar.specs.Reads.{in_parens, a_function, a_named_function, ReadsItems, no_items, a_hole, last_item}
use Rattle.jl_grammar.specs.Reads.{more_items, ReadsEntries, no_entries, last_entry, more_entries, ReadsEntry}
use Rattle.jl_grammar.specs.Reads.{a_value, a_getter, a_setter, ReadsRest, a_rest, BeginsLeft, primary, a_dot}
use Rattle.jl_grammar.specs.Reads.{an_index, a_call, a_new, a_bare_new, ReadsLeft, whole_left, ReadsArguments}
use Rattle.jl_grammar.specs.Reads.{no_arguments, arguments, ReadsArgumentList, last_argument, more_arguments}
use Rattle.jl_grammar.specs.Reads.{ReadsPostfix, left, a_postfix, ReadsUnary, postfix, a_prefix, an_update}
use Rattle.jl_grammar.specs.Reads.{BeginsBinary, operand, tighter, an_infix_operator, ReadsBinary, whole_binary}
use Rattle.jl_grammar.specs.Reads.{ReadsConditional, operands, a_conditional, ReadsAssignment, conditional}
use Rattle.jl_grammar.specs.Reads.{an_assignment, BeginsExpression, assignment, a_comma, ReadsExpression}
use Rattle.jl_grammar.specs.Reads.{whole_expression, ReadsStatement, a_block, a_var, an_empty, an_expression}
use Rattle.jl_grammar.specs.Reads.{an_if_else, an_if, a_do_while, a_while, a_for, a_for_in, a_for_var_in}
use Rattle.jl_grammar.specs.Reads.{a_continue, a_continue_to, a_break, a_break_to, a_return, a_return_of, a_switch}
use Rattle.jl_grammar.specs.Reads.{a_label, a_throw, a_try_catch, a_try_finally, a_try_both, a_debugger, ReadsBlock}
use Rattle.jl_grammar.specs.Reads.{in_braces, ReadsStatements, no_statements, more_statements, ReadsSub, several}
use Rattle.jl_grammar.specs.Reads.{alone, ReadsHead, a_head, ReadsDeclaration, declared, initialised}
use Rattle.jl_grammar.specs.Reads.{ReadsDeclarations, last_declaration, more_declarations, ReadsInit, no_init}
use Rattle.jl_grammar.specs.Reads.{an_init, init_vars, ReadsOptional, no_expression, one_expression, ReadsClauses}
use Rattle.jl_grammar.specs.Reads.{no_clauses, a_case, a_default, ReadsCatch, a_catch, ReadsElements, no_elements}
use Rattle.jl_grammar.specs.Reads.{a_declaration, a_statement, ReadsFunction, a_declared_function, ReadsBody}
use Rattle.jl_grammar.specs.Reads.{a_directive, no_directive}
use Rattle.jl_grammar.specs.Next.{is_identifier, is_name, is_key}
use Rattle.jl_grammar.specs.Operators.{update_operator}
use Rattle.jl_grammar.specs.Tokens.{At, Is, terminal_at}
use Rattle.jl_grammar.proofs.Progress.{ends_at_goes, names_goes, parameters_goes, items_goes, entries_goes}
use Rattle.jl_grammar.proofs.Progress.{entry_goes, rest_goes, begins_left_goes, left_goes, arguments_goes}
use Rattle.jl_grammar.proofs.Progress.{argument_list_goes, unary_goes, begins_binary_goes, binary_goes}
use Rattle.jl_grammar.proofs.Progress.{assignment_goes, begins_expression_goes, expression_goes, statement_goes}
use Rattle.jl_grammar.proofs.Progress.{block_goes, statements_goes, sub_goes, head_goes, declaration_goes}
use Rattle.jl_grammar.proofs.Progress.{declarations_goes, init_goes, optional_goes, clauses_goes, catch_goes}
use Rattle.jl_grammar.proofs.Progress.{elements_goes, function_goes, body_goes}

abbrev is_token : Terminal → Bool
is_token terminals.End = false
is_token _ = true

-- a token that is there stands within the list
token_within : (ts : List Token) (i : ℕ) → is_token (terminal_at ts i) ≡ true → i < length ts
token_within [] i h = cc
token_within (t ∷ ts) zero h = omega arith
token_within (t ∷ ts) (suc i) h = let g = token_within ts i h in omega arith

pub at_within : {ts : List Token} {i : ℕ} {k : Terminal} → At ts i k → is_token k ≡ true → i < length ts
at_within {ts} {i} e h = token_within ts i (ap is_token e.is ∙ h)

identifier_is : (k : Terminal) → is_identifier k ≡ true → is_token k ≡ true
identifier_is terminals.End h = cc
identifier_is _ h = refl

identifier_within : {ts : List Token} {i : ℕ} → Is is_identifier ts i → i < length ts
identifier_within {ts} {i} e = token_within ts i (identifier_is (terminal_at ts i) e.is)

name_is : (k : Terminal) → is_name k ≡ true → is_token k ≡ true
name_is terminals.End h = cc
name_is _ h = refl

name_within : {ts : List Token} {i : ℕ} → Is is_name ts i → i < length ts
name_within {ts} {i} e = token_within ts i (name_is (terminal_at ts i) e.is)

key_within : {ts : List Token} {i : ℕ} → Is is_key ts i → i < length ts
key_within {ts} {i} e = token_within ts i (key_is (terminal_at ts i) e.is)
  where
    key_is : (k : Terminal) → is_key k ≡ true → is_token k ≡ true
    key_is terminals.End h = cc
    key_is _ h = refl

update_is : (k : Terminal) (up : Bool) → update_operator k ≡ Some up → is_token k ≡ true
update_is terminals.End up h = cc
update_is _ up h = refl

update_within : {ts : List Token} {i : ℕ} {up : Bool} → UpdateAt ts i up → i < length ts
update_within {ts} {i} {up} e = token_within ts i (update_is (terminal_at ts i) up e.is)

pub ends_at_within : {ts : List Token} {i j : ℕ} → EndsAt ts i j → j ≤ max i (length ts)
ends_at_within (there a) = let ra = at_within a refl in omega arith
ends_at_within (inserted a b) = omega arith

pub names_within : {ts : List Token} {i : ℕ} {t : List (Ident Span)} {j : ℕ} → ReadsNames ts i t j
    → j ≤ max i (length ts)
names_within (last_name a b) = let ra = identifier_within a in let rb = at_within b refl in omega arith
names_within (more_names a b c) = let ra = identifier_within a in let rb = at_within b refl in
    let rc = names_within c in let sc = names_goes c in omega arith

pub parameters_within : {ts : List Token} {i : ℕ} {t : List (Ident Span)} {j : ℕ} → ReadsParameters ts i t j
    → j ≤ max i (length ts)
parameters_within (no_parameters a) = let ra = at_within a refl in omega arith
parameters_within (parameters a) = names_within a

mutual
  pub primary_within : {ts : List Token} {i : ℕ} {t : Expr} {j : ℕ} → ReadsPrimary ts i t j → j ≤ max i (length ts)
  primary_within (a_this a) = let ra = at_within a refl in omega arith
  primary_within (a_name a) = let ra = identifier_within a in omega arith
  primary_within (a_null a) = let ra = at_within a refl in omega arith
  primary_within (a_true a) = let ra = at_within a refl in omega arith
  primary_within (a_false a) = let ra = at_within a refl in omega arith
  primary_within (a_number a) = let ra = at_within a refl in omega arith
  primary_within (a_string a) = let ra = at_within a refl in omega arith
  primary_within (an_array a b) = let ra = at_within a refl in let rb = items_within b in let sb = items_goes b in
      omega arith
  primary_within (an_object a b) = let ra = at_within a refl in let rb = entries_within b in
      let sb = entries_goes b in omega arith
  primary_within (in_parens a b c) = let ra = at_within a refl in let rb = expression_within b in
      let sb = expression_goes b in let rc = at_within c refl in omega arith
  primary_within (a_function a b) = let ra = at_within a refl in let rb = rest_within b in let sb = rest_goes b in
      omega arith
  primary_within (a_named_function a b c) = let ra = at_within a refl in let rb = identifier_within b in
      let rc = rest_within c in let sc = rest_goes c in omega arith

  pub items_within : {ts : List Token} {i : ℕ} {t : Forest Span tree.item} {j : ℕ} → ReadsItems ts i t j
      → j ≤ max i (length ts)
  items_within (no_items a) = let ra = at_within a refl in omega arith
  items_within (a_hole a b) = let ra = at_within a refl in let rb = items_within b in let sb = items_goes b in
      omega arith
  items_within (last_item a b) = let ra = assignment_within a in let sa = assignment_goes a in
      let rb = at_within b refl in omega arith
  items_within (more_items a b c) = let ra = assignment_within a in let sa = assignment_goes a in
      let rb = at_within b refl in let rc = items_within c in let sc = items_goes c in omega arith

  pub entries_within : {ts : List Token} {i : ℕ} {t : Forest Span tree.entry} {j : ℕ} → ReadsEntries ts i t j
      → j ≤ max i (length ts)
  entries_within (no_entries a) = let ra = at_within a refl in omega arith
  entries_within (last_entry a b) = let ra = entry_within a in let sa = entry_goes a in let rb = at_within b refl in
      omega arith
  entries_within (more_entries a b c) = let ra = entry_within a in let sa = entry_goes a in
      let rb = at_within b refl in let rc = entries_within c in let sc = entries_goes c in omega arith

  pub entry_within : {ts : List Token} {i : ℕ} {t : Tree Span tree.entry} {j : ℕ} → ReadsEntry ts i t j
      → j ≤ max i (length ts)
  entry_within (a_value a b c) = let ra = key_within a in let rb = at_within b refl in let rc = assignment_within c in
      let sc = assignment_goes c in omega arith
  entry_within (a_getter a b c) = let ra = at_within a refl in let rb = key_within b in let rc = rest_within c in
      let sc = rest_goes c in omega arith
  entry_within (a_setter a b c) = let ra = at_within a refl in let rb = key_within b in let rc = rest_within c in
      let sc = rest_goes c in omega arith

  pub rest_within : {ts : List Token} {i : ℕ} {ps : List (Ident Span)} {c : Code} {j : ℕ} → ReadsRest ts i ps c j
      → j ≤ max i (length ts)
  rest_within (a_rest a b c d e) = let ra = at_within a refl in let rb = parameters_within b in
      let sb = parameters_goes b in let rc = at_within c refl in let rd = body_within d in let sd = body_goes d in
      let re = at_within e refl in omega arith

  pub begins_left_within : {ts : List Token} {calls : Bool} {i : ℕ} {t : Expr} {j : ℕ} → BeginsLeft ts calls i t j
      → j ≤ max i (length ts)
  begins_left_within (primary a) = primary_within a
  begins_left_within (a_dot a b c) = let ra = begins_left_within a in let sa = begins_left_goes a in
      let rb = at_within b refl in let rc = name_within c in omega arith
  begins_left_within (an_index a b c d) = let ra = begins_left_within a in let sa = begins_left_goes a in
      let rb = at_within b refl in let rc = expression_within c in let sc = expression_goes c in
      let rd = at_within d refl in omega arith
  begins_left_within (a_call a b c) = let ra = begins_left_within a in let sa = begins_left_goes a in
      let rb = at_within b refl in let rc = arguments_within c in let sc = arguments_goes c in omega arith
  begins_left_within (a_new a b c d) = let ra = at_within a refl in let rb = left_within b in let sb = left_goes b in
      let rc = at_within c refl in let rd = arguments_within d in let sd = arguments_goes d in omega arith
  begins_left_within (a_bare_new a b c) = let ra = at_within a refl in let rb = left_within b in
      let sb = left_goes b in omega arith

  pub left_within : {ts : List Token} {calls : Bool} {i : ℕ} {t : Expr} {j : ℕ} → ReadsLeft ts calls i t j
      → j ≤ max i (length ts)
  left_within (whole_left a b) = begins_left_within a

  pub arguments_within : {ts : List Token} {i : ℕ} {t : Exprs} {j : ℕ} → ReadsArguments ts i t j
      → j ≤ max i (length ts)
  arguments_within (no_arguments a) = let ra = at_within a refl in omega arith
  arguments_within (arguments a) = argument_list_within a

  pub argument_list_within : {ts : List Token} {i : ℕ} {t : Exprs} {j : ℕ} → ReadsArgumentList ts i t j
      → j ≤ max i (length ts)
  argument_list_within (last_argument a b) = let ra = assignment_within a in let sa = assignment_goes a in
      let rb = at_within b refl in omega arith
  argument_list_within (more_arguments a b c) = let ra = assignment_within a in let sa = assignment_goes a in
      let rb = at_within b refl in let rc = argument_list_within c in let sc = argument_list_goes c in omega arith

  pub postfix_within : {ts : List Token} {i : ℕ} {t : Expr} {j : ℕ} → ReadsPostfix ts i t j → j ≤ max i (length ts)
  postfix_within (left a b) = left_within a
  postfix_within (a_postfix a b c d) = let ra = left_within a in let sa = left_goes a in let rc = update_within c in
      omega arith

  pub unary_within : {ts : List Token} {i : ℕ} {t : Expr} {j : ℕ} → ReadsUnary ts i t j → j ≤ max i (length ts)
  unary_within (postfix a) = postfix_within a
  unary_within (a_prefix a b) = let rb = unary_within b in let sb = unary_goes b in omega arith
  unary_within (an_update a b c) = let ra = update_within a in let rb = left_within b in let sb = left_goes b in
      omega arith

  pub begins_binary_within : {ts : List Token} {no_in : Bool} {l i : ℕ} {t : Expr} {j : ℕ}
      → BeginsBinary ts no_in l i t j → j ≤ max i (length ts)
  begins_binary_within (operand a) = unary_within a
  begins_binary_within (tighter a) = binary_within a
  begins_binary_within (an_infix_operator a b c d) = let ra = begins_binary_within a in let sa = begins_binary_goes a in
      let rd = binary_within d in let sd = binary_goes d in omega arith

  pub binary_within : {ts : List Token} {no_in : Bool} {l i : ℕ} {t : Expr} {j : ℕ} → ReadsBinary ts no_in l i t j
      → j ≤ max i (length ts)
  binary_within (whole_binary a b) = begins_binary_within a

  pub conditional_within : {ts : List Token} {no_in : Bool} {i : ℕ} {t : Expr} {j : ℕ}
      → ReadsConditional ts no_in i t j → j ≤ max i (length ts)
  conditional_within (operands a b) = binary_within a
  conditional_within (a_conditional a b c d e) = let ra = binary_within a in let sa = binary_goes a in
      let rb = at_within b refl in let rc = assignment_within c in let sc = assignment_goes c in
      let rd = at_within d refl in let re = assignment_within e in let se = assignment_goes e in omega arith

  pub assignment_within : {ts : List Token} {no_in : Bool} {i : ℕ} {t : Expr} {j : ℕ} → ReadsAssignment ts no_in i t j
      → j ≤ max i (length ts)
  assignment_within (conditional a b) = conditional_within a
  assignment_within (an_assignment a b c d) = let ra = left_within a in let sa = left_goes a in
      let rd = assignment_within d in let sd = assignment_goes d in omega arith

  pub begins_expression_within : {ts : List Token} {no_in : Bool} {i : ℕ} {t : Expr} {j : ℕ}
      → BeginsExpression ts no_in i t j → j ≤ max i (length ts)
  begins_expression_within (assignment a) = assignment_within a
  begins_expression_within (a_comma a b c) = let ra = begins_expression_within a in
      let sa = begins_expression_goes a in let rb = at_within b refl in let rc = assignment_within c in
      let sc = assignment_goes c in omega arith

  pub expression_within : {ts : List Token} {no_in : Bool} {i : ℕ} {t : Expr} {j : ℕ} → ReadsExpression ts no_in i t j
      → j ≤ max i (length ts)
  expression_within (whole_expression a b) = begins_expression_within a

  pub statement_within : {ts : List Token} {i : ℕ} {t : Stmt} {j : ℕ} → ReadsStatement ts i t j
      → j ≤ max i (length ts)
  statement_within (a_block a) = block_within a
  statement_within (a_var a b c) = let ra = at_within a refl in let rb = declarations_within b in
      let sb = declarations_goes b in let rc = ends_at_within c in let sc = ends_at_goes c in omega arith
  statement_within (an_empty a) = let ra = at_within a refl in omega arith
  statement_within (an_expression a b c d) = let rc = expression_within c in let sc = expression_goes c in
      let rd = ends_at_within d in let sd = ends_at_goes d in omega arith
  statement_within (an_if_else a b c d e) = let ra = at_within a refl in let rb = head_within b in
      let sb = head_goes b in let rc = sub_within c in let sc = sub_goes c in let rd = at_within d refl in
      let re = sub_within e in let se = sub_goes e in omega arith
  statement_within (an_if a b c d) = let ra = at_within a refl in let rb = head_within b in let sb = head_goes b in
      let rc = sub_within c in let sc = sub_goes c in omega arith
  statement_within (a_do_while a b c d e) = let ra = at_within a refl in let rb = sub_within b in
      let sb = sub_goes b in let rc = at_within c refl in let rd = head_within d in let sd = head_goes d in
      let re = ends_at_within e in let se = ends_at_goes e in omega arith
  statement_within (a_while a b c) = let ra = at_within a refl in let rb = head_within b in let sb = head_goes b in
      let rc = sub_within c in let sc = sub_goes c in omega arith
  statement_within (a_for a b c d e f g h m) = let ra = at_within a refl in let rb = at_within b refl in
      let rc = init_within c in let sc = init_goes c in let rd = at_within d refl in let re = optional_within e in
      let se = optional_goes e in let rf = at_within f refl in let rg = optional_within g in let sg = optional_goes g in
      let rh = at_within h refl in let rm = sub_within m in let sm = sub_goes m in omega arith
  statement_within (a_for_in a b c d e f g) = let ra = at_within a refl in let rb = at_within b refl in
      let rc = left_within c in let sc = left_goes c in let rd = at_within d refl in let re = expression_within e in
      let se = expression_goes e in let rf = at_within f refl in let rg = sub_within g in let sg = sub_goes g in
      omega arith
  statement_within (a_for_var_in a b c d e f g h) = let ra = at_within a refl in let rb = at_within b refl in
      let rc = at_within c refl in let rd = identifier_within d in let re = at_within e refl in
      let rf = expression_within f in let sf = expression_goes f in let rg = at_within g refl in
      let rh = sub_within h in let sh = sub_goes h in omega arith
  statement_within (a_continue a b) = let ra = at_within a refl in let rb = ends_at_within b in
      let sb = ends_at_goes b in omega arith
  statement_within (a_continue_to a b c d) = let ra = at_within a refl in let rb = identifier_within b in
      let rd = ends_at_within d in let sd = ends_at_goes d in omega arith
  statement_within (a_break a b) = let ra = at_within a refl in let rb = ends_at_within b in
      let sb = ends_at_goes b in omega arith
  statement_within (a_break_to a b c d) = let ra = at_within a refl in let rb = identifier_within b in
      let rd = ends_at_within d in let sd = ends_at_goes d in omega arith
  statement_within (a_return a b) = let ra = at_within a refl in let rb = ends_at_within b in
      let sb = ends_at_goes b in omega arith
  statement_within (a_return_of a b c d) = let ra = at_within a refl in let rc = expression_within c in
      let sc = expression_goes c in let rd = ends_at_within d in let sd = ends_at_goes d in omega arith
  statement_within (a_switch a b c d e) = let ra = at_within a refl in let rb = head_within b in
      let sb = head_goes b in let rc = at_within c refl in let rd = clauses_within d in let sd = clauses_goes d in
      let re = at_within e refl in omega arith
  statement_within (a_label a b c) = let ra = identifier_within a in let rb = at_within b refl in
      let rc = statement_within c in let sc = statement_goes c in omega arith
  statement_within (a_throw a b c d) = let ra = at_within a refl in let rc = expression_within c in
      let sc = expression_goes c in let rd = ends_at_within d in let sd = ends_at_goes d in omega arith
  statement_within (a_try_catch a b c d) = let ra = at_within a refl in let rb = block_within b in
      let sb = block_goes b in let rc = catch_within c in let sc = catch_goes c in omega arith
  statement_within (a_try_finally a b c d) = let ra = at_within a refl in let rb = block_within b in
      let sb = block_goes b in let rc = at_within c refl in let rd = block_within d in let sd = block_goes d in
      omega arith
  statement_within (a_try_both a b c d e) = let ra = at_within a refl in let rb = block_within b in
      let sb = block_goes b in let rc = catch_within c in let sc = catch_goes c in let rd = at_within d refl in
      let re = block_within e in let se = block_goes e in omega arith
  statement_within (a_debugger a b) = let ra = at_within a refl in let rb = ends_at_within b in
      let sb = ends_at_goes b in omega arith

  pub block_within : {ts : List Token} {i : ℕ} {t : Stmts} {j : ℕ} → ReadsBlock ts i t j → j ≤ max i (length ts)
  block_within (in_braces a b c) = let ra = at_within a refl in let rb = statements_within b in
      let sb = statements_goes b in let rc = at_within c refl in omega arith

  pub statements_within : {ts : List Token} {i : ℕ} {t : Stmts} {j : ℕ} → ReadsStatements ts i t j
      → j ≤ max i (length ts)
  statements_within (no_statements a) = omega arith
  statements_within (more_statements a b) = let ra = statement_within a in let sa = statement_goes a in
      let rb = statements_within b in let sb = statements_goes b in omega arith

  pub sub_within : {ts : List Token} {i : ℕ} {t : Stmts} {j : ℕ} → ReadsSub ts i t j → j ≤ max i (length ts)
  sub_within (several a) = block_within a
  sub_within (alone a b) = statement_within b

  pub head_within : {ts : List Token} {i : ℕ} {t : Expr} {j : ℕ} → ReadsHead ts i t j → j ≤ max i (length ts)
  head_within (a_head a b c) = let ra = at_within a refl in let rb = expression_within b in
      let sb = expression_goes b in let rc = at_within c refl in omega arith

  pub declaration_within : {ts : List Token} {no_in : Bool} {i : ℕ} {t : Tree Span tree.decl} {j : ℕ}
      → ReadsDeclaration ts no_in i t j → j ≤ max i (length ts)
  declaration_within (declared a b) = let ra = identifier_within a in omega arith
  declaration_within (initialised a b c) = let ra = identifier_within a in let rb = at_within b refl in
      let rc = assignment_within c in let sc = assignment_goes c in omega arith

  pub declarations_within : {ts : List Token} {no_in : Bool} {i : ℕ} {t : Forest Span tree.decl} {j : ℕ}
      → ReadsDeclarations ts no_in i t j → j ≤ max i (length ts)
  declarations_within (last_declaration a b) = declaration_within a
  declarations_within (more_declarations a b c) = let ra = declaration_within a in let sa = declaration_goes a in
      let rb = at_within b refl in let rc = declarations_within c in let sc = declarations_goes c in omega arith

  pub init_within : {ts : List Token} {i : ℕ} {t : Tree Span tree.init} {j : ℕ} → ReadsInit ts i t j
      → j ≤ max i (length ts)
  init_within (no_init a) = let ra = at_within a refl in omega arith
  init_within (an_init a) = expression_within a
  init_within (init_vars a b) = let ra = at_within a refl in let rb = declarations_within b in
      let sb = declarations_goes b in omega arith

  pub optional_within : {ts : List Token} {k : Terminal} {i : ℕ} {t : OptionalTree Span tree.expr} {j : ℕ}
      → ReadsOptional ts k i t j
      → j ≤ max i (length ts)
  optional_within (no_expression a) = omega arith
  optional_within (one_expression a) = expression_within a

  pub clauses_within : {ts : List Token} {fresh : Bool} {i : ℕ} {t : Forest Span tree.clause} {j : ℕ}
      → ReadsClauses ts fresh i t j → j ≤ max i (length ts)
  clauses_within (no_clauses a) = let ra = at_within a refl in omega arith
  clauses_within (a_case a b c d e) = let ra = at_within a refl in let rb = expression_within b in
      let sb = expression_goes b in let rc = at_within c refl in let rd = statements_within d in
      let sd = statements_goes d in let re = clauses_within e in let se = clauses_goes e in omega arith
  clauses_within (a_default a b c d) = let ra = at_within a refl in let rb = at_within b refl in
      let rc = statements_within c in let sc = statements_goes c in let rd = clauses_within d in
      let sd = clauses_goes d in omega arith

  pub catch_within : {ts : List Token} {i : ℕ} {t : Tree Span tree.handler} {j : ℕ} → ReadsCatch ts i t j
      → j ≤ max i (length ts)
  catch_within (a_catch a b c d e) = let ra = at_within a refl in let rb = at_within b refl in
      let rc = identifier_within c in let rd = at_within d refl in let re = block_within e in let se = block_goes e in
      omega arith

  pub elements_within : {ts : List Token} {i : ℕ} {fs : Forest Span tree.func} {ws : Stmts} {j : ℕ}
      → ReadsElements ts i fs ws j → j ≤ max i (length ts)
  elements_within (no_elements a) = omega arith
  elements_within (a_declaration a b) = let ra = function_within a in let sa = function_goes a in
      let rb = elements_within b in let sb = elements_goes b in omega arith
  elements_within (a_statement a b) = let ra = statement_within a in let sa = statement_goes a in
      let rb = elements_within b in let sb = elements_goes b in omega arith

  pub function_within : {ts : List Token} {i : ℕ} {t : Tree Span tree.func} {j : ℕ} → ReadsFunction ts i t j
      → j ≤ max i (length ts)
  function_within (a_declared_function a b c) = let ra = at_within a refl in let rb = identifier_within b in
      let rc = rest_within c in let sc = rest_goes c in omega arith

  pub body_within : {ts : List Token} {i : ℕ} {t : Code} {j : ℕ} → ReadsBody ts i t j → j ≤ max i (length ts)
  body_within (a_directive a b c d) = let ra = at_within a refl in let rc = ends_at_within c in
      let rd = body_within d in omega arith
  body_within (no_directive a b) = elements_within b
