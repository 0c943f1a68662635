-- What is read of tokens weighs at most what the tokens are long.
use Rattle.std.proofs.Common.{◌≡◌, ℕ, suc, ◌+◌, ◌≤◌, Bool, true, false, ◌||◌, List, Option, Some, refl, arith}
use Rattle.jl_ast.specs.Tree.{Ident, Tree, Forest, OptionalTree}
use Rattle.jl_ast.specs.Tree as tree
use Rattle.jl_ast.specs.declared.ops.BinOp.{BinOp}
use Rattle.jl_text.specs.declared.span.Span.{Span}
use Rattle.jl_token.specs.declared.token.Token.{Token}
use Rattle.jl_grammar.specs.declared.terminal.Terminal.{Terminal}
use Rattle.jl_grammar.specs.Next.{target_of}
use Rattle.jl_grammar.specs.Operators.{InfixOperator, infix_node, plain, both, either}
use Rattle.jl_grammar.specs.Reads.{AssignsAt, EndsAt, ReadsNames, ReadsParameters, UpdateAt, inserted, last_name}
use Rattle.jl_grammar.specs.Reads.{more_names, no_parameters, parameters, there}
use Rattle.jl_grammar.specs.Tokens.{key_at, span, strict_at, text_at}
use Rattle.jl_read_back.specs.inner.Weight.{assigning_weight, directive_weight, key_weight, name_weight, names_weight}
use Rattle.jl_read_back.specs.inner.Weight.{optional_weight, weight, weights}
use Rattle.jl_grammar.specs.Reads.{Expr, Stmt, Exprs, Stmts, Code, IsTarget, ReadsPrimary, a_this}
use Rattle.jl_grammar.specs.Reads.{a_name, a_null, a_true, a_false, a_number, a_string, an_array, an_object}
use Rattle.jl_grammar.specs.Reads.{in_parens, a_function, a_named_function, ReadsItems, no_items, a_hole, last_item}
use Rattle.jl_grammar.specs.Reads.{more_items, ReadsEntries, no_entries, last_entry, more_entries, ReadsEntry}
use Rattle.jl_grammar.specs.Reads.{a_value, a_getter, a_setter, ReadsRest, a_rest, BeginsLeft, primary, a_dot}
use Rattle.jl_grammar.specs.Reads.{an_index, a_call, a_new, a_bare_new, ReadsLeft, whole_left, ReadsArguments}
use Rattle.jl_grammar.specs.Reads.{no_arguments, arguments, ReadsArgumentList, last_argument, more_arguments}
use Rattle.jl_grammar.specs.Reads.{ReadsPostfix, left, a_postfix, ReadsUnary, postfix, a_prefix, an_update}
use Rattle.jl_grammar.specs.Reads.{BeginsBinary, operand, tighter, an_infix_operator, ReadsBinary, whole_binary}
use Rattle.jl_grammar.specs.Reads.{ReadsConditional, operands, a_conditional, ReadsAssignment, conditional}
use Rattle.jl_grammar.specs.Reads.{an_assignment, BeginsExpression, assignment, a_comma, ReadsExpression}
use Rattle.jl_grammar.specs.Reads.{whole_expression, ReadsStatement, a_block, a_var, an_empty, an_expression}
use Rattle.jl_grammar.specs.Reads.{an_if_else, an_if, a_do_while, a_while, a_for, a_for_in, a_for_var_in}
use Rattle.jl_grammar.specs.Reads.{a_continue, a_continue_to, a_break, a_break_to, a_return, a_return_of, a_switch}
use Rattle.jl_grammar.specs.Reads.{a_label, a_throw, a_try_catch, a_try_finally, a_try_both, a_debugger, ReadsBlock}
use Rattle.jl_grammar.specs.Reads.{in_braces, ReadsStatements, no_statements, more_statements, ReadsSub, several}
use Rattle.jl_grammar.specs.Reads.{alone, ReadsHead, a_head, ReadsDeclaration, declared, initialised}
use Rattle.jl_grammar.specs.Reads.{ReadsDeclarations, last_declaration, more_declarations, ReadsInit, no_init}
use Rattle.jl_grammar.specs.Reads.{an_init, init_vars, ReadsOptional, no_expression, one_expression, ReadsClauses}
use Rattle.jl_grammar.specs.Reads.{no_clauses, a_case, a_default, ReadsCatch, a_catch, ReadsElements, no_elements}
use Rattle.jl_grammar.specs.Reads.{a_declaration, a_statement, ReadsFunction, a_declared_function, ReadsBody}
use Rattle.jl_grammar.specs.Reads.{a_directive, no_directive}

-- operators between operands
joined_weighs : (heavy : ℕ) (o : InfixOperator) (a b : Expr) (s : Span)
    → weight heavy (infix_node o a b s) ≡ weight heavy a + weight heavy b + 1
joined_weighs heavy (plain o) a b s = refl
joined_weighs heavy both a b s = refl
joined_weighs heavy either a b s = refl

-- what is assigned to weighs what it was read as
target_weighs : (heavy : ℕ) (t : Expr) (g : Tree Span tree.target) → IsTarget t g → weight heavy g ≤ weight heavy t
target_weighs heavy t g h = of_target t g h.is
  where
    same : (a b : Tree Span tree.target) → Some a ≡ Some b → weight heavy a ≡ weight heavy b
    same a b e = cc

    of_target : (t : Expr) (g : Tree Span tree.target) → target_of t ≡ Some g → weight heavy g ≤ weight heavy t
    of_target (tree.name x s) g e = let q = same (tree.to_name (record { text = x; at = s })) g e in omega arith
    of_target (tree.dot a x s) g e = let q = same (tree.to_dot a x s) g e in omega arith
    of_target (tree.index a b s) g e = let q = same (tree.to_index a b s) g e in omega arith
    of_target _ g e = cc

directive_light : (strict : Bool) → directive_weight strict ≤ 1
directive_light true = omega arith
directive_light false = omega arith

-- at is how many units the tokens before a place have at least: one each, a name or a string its length, a key that is
-- a number one for its sixteen digits, and two for `++`, `--` and what computes and assigns
module _ (heavy : ℕ) (ts : List Token) (at : ℕ → ℕ) (one : (i : ℕ) → at i + 1 ≤ at (suc i))
    (named : (i : ℕ) → at i + name_weight heavy (text_at ts i) ≤ at (suc i))
    (keyed : (i : ℕ) → at i + key_weight heavy (key_at ts i) ≤ at (suc i))
    (updates : (i : ℕ) (up : Bool) → UpdateAt ts i up → at i + 2 ≤ at (suc i))
    (assigns : (i : ℕ) (o : Option BinOp) → AssignsAt ts i o → at i + assigning_weight o ≤ at (suc i)) where
  ends_weighs : {i j : ℕ} → EndsAt ts i j → at i ≤ at j
  ends_weighs {i} (there a) = let u = one i in omega arith
  ends_weighs (inserted a b) = omega arith

  names_weigh : {i j : ℕ} {ps : List (Ident Span)} → ReadsNames ts i ps j → names_weight heavy ps + at i + 1 ≤ at j
  names_weigh {i} (last_name a b) = let u = named i in let v = one (suc i) in omega arith
  names_weigh {i} (more_names a b c) = let u = named i in let v = one (suc i) in let r = names_weigh c in omega arith

  parameters_weigh : {i j : ℕ} {ps : List (Ident Span)} → ReadsParameters ts i ps j
      → names_weight heavy ps + at i + 1 ≤ at j
  parameters_weigh {i} (no_parameters a) = let u = one i in omega arith
  parameters_weigh (parameters a) = names_weigh a

  mutual
    pub primary_weighs : {i j : ℕ} {t : Expr} → ReadsPrimary ts i t j → weight heavy t + at i ≤ at j
    primary_weighs {i} (a_this a) = let u = one i in omega arith
    primary_weighs {i} (a_name a) = let u = named i in omega arith
    primary_weighs {i} (a_null a) = let u = one i in omega arith
    primary_weighs {i} (a_true a) = let u = one i in omega arith
    primary_weighs {i} (a_false a) = let u = one i in omega arith
    primary_weighs {i} (a_number a) = let u = one i in omega arith
    primary_weighs {i} (a_string a) = let u = named i in omega arith
    primary_weighs {i} (an_array a b) = let u = one i in let r = items_weigh b in omega arith
    primary_weighs {i} (an_object a b) = let u = one i in let r = entries_weigh b in omega arith
    primary_weighs {i} (in_parens {j} a b c) =
        let u = one i in let r = expression_weighs b in let v = one j in omega arith
    primary_weighs {i} (a_function a b) = let u = one i in let r = rest_weighs b in omega arith
    primary_weighs {i} (a_named_function a b c) =
        let u = one i in let v = named (suc i) in let r = rest_weighs c in omega arith

    pub items_weigh : {i j : ℕ} {t : Forest Span tree.item} → ReadsItems ts i t j → weights heavy t + at i ≤ at j
    items_weigh {i} (no_items a) = let u = one i in omega arith
    items_weigh {i} (a_hole a b) = let u = one i in let r = items_weigh b in omega arith
    items_weigh (last_item {j} a b) = let r = assignment_weighs a in let u = one j in omega arith
    items_weigh (more_items {j} a b c) =
        let r = assignment_weighs a in let u = one j in let q = items_weigh c in omega arith

    pub entries_weigh : {i j : ℕ} {t : Forest Span tree.entry} → ReadsEntries ts i t j → weights heavy t + at i ≤ at j
    entries_weigh {i} (no_entries a) = let u = one i in omega arith
    entries_weigh (last_entry {j} a b) = let r = entry_weighs a in let u = one j in omega arith
    entries_weigh (more_entries {j} a b c) =
        let r = entry_weighs a in let u = one j in let q = entries_weigh c in omega arith

    pub entry_weighs : {i j : ℕ} {t : Tree Span tree.entry} → ReadsEntry ts i t j → weight heavy t + at i ≤ at j
    entry_weighs {i} (a_value a b c) =
        let u = keyed i in let v = one (suc i) in let r = assignment_weighs c in omega arith
    entry_weighs {i} (a_getter a b c) =
        let u = one i in let v = keyed (suc i) in let r = rest_weighs c in omega arith
    entry_weighs {i} (a_setter a b c) =
        let u = one i in let v = keyed (suc i) in let r = rest_weighs c in omega arith

    pub rest_weighs : {i j : ℕ} {ps : List (Ident Span)} {c : Code} → ReadsRest ts i ps c j
        → names_weight heavy ps + weight heavy c + 4 + at i ≤ at j
    rest_weighs {i} (a_rest {j} {k} a b c d e) =
        let u = one i in let p = parameters_weigh b in let v = one j in let r = body_weighs d in let z = one k in
        omega arith

    pub begins_left_weighs : {calls : Bool} {i j : ℕ} {t : Expr} → BeginsLeft ts calls i t j
        → weight heavy t + at i ≤ at j
    begins_left_weighs (primary a) = primary_weighs a
    begins_left_weighs (a_dot {j} a b c) =
        let r = begins_left_weighs a in let u = one j in let v = named (suc j) in omega arith
    begins_left_weighs (an_index {j} {k} a b c d) =
        let r = begins_left_weighs a in let u = one j in let q = expression_weighs c in let v = one k in omega arith
    begins_left_weighs (a_call {j} a b c) =
        let r = begins_left_weighs a in let u = one j in let q = arguments_weigh c in omega arith
    begins_left_weighs {i} (a_new {j} a b c d) =
        let u = one i in let r = left_weighs b in let v = one j in let q = arguments_weigh d in omega arith
    begins_left_weighs {i} (a_bare_new a b c) = let u = one i in let r = left_weighs b in omega arith

    pub left_weighs : {calls : Bool} {i j : ℕ} {t : Expr} → ReadsLeft ts calls i t j → weight heavy t + at i ≤ at j
    left_weighs (whole_left a b) = begins_left_weighs a

    pub arguments_weigh : {i j : ℕ} {t : Exprs} → ReadsArguments ts i t j → weights heavy t + at i ≤ at j
    arguments_weigh {i} (no_arguments a) = let u = one i in omega arith
    arguments_weigh (arguments a) = argument_list_weighs a

    pub argument_list_weighs : {i j : ℕ} {t : Exprs} → ReadsArgumentList ts i t j → weights heavy t + at i ≤ at j
    argument_list_weighs (last_argument {j} a b) = let r = assignment_weighs a in let u = one j in omega arith
    argument_list_weighs (more_arguments {j} a b c) =
        let r = assignment_weighs a in let u = one j in let q = argument_list_weighs c in omega arith

    pub postfix_weighs : {i j : ℕ} {t : Expr} → ReadsPostfix ts i t j → weight heavy t + at i ≤ at j
    postfix_weighs (left a b) = left_weighs a
    postfix_weighs (a_postfix {j} {up} a b c d) =
        let r = left_weighs a in let q = target_weighs heavy _ _ b in let u = updates j up c in omega arith

    pub unary_weighs : {i j : ℕ} {t : Expr} → ReadsUnary ts i t j → weight heavy t + at i ≤ at j
    unary_weighs (postfix a) = postfix_weighs a
    unary_weighs {i} (a_prefix a b) = let u = one i in let r = unary_weighs b in omega arith
    unary_weighs {i} (an_update {up} a b c) =
        let u = updates i up a in let r = left_weighs b in let q = target_weighs heavy _ _ c in omega arith

    pub begins_binary_weighs : {no_in : Bool} {l i j : ℕ} {t : Expr} → BeginsBinary ts no_in l i t j
        → weight heavy t + at i ≤ at j
    begins_binary_weighs (operand a) = unary_weighs a
    begins_binary_weighs (tighter a) = binary_weighs a
    begins_binary_weighs {i} {j = m} (an_infix_operator {j} {a = x} {b = y} {op} a b c d) =
        let r = begins_binary_weighs a in let u = one j in let q = binary_weighs d in
        let e = joined_weighs heavy op x y (span ts i m) in omega arith

    pub binary_weighs : {no_in : Bool} {l i j : ℕ} {t : Expr} → ReadsBinary ts no_in l i t j
        → weight heavy t + at i ≤ at j
    binary_weighs (whole_binary a b) = begins_binary_weighs a

    pub conditional_weighs : {no_in : Bool} {i j : ℕ} {t : Expr} → ReadsConditional ts no_in i t j
        → weight heavy t + at i ≤ at j
    conditional_weighs (operands a b) = binary_weighs a
    conditional_weighs (a_conditional {j} {k} a b c d e) =
        let r = binary_weighs a in let u = one j in let q = assignment_weighs c in let v = one k in
        let p = assignment_weighs e in omega arith

    pub assignment_weighs : {no_in : Bool} {i j : ℕ} {t : Expr} → ReadsAssignment ts no_in i t j
        → weight heavy t + at i ≤ at j
    assignment_weighs (conditional a b) = conditional_weighs a
    assignment_weighs (an_assignment {j} {op} a b c d) =
        let r = left_weighs a in let q = target_weighs heavy _ _ b in let u = assigns j op c in
        let p = assignment_weighs d in omega arith

    pub begins_expression_weighs : {no_in : Bool} {i j : ℕ} {t : Expr} → BeginsExpression ts no_in i t j
        → weight heavy t + at i ≤ at j
    begins_expression_weighs (assignment a) = assignment_weighs a
    begins_expression_weighs (a_comma {j} a b c) =
        let r = begins_expression_weighs a in let u = one j in let q = assignment_weighs c in omega arith

    pub expression_weighs : {no_in : Bool} {i j : ℕ} {t : Expr} → ReadsExpression ts no_in i t j
        → weight heavy t + at i ≤ at j
    expression_weighs (whole_expression a b) = begins_expression_weighs a

    pub statement_weighs : {i j : ℕ} {t : Stmt} → ReadsStatement ts i t j → weight heavy t + at i ≤ at j
    statement_weighs (a_block a) = block_weighs a
    statement_weighs {i} (a_var a b c) =
        let u = one i in let r = declarations_weigh b in let e = ends_weighs c in omega arith
    statement_weighs {i} (an_empty a) = let u = one i in omega arith
    statement_weighs (an_expression a b c d) = let r = expression_weighs c in let e = ends_weighs d in omega arith
    statement_weighs {i} (an_if_else {k} a b c d e) =
        let u = one i in let r = head_weighs b in let q = sub_weighs c in let v = one k in let p = sub_weighs e in
        omega arith
    statement_weighs {i} (an_if a b c d) = let u = one i in let r = head_weighs b in let q = sub_weighs c in omega arith
    statement_weighs {i} (a_do_while {j} a b c d e) =
        let u = one i in let r = sub_weighs b in let v = one j in let q = head_weighs d in let p = ends_weighs e in
        omega arith
    statement_weighs {i} (a_while a b c) = let u = one i in let r = head_weighs b in let q = sub_weighs c in omega arith
    statement_weighs {i} (a_for {j} {k} {m} a b c d e f g h l) =
        let u = one i in let v = one (suc i) in let r = init_weighs c in let x = one j in
        let q = optional_weighs e in let y = one k in let p = optional_weighs g in let z = one m in
        let o = sub_weighs l in omega arith
    statement_weighs {i} (a_for_in {j} {k} a b c d e f g) =
        let u = one i in let v = one (suc i) in let r = left_weighs c in let x = one j in
        let q = expression_weighs e in let y = one k in let p = sub_weighs g in omega arith
    statement_weighs {i} (a_for_var_in {k} a b c d e f g h) =
        let u = one i in let v = one (suc i) in let w = one (suc (suc i)) in let x = named (suc (suc (suc i))) in
        let y = one (suc (suc (suc (suc i)))) in let r = expression_weighs f in let z = one k in
        let q = sub_weighs h in omega arith
    statement_weighs {i} (a_continue a b) = let u = one i in let e = ends_weighs b in omega arith
    statement_weighs {i} (a_continue_to a b c d) =
        let u = one i in let v = named (suc i) in let e = ends_weighs d in omega arith
    statement_weighs {i} (a_break a b) = let u = one i in let e = ends_weighs b in omega arith
    statement_weighs {i} (a_break_to a b c d) =
        let u = one i in let v = named (suc i) in let e = ends_weighs d in omega arith
    statement_weighs {i} (a_return a b) = let u = one i in let e = ends_weighs b in omega arith
    statement_weighs {i} (a_return_of a b c d) =
        let u = one i in let r = expression_weighs c in let e = ends_weighs d in omega arith
    statement_weighs {i} (a_switch {j} {k} a b c d e) =
        let u = one i in let r = head_weighs b in let v = one j in let q = clauses_weigh d in let w = one k in
        omega arith
    statement_weighs {i} (a_label a b c) =
        let u = named i in let v = one (suc i) in let r = statement_weighs c in omega arith
    statement_weighs {i} (a_throw a b c d) =
        let u = one i in let r = expression_weighs c in let e = ends_weighs d in omega arith
    statement_weighs {i} (a_try_catch a b c d) =
        let u = one i in let r = block_weighs b in let q = catch_weighs c in omega arith
    statement_weighs {i} (a_try_finally {j} a b c d) =
        let u = one i in let r = block_weighs b in let v = one j in let q = block_weighs d in omega arith
    statement_weighs {i} (a_try_both {k} a b c d e) =
        let u = one i in let r = block_weighs b in let q = catch_weighs c in let v = one k in
        let p = block_weighs e in omega arith
    statement_weighs {i} (a_debugger a b) = let u = one i in let e = ends_weighs b in omega arith

    pub block_weighs : {i j : ℕ} {t : Stmts} → ReadsBlock ts i t j → weights heavy t + 1 + at i ≤ at j
    block_weighs {i} (in_braces {j} a b c) = let u = one i in let r = statements_weigh b in let v = one j in omega arith

    pub statements_weigh : {i j : ℕ} {t : Stmts} → ReadsStatements ts i t j → weights heavy t + at i ≤ at j
    statements_weigh (no_statements a) = omega arith
    statements_weigh (more_statements a b) = let r = statement_weighs a in let q = statements_weigh b in omega arith

    pub sub_weighs : {i j : ℕ} {t : Stmts} → ReadsSub ts i t j → weights heavy t + at i ≤ at j
    sub_weighs (several a) = let r = block_weighs a in omega arith
    sub_weighs (alone a b) = let r = statement_weighs b in omega arith

    pub head_weighs : {i j : ℕ} {t : Expr} → ReadsHead ts i t j → weight heavy t + at i ≤ at j
    head_weighs {i} (a_head {j} a b c) = let u = one i in let r = expression_weighs b in let v = one j in omega arith

    pub declaration_weighs : {no_in : Bool} {i j : ℕ} {t : Tree Span tree.decl} → ReadsDeclaration ts no_in i t j
        → weight heavy t + at i ≤ at j
    declaration_weighs {i} (declared a b) = let u = named i in omega arith
    declaration_weighs {i} (initialised a b c) =
        let u = named i in let v = one (suc i) in let r = assignment_weighs c in omega arith

    pub declarations_weigh : {no_in : Bool} {i j : ℕ} {t : Forest Span tree.decl} → ReadsDeclarations ts no_in i t j
        → weights heavy t + at i ≤ at j
    declarations_weigh (last_declaration a b) = let r = declaration_weighs a in omega arith
    declarations_weigh (more_declarations {j} a b c) =
        let r = declaration_weighs a in let u = one j in let q = declarations_weigh c in omega arith

    pub init_weighs : {i j : ℕ} {t : Tree Span tree.init} → ReadsInit ts i t j → weight heavy t + at i ≤ at j
    init_weighs (no_init a) = omega arith
    init_weighs (an_init a) = expression_weighs a
    init_weighs {i} (init_vars a b) = let u = one i in let r = declarations_weigh b in omega arith

    pub optional_weighs : {k : Terminal} {i j : ℕ} {t : OptionalTree Span tree.expr} → ReadsOptional ts k i t j
        → optional_weight heavy t + at i ≤ at j
    optional_weighs (no_expression a) = omega arith
    optional_weighs (one_expression a) = expression_weighs a

    pub clauses_weigh : {fresh : Bool} {i j : ℕ} {t : Forest Span tree.clause} → ReadsClauses ts fresh i t j
        → weights heavy t + at i ≤ at j
    clauses_weigh (no_clauses a) = omega arith
    clauses_weigh {i} (a_case {j} a b c d e) =
        let u = one i in let r = expression_weighs b in let v = one j in let q = statements_weigh d in
        let p = clauses_weigh e in omega arith
    clauses_weigh {i} (a_default a b c d) =
        let u = one i in let v = one (suc i) in let q = statements_weigh c in let p = clauses_weigh d in omega arith

    pub catch_weighs : {i j : ℕ} {t : Tree Span tree.handler} → ReadsCatch ts i t j → weight heavy t + at i ≤ at j
    catch_weighs {i} (a_catch a b c d e) =
        let u = one i in let v = one (suc i) in let w = named (suc (suc i)) in let x = one (suc (suc (suc i))) in
        let r = block_weighs e in omega arith

    pub elements_weigh : {i j : ℕ} {fs : Forest Span tree.func} {ws : Stmts} → ReadsElements ts i fs ws j
        → weights heavy fs + weights heavy ws + at i ≤ at j
    elements_weigh (no_elements a) = omega arith
    elements_weigh (a_declaration a b) = let r = function_weighs a in let q = elements_weigh b in omega arith
    elements_weigh (a_statement a b) = let r = statement_weighs a in let q = elements_weigh b in omega arith

    pub function_weighs : {i j : ℕ} {t : Tree Span tree.func} → ReadsFunction ts i t j → weight heavy t + at i ≤ at j
    function_weighs {i} (a_declared_function a b c) =
        let u = one i in let v = named (suc i) in let r = rest_weighs c in omega arith

    pub body_weighs : {i j : ℕ} {t : Code} → ReadsBody ts i t j → weight heavy t + at i ≤ at j
    body_weighs {i} (a_directive {strict} a b c d) =
        let u = one i in let e = ends_weighs c in let r = body_weighs d in
        let l = directive_light (strict_at ts i || strict) in omega arith
    body_weighs (no_directive a b) = let r = elements_weigh b in omega arith
