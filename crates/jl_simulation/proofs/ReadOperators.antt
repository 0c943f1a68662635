-- The compound assignments of a program that is read have operators of 11.13.
use Rattle.std.proofs.Common.{◌≡◌, ℕ, Bool, List, Option, Some, None, refl, sym, subst}
use Rattle.jl_text.specs.declared.span.Span.{Span}
use Rattle.jl_token.specs.declared.punct.Punct.TheVariants as puncts
use Rattle.jl_token.specs.declared.token.Token.{Token}
use Rattle.jl_ast.specs.Numbering.{numbered_forest, numbered_optional, numbered_tree}
use Rattle.jl_ast.specs.Tree as tree
use Rattle.jl_ast.specs.Tree.{Forest, Ident, OptionalTree, Program, Sort, Tree}
use Rattle.jl_ast.specs.declared.ops.BinOp.{BinOp}
use Rattle.jl_ast.specs.declared.ops.BinOp.TheVariants as ops
use Rattle.jl_grammar.specs.Next.{target_of}
use Rattle.jl_grammar.specs.Operators.{assign_operator, both, either, infix_node, plain, InfixOperator}
use Rattle.jl_grammar.specs.Program.{Reads}
use Rattle.jl_grammar.specs.Reads.{Expr, Stmt, Exprs, Stmts, Code, IsTarget, ReadsPrimary, a_this}
use Rattle.jl_grammar.specs.Reads.{a_name, a_null, a_true, a_false, a_number, a_string, an_array, an_object}
use Rattle.jl_grammar.specs.Reads.{in_parens, a_function, a_named_function, ReadsItems, no_items, a_hole, last_item}
use Rattle.jl_grammar.specs.Reads.{more_items, ReadsEntries, no_entries, last_entry, more_entries, ReadsEntry}
use Rattle.jl_grammar.specs.Reads.{a_value, a_getter, a_setter, ReadsRest, a_rest, BeginsLeft, primary, a_dot}
use Rattle.jl_grammar.specs.Reads.{an_index, a_call, a_new, a_bare_new, ReadsLeft, whole_left, ReadsArguments}
use Rattle.jl_grammar.specs.Reads.{no_arguments, arguments, ReadsArgumentList, last_argument, more_arguments}
use Rattle.jl_grammar.specs.Reads.{ReadsPostfix, left, a_postfix, ReadsUnary, postfix, a_prefix, an_update}
use Rattle.jl_grammar.specs.Reads.{BeginsBinary, operand, tighter, an_infix_operator, ReadsBinary, whole_binary}
use Rattle.jl_grammar.specs.Reads.{ReadsConditional, operands, a_conditional, ReadsAssignment, conditional}
use Rattle.jl_grammar.specs.Reads.{an_assignment, BeginsExpression, assignment, a_comma, ReadsExpression}
use Rattle.jl_grammar.specs.Reads.{whole_expression, ReadsStatement, a_block, a_var, an_empty, an_expression}
use Rattle.jl_grammar.specs.Reads.{an_if_else, an_if, a_do_while, a_while, a_for, a_for_in, a_for_var_in}
use Rattle.jl_grammar.specs.Reads.{a_continue, a_continue_to, a_break, a_break_to, a_return, a_return_of, a_switch}
use Rattle.jl_grammar.specs.Reads.{a_label, a_throw, a_try_catch, a_try_finally, a_try_both, a_debugger, ReadsBlock}
use Rattle.jl_grammar.specs.Reads.{in_braces, ReadsStatements, no_statements, more_statements, ReadsSub, several}
use Rattle.jl_grammar.specs.Reads.{alone, ReadsHead, a_head, ReadsDeclaration, declared, initialised}
use Rattle.jl_grammar.specs.Reads.{ReadsDeclarations, last_declaration, more_declarations, ReadsInit, no_init}
use Rattle.jl_grammar.specs.Reads.{an_init, init_vars, ReadsOptional, no_expression, one_expression, ReadsClauses}
use Rattle.jl_grammar.specs.Reads.{no_clauses, a_case, a_default, ReadsCatch, a_catch, ReadsElements, no_elements}
use Rattle.jl_grammar.specs.Reads.{a_declaration, a_statement, ReadsFunction, a_declared_function, ReadsBody}
use Rattle.jl_grammar.specs.Reads.{a_directive, no_directive}
use Rattle.jl_grammar.specs.Tokens.{terminal_at}
use Rattle.jl_grammar.specs.declared.terminal.Terminal.{Terminal}
use Rattle.jl_grammar.specs.declared.terminal.Terminal.TheVariants as terminals
use Rattle.jl_meaning.specs.forms.HookCalls.{assignment_operators}
use Rattle.jl_simulation.specs.CompoundAssignments.{AllAssignByOperators, AssignsByOperators}
use Rattle.jl_simulation.specs.CompoundAssignments.{AssignsByOperatorsIfPresent, IsAssignment}

-- what stands as an assignment operator is one
known : (a b : Option BinOp) → IsAssignment a → Some a ≡ Some b → IsAssignment b
known a b h e = let same : a ≡ b = cc in subst IsAssignment same h

operator : (k : Terminal) (op : Option BinOp) → assign_operator k ≡ Some op → IsAssignment op
unfolding assignment_operators
operator (terminals.Punct puncts.Assign) op e = known None op tt e
operator (terminals.Punct puncts.StarAssign) op e = known (Some ops.Mul) op refl e
operator (terminals.Punct puncts.SlashAssign) op e = known (Some ops.Div) op refl e
operator (terminals.Punct puncts.PercentAssign) op e = known (Some ops.Rem) op refl e
operator (terminals.Punct puncts.PlusAssign) op e = known (Some ops.Add) op refl e
operator (terminals.Punct puncts.MinusAssign) op e = known (Some ops.Sub) op refl e
operator (terminals.Punct puncts.ShiftLeftAssign) op e = known (Some ops.Shl) op refl e
operator (terminals.Punct puncts.ShiftRightAssign) op e = known (Some ops.Sar) op refl e
operator (terminals.Punct puncts.ShiftRightUnsignedAssign) op e = known (Some ops.Shr) op refl e
operator (terminals.Punct puncts.AndAssign) op e = known (Some ops.BitAnd) op refl e
operator (terminals.Punct puncts.CaretAssign) op e = known (Some ops.BitXor) op refl e
operator (terminals.Punct puncts.OrAssign) op e = known (Some ops.BitOr) op refl e
operator _ op e = cc

joined : (op : InfixOperator) (a b : Expr) (s : Span) → AssignsByOperators a → AssignsByOperators b
    → AssignsByOperators (infix_node op a b s)
joined (plain op) a b s x y = (x, y)
joined both a b s x y = (x, y)
joined either a b s x y = (x, y)

target : (t : Expr) (g : Tree Span tree.target) → IsTarget t g → AssignsByOperators t → AssignsByOperators g
target t g h x = of_target t g h.is x
  where
    same : (a b : Tree Span tree.target) → Some a ≡ Some b → AssignsByOperators a → AssignsByOperators b
    same a b e x = let is : a ≡ b = cc in subst AssignsByOperators is x

    of_target : (t : Expr) (g : Tree Span tree.target) → target_of t ≡ Some g → AssignsByOperators t
        → AssignsByOperators g
    of_target (tree.name x s) g e h = same (tree.to_name (record { text = x; at = s })) g e tt
    of_target (tree.dot a x s) g e h = same (tree.to_dot a x s) g e h
    of_target (tree.index a b s) g e h = same (tree.to_index a b s) g e h
    of_target _ g e h = cc

mutual
  items : {ts : List Token} {i : ℕ} {t : Forest Span tree.item} {j : ℕ} → ReadsItems ts i t j
      → AllAssignByOperators t
  items (no_items a) = tt
  items (a_hole a b) = (tt, items b)
  items (last_item a b) = (assigned a, tt)
  items (more_items a b c) = (assigned a, items c)

  entries : {ts : List Token} {i : ℕ} {t : Forest Span tree.entry} {j : ℕ} → ReadsEntries ts i t j
      → AllAssignByOperators t
  entries (no_entries a) = tt
  entries (last_entry a b) = (entry a, tt)
  entries (more_entries a b c) = (entry a, entries c)

  entry : {ts : List Token} {i : ℕ} {t : Tree Span tree.entry} {j : ℕ} → ReadsEntry ts i t j
      → AssignsByOperators t
  entry (a_value a b c) = assigned c
  entry (a_getter a b c) = rest c
  entry (a_setter a b c) = rest c

  rest : {ts : List Token} {i : ℕ} {ps : List (Ident Span)} {t : Code} {j : ℕ} → ReadsRest ts i ps t j
      → AssignsByOperators t
  rest (a_rest a b c d e) = body d

  begins_left : {ts : List Token} {calls : Bool} {i : ℕ} {t : Expr} {j : ℕ} → BeginsLeft ts calls i t j
      → AssignsByOperators t
  begins_left (primary a) = read_primary a
  begins_left (a_dot a b c) = begins_left a
  begins_left (an_index a b c d) = (begins_left a, expression c)
  begins_left (a_call a b c) = (begins_left a, listed c)
  begins_left (a_new a b c d) = (read_left b, listed d)
  begins_left (a_bare_new a b c) = (read_left b, tt)

  read_left : {ts : List Token} {calls : Bool} {i : ℕ} {t : Expr} {j : ℕ} → ReadsLeft ts calls i t j
      → AssignsByOperators t
  read_left (whole_left a b) = begins_left a

  listed : {ts : List Token} {i : ℕ} {t : Exprs} {j : ℕ} → ReadsArguments ts i t j
      → AllAssignByOperators t
  listed (no_arguments a) = tt
  listed (arguments a) = argument_list a

  argument_list : {ts : List Token} {i : ℕ} {t : Exprs} {j : ℕ} → ReadsArgumentList ts i t j
      → AllAssignByOperators t
  argument_list (last_argument a b) = (assigned a, tt)
  argument_list (more_arguments a b c) = (assigned a, argument_list c)

  read_postfix : {ts : List Token} {i : ℕ} {t : Expr} {j : ℕ} → ReadsPostfix ts i t j
      → AssignsByOperators t
  read_postfix (left a b) = read_left a
  read_postfix (a_postfix a b c d) = target _ _ b (read_left a)

  read_unary : {ts : List Token} {i : ℕ} {t : Expr} {j : ℕ} → ReadsUnary ts i t j
      → AssignsByOperators t
  read_unary (postfix a) = read_postfix a
  read_unary (a_prefix a b) = read_unary b
  read_unary (an_update a b c) = target _ _ c (read_left b)

  begins_binary : {ts : List Token} {no_in : Bool} {l : ℕ} {i : ℕ} {t : Expr} {j : ℕ} → BeginsBinary ts no_in l i t j
      → AssignsByOperators t
  begins_binary (operand a) = read_unary a
  begins_binary (tighter a) = binary a
  begins_binary (an_infix_operator {a = x} {b = y} {op} a b c d) = joined op x y _ (begins_binary a) (binary d)

  binary : {ts : List Token} {no_in : Bool} {l : ℕ} {i : ℕ} {t : Expr} {j : ℕ} → ReadsBinary ts no_in l i t j
      → AssignsByOperators t
  binary (whole_binary a b) = begins_binary a

  read_conditional : {ts : List Token} {no_in : Bool} {i : ℕ} {t : Expr} {j : ℕ} → ReadsConditional ts no_in i t j
      → AssignsByOperators t
  read_conditional (operands a b) = binary a
  read_conditional (a_conditional a b c d e) = (binary a, assigned c, assigned e)

  assigned : {ts : List Token} {no_in : Bool} {i : ℕ} {t : Expr} {j : ℕ} → ReadsAssignment ts no_in i t j
      → AssignsByOperators t
  assigned (conditional a b) = read_conditional a
  assigned (an_assignment {j = j} {op = op} a b c d) = (
    operator (terminal_at _ j) op c.is,
    target _ _ b (read_left a),
    assigned d,
  )

  begins_expression : {ts : List Token} {no_in : Bool} {i : ℕ} {t : Expr} {j : ℕ} → BeginsExpression ts no_in i t j
      → AssignsByOperators t
  begins_expression (assignment a) = assigned a
  begins_expression (a_comma a b c) = (begins_expression a, assigned c)

  expression : {ts : List Token} {no_in : Bool} {i : ℕ} {t : Expr} {j : ℕ} → ReadsExpression ts no_in i t j
      → AssignsByOperators t
  expression (whole_expression a b) = begins_expression a

  statement : {ts : List Token} {i : ℕ} {t : Stmt} {j : ℕ} → ReadsStatement ts i t j
      → AssignsByOperators t
  statement (a_block a) = block a
  statement (a_var a b c) = declarations b
  statement (an_empty a) = tt
  statement (an_expression a b c d) = expression c
  statement (an_if_else a b c d e) = (head b, sub c, sub e)
  statement (an_if a b c d) = (head b, sub c, tt)
  statement (a_do_while a b c d e) = (sub b, head d)
  statement (a_while a b c) = (head b, sub c)
  statement (a_for a b c d e f g h m) = (init c, optional e, optional g, sub m)
  statement (a_for_in a b c d e f g) = (expression e, sub g)
  statement (a_for_var_in a b c d e f g h) = (expression f, sub h)
  statement (a_continue a b) = tt
  statement (a_continue_to a b c d) = tt
  statement (a_break a b) = tt
  statement (a_break_to a b c d) = tt
  statement (a_return a b) = tt
  statement (a_return_of a b c d) = expression c
  statement (a_switch a b c d e) = (head b, clauses d)
  statement (a_label a b c) = statement c
  statement (a_throw a b c d) = expression c
  statement (a_try_catch a b c d) = (block b, caught c, tt)
  statement (a_try_finally a b c d) = (block b, tt, block d)
  statement (a_try_both a b c d e) = (block b, caught c, block e)
  statement (a_debugger a b) = tt

  block : {ts : List Token} {i : ℕ} {t : Stmts} {j : ℕ} → ReadsBlock ts i t j
      → AllAssignByOperators t
  block (in_braces a b c) = statements b

  statements : {ts : List Token} {i : ℕ} {t : Stmts} {j : ℕ} → ReadsStatements ts i t j
      → AllAssignByOperators t
  statements (no_statements a) = tt
  statements (more_statements a b) = (statement a, statements b)

  sub : {ts : List Token} {i : ℕ} {t : Stmts} {j : ℕ} → ReadsSub ts i t j
      → AllAssignByOperators t
  sub (several a) = block a
  sub (alone a b) = (statement b, tt)

  head : {ts : List Token} {i : ℕ} {t : Expr} {j : ℕ} → ReadsHead ts i t j
      → AssignsByOperators t
  head (a_head a b c) = expression b

  declaration : {ts : List Token} {no_in : Bool} {i : ℕ} {t : Tree Span tree.decl} {j : ℕ}
      → ReadsDeclaration ts no_in i t j
      → AssignsByOperators t
  declaration (declared a b) = tt
  declaration (initialised a b c) = assigned c

  declarations : {ts : List Token} {no_in : Bool} {i : ℕ} {t : Forest Span tree.decl} {j : ℕ}
      → ReadsDeclarations ts no_in i t j
      → AllAssignByOperators t
  declarations (last_declaration a b) = (declaration a, tt)
  declarations (more_declarations a b c) = (declaration a, declarations c)

  init : {ts : List Token} {i : ℕ} {t : Tree Span tree.init} {j : ℕ} → ReadsInit ts i t j
      → AssignsByOperators t
  init (no_init a) = tt
  init (an_init a) = expression a
  init (init_vars a b) = declarations b

  optional : {ts : List Token} {k : Terminal} {i : ℕ} {t : OptionalTree Span tree.expr} {j : ℕ}
      → ReadsOptional ts k i t j
      → AssignsByOperatorsIfPresent t
  optional (no_expression a) = tt
  optional (one_expression a) = expression a

  clauses : {ts : List Token} {fresh : Bool} {i : ℕ} {t : Forest Span tree.clause} {j : ℕ} → ReadsClauses ts fresh i t j
      → AllAssignByOperators t
  clauses (no_clauses a) = tt
  clauses (a_case a b c d e) = ((expression b, statements d), clauses e)
  clauses (a_default a b c d) = ((tt, statements c), clauses d)

  caught : {ts : List Token} {i : ℕ} {t : Tree Span tree.handler} {j : ℕ} → ReadsCatch ts i t j
      → AssignsByOperators t
  caught (a_catch a b c d e) = block e

  elements : {ts : List Token} {i : ℕ} {fs : Forest Span tree.func} {t : Stmts} {j : ℕ} → ReadsElements ts i fs t j
      → AllAssignByOperators fs × AllAssignByOperators t
  elements (no_elements a) = (tt, tt)
  elements (a_declaration a b) = ((function a, (elements b).0), (elements b).1)
  elements (a_statement a b) = ((elements b).0, (statement a, (elements b).1))

  function : {ts : List Token} {i : ℕ} {t : Tree Span tree.func} {j : ℕ} → ReadsFunction ts i t j
      → AssignsByOperators t
  function (a_declared_function a b c) = rest c

  body : {ts : List Token} {i : ℕ} {t : Code} {j : ℕ} → ReadsBody ts i t j
      → AssignsByOperators t
  body (a_directive a b c d) = body d
  body (no_directive a b) = elements b

  read_primary : {ts : List Token} {i : ℕ} {t : Expr} {j : ℕ} → ReadsPrimary ts i t j
      → AssignsByOperators t
  read_primary (a_this a) = tt
  read_primary (a_name a) = tt
  read_primary (a_null a) = tt
  read_primary (a_true a) = tt
  read_primary (a_false a) = tt
  read_primary (a_number a) = tt
  read_primary (a_string a) = tt
  read_primary (an_array a b) = items b
  read_primary (an_object a b) = entries b
  read_primary (in_parens a b c) = expression b
  read_primary (a_function a b) = rest b
  read_primary (a_named_function a b c) = rest c

-- however the functions are numbered
mutual
  numbered : {S : Type 0} {x : Sort} (n : ℕ) (t : Tree S x) → AssignsByOperators t
      → AssignsByOperators (numbered_tree n t)
  numbered n (tree.array l s) h = forests_numbered _ l h
  numbered n (tree.object l s) h = forests_numbered _ l h
  numbered n (tree.function_expression f s) h = numbered _ f h
  numbered n (tree.dot o k s) h = numbered _ o h
  numbered n (tree.index o k s) h = (numbered _ o h.0, numbered _ k h.1)
  numbered n (tree.call f l s) h = (numbered _ f h.0, forests_numbered _ l h.1)
  numbered n (tree.new f l s) h = (numbered _ f h.0, forests_numbered _ l h.1)
  numbered n (tree.unary o e s) h = numbered _ e h
  numbered n (tree.update up prefix t s) h = numbered _ t h
  numbered n (tree.binary o a b s) h = (numbered _ a h.0, numbered _ b h.1)
  numbered n (tree.and a b s) h = (numbered _ a h.0, numbered _ b h.1)
  numbered n (tree.or a b s) h = (numbered _ a h.0, numbered _ b h.1)
  numbered n (tree.conditional a b c s) h = (numbered _ a h.0, numbered _ b h.1, numbered _ c h.2)
  numbered n (tree.assign o t e s) h = (h.0, numbered _ t h.1, numbered _ e h.2)
  numbered n (tree.comma a b s) h = (numbered _ a h.0, numbered _ b h.1)
  numbered n (tree.to_dot o k s) h = numbered _ o h
  numbered n (tree.to_index o k s) h = (numbered _ o h.0, numbered _ k h.1)
  numbered n (tree.filled e) h = numbered _ e h
  numbered n (tree.value k e) h = numbered _ e h
  numbered n (tree.getter k f) h = numbered _ f h
  numbered n (tree.setter k f) h = numbered _ f h
  numbered n (tree.function m x params b s) h = numbered _ b h
  numbered n (tree.body strict fs l) h = (forests_numbered _ fs h.0, forests_numbered _ l h.1)
  numbered n (tree.var l s) h = forests_numbered _ l h
  numbered n (tree.expression e s) h = numbered _ e h
  numbered n (tree.block l s) h = forests_numbered _ l h
  numbered n (tree.if_else e a b s) h = (numbered _ e h.0, forests_numbered _ a h.1, optionals_numbered _ b h.2)
  numbered n (tree.do_while l e s) h = (forests_numbered _ l h.0, numbered _ e h.1)
  numbered n (tree.while e l s) h = (numbered _ e h.0, forests_numbered _ l h.1)
  numbered n (tree.for i e u l s) h =
      (numbered _ i h.0, optionals_numbered _ e h.1, optionals_numbered _ u h.2, forests_numbered _ l h.3)
  numbered n (tree.for_in is_var x o l s) h = (numbered _ o h.0, forests_numbered _ l h.1)
  numbered n (tree.return e s) h = optionals_numbered _ e h
  numbered n (tree.labelled x t s) h = numbered _ t h
  numbered n (tree.switch e l s) h = (numbered _ e h.0, forests_numbered _ l h.1)
  numbered n (tree.throw e s) h = numbered _ e h
  numbered n (tree.try l c f s) h =
      (forests_numbered _ l h.0, optionals_numbered _ c h.1, optionals_numbered _ f h.2)
  numbered n (tree.init_expression e) h = numbered _ e h
  numbered n (tree.init_var l) h = forests_numbered _ l h
  numbered n (tree.declarator x e) h = optionals_numbered _ e h
  numbered n (tree.case e l) h = (optionals_numbered _ e h.0, forests_numbered _ l h.1)
  numbered n (tree.branch_of l) h = forests_numbered _ l h
  numbered n (tree.catch x l) h = forests_numbered _ l h
  numbered n _ h = tt

  forests_numbered : {S : Type 0} {x : Sort} (n : ℕ) (l : Forest S x) → AllAssignByOperators l
      → AllAssignByOperators (numbered_forest n l)
  forests_numbered n tree.end h = tt
  forests_numbered n (tree.more t l) h = (numbered _ t h.0, forests_numbered _ l h.1)

  optionals_numbered : {S : Type 0} {x : Sort} (n : ℕ) (m : OptionalTree S x) → AssignsByOperatorsIfPresent m
      → AssignsByOperatorsIfPresent (numbered_optional n m)
  optionals_numbered n tree.absent h = tt
  optionals_numbered n (tree.present t) h = numbered _ t h

pub read_assigns : (ts : List Token) (limit : ℕ) (p : Program Span) → Reads ts limit p → AssignsByOperators p.body
read_assigns ts limit p r =
    subst (λ (q : Program Span). AssignsByOperators q.body) (sym r.is) (numbered 0 r.code (body r.whole))
