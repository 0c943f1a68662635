-- What is read is well formed, a line for each production.
use Rattle.std.proofs.Common.{◌≡◌, ℕ, Bool, refl, subst, List}
use Rattle.std.specs.Prelude.{Option, Some}
use Rattle.std.proofs.lemmas.Option.{same_Some}
use Rattle.jl_ast.specs.declared.ops.BinOp.{BinOp}
use Rattle.jl_ast.specs.Tree.{Ident, Tree, Forest, OptionalTree}
use Rattle.jl_ast.specs.Tree as tree
use Rattle.jl_text.specs.declared.span.Span.{Span}
use Rattle.jl_token.specs.declared.punct.Punct.TheVariants as puncts
use Rattle.jl_token.specs.declared.token.Token.{Token}
use Rattle.jl_grammar.specs.declared.terminal.Terminal.{Terminal}
use Rattle.jl_grammar.specs.declared.terminal.Terminal.TheVariants as terminals
use Rattle.jl_grammar.specs.Next.{target_of}
use Rattle.jl_grammar.specs.Operators.{InfixOperator, plain, both, either, infix_node, assign_operator}
use Rattle.jl_grammar.specs.Reads as reads
use Rattle.jl_grammar.specs.Reads.{Expr, Exprs, Stmt, Stmts, Code, IsTarget, AssignsAt, ReadsNames, ReadsParameters}
use Rattle.jl_grammar.specs.Reads.{ReadsPrimary, ReadsItems, ReadsEntries, ReadsEntry, ReadsRest, BeginsLeft, ReadsLeft}
use Rattle.jl_grammar.specs.Reads.{ReadsArguments, ReadsArgumentList, ReadsPostfix, ReadsUnary, BeginsBinary}
use Rattle.jl_grammar.specs.Reads.{ReadsBinary, ReadsConditional, ReadsAssignment, BeginsExpression, ReadsExpression}
use Rattle.jl_grammar.specs.Reads.{ReadsStatement, ReadsBlock, ReadsStatements, ReadsSub, ReadsHead, ReadsDeclaration}
use Rattle.jl_grammar.specs.Reads.{ReadsDeclarations, ReadsInit, ReadsOptional, ReadsClauses, ReadsCatch, ReadsElements}
use Rattle.jl_grammar.specs.Reads.{ReadsFunction, ReadsBody}
use Rattle.jl_print.specs.WellFormed.{WellFormed, AllWellFormed, OptionalWellFormed, AreIdentifiers, IsAssigning}
use Rattle.jl_print.specs.WellFormed.{HasOneDefault, IsSome, AreNamed}
use Rattle.jl_print.proofs.Lexical.{AreLexical, identifier_at, name_at, short_key_at, string_at, literal_at}

target_formed : (t : Expr) (g : Tree Span tree.target) → target_of t ≡ Some g → WellFormed t → WellFormed g
target_formed (tree.name x s) g e w = subst (λ g. WellFormed g) (same_Some _ _ e) w
target_formed (tree.dot a x s) g e w = subst (λ g. WellFormed g) (same_Some _ _ e) w
target_formed (tree.index a b s) g e w = subst (λ g. WellFormed g) (same_Some _ _ e) w
target_formed _ g e w = absurd (cc)

joined_formed : (op : InfixOperator) (a b : Expr) (s : Span) → WellFormed a → WellFormed b
    → WellFormed (infix_node op a b s)
joined_formed (plain op) a b s w v = (w, v)
joined_formed both a b s w v = (w, v)
joined_formed either a b s w v = (w, v)

assigning : (k : Terminal) (op : Option BinOp) → assign_operator k ≡ Some op → IsAssigning op
assigning (terminals.Punct puncts.Assign) op e = subst IsAssigning (same_Some _ _ e) tt
assigning (terminals.Punct puncts.StarAssign) op e = subst IsAssigning (same_Some _ _ e) refl
assigning (terminals.Punct puncts.SlashAssign) op e = subst IsAssigning (same_Some _ _ e) refl
assigning (terminals.Punct puncts.PercentAssign) op e = subst IsAssigning (same_Some _ _ e) refl
assigning (terminals.Punct puncts.PlusAssign) op e = subst IsAssigning (same_Some _ _ e) refl
assigning (terminals.Punct puncts.MinusAssign) op e = subst IsAssigning (same_Some _ _ e) refl
assigning (terminals.Punct puncts.ShiftLeftAssign) op e = subst IsAssigning (same_Some _ _ e) refl
assigning (terminals.Punct puncts.ShiftRightAssign) op e = subst IsAssigning (same_Some _ _ e) refl
assigning (terminals.Punct puncts.ShiftRightUnsignedAssign) op e = subst IsAssigning (same_Some _ _ e) refl
assigning (terminals.Punct puncts.AndAssign) op e = subst IsAssigning (same_Some _ _ e) refl
assigning (terminals.Punct puncts.CaretAssign) op e = subst IsAssigning (same_Some _ _ e) refl
assigning (terminals.Punct puncts.OrAssign) op e = subst IsAssigning (same_Some _ _ e) refl
assigning _ op e = absurd (cc)

module _ {ts : List Token} (w : AreLexical ts) where
  names_formed : {i j : ℕ} {ps : List (Ident Span)} → ReadsNames ts i ps j → AreIdentifiers ps
  names_formed (reads.last_name a b) = (identifier_at w a, tt)
  names_formed (reads.more_names a b c) = (identifier_at w a, names_formed c)

  parameters_formed : {i j : ℕ} {ps : List (Ident Span)} → ReadsParameters ts i ps j → AreIdentifiers ps
  parameters_formed (reads.no_parameters a) = tt
  parameters_formed (reads.parameters a) = names_formed a

  mutual
    primary_formed : {i j : ℕ} {t : Expr} → ReadsPrimary ts i t j → WellFormed t
    primary_formed (reads.a_this a) = tt
    primary_formed (reads.a_name a) = identifier_at w a
    primary_formed (reads.a_null a) = tt
    primary_formed (reads.a_true a) = tt
    primary_formed (reads.a_false a) = tt
    primary_formed (reads.a_number a) = literal_at w a
    primary_formed (reads.a_string a) = string_at w a
    primary_formed (reads.an_array a b) = items_formed b
    primary_formed (reads.an_object a b) = entries_formed b
    primary_formed (reads.in_parens a b c) = expression_formed b
    primary_formed (reads.a_function a b) = let r = rest_formed b in (tt, r.0, r.1)
    primary_formed (reads.a_named_function a b c) = let r = rest_formed c in (identifier_at w b, r.0, r.1)

    items_formed : {i j : ℕ} {t : Forest Span tree.item} → ReadsItems ts i t j → AllWellFormed t
    items_formed (reads.no_items a) = tt
    items_formed (reads.a_hole a b) = (tt, items_formed b)
    items_formed (reads.last_item a b) = (assignment_formed a, tt)
    items_formed (reads.more_items a b c) = (assignment_formed a, items_formed c)

    entries_formed : {i j : ℕ} {t : Forest Span tree.entry} → ReadsEntries ts i t j → AllWellFormed t
    entries_formed (reads.no_entries a) = tt
    entries_formed (reads.last_entry a b) = (entry_formed a, tt)
    entries_formed (reads.more_entries a b c) = (entry_formed a, entries_formed c)

    entry_formed : {i j : ℕ} {t : Tree Span tree.entry} → ReadsEntry ts i t j → WellFormed t
    entry_formed (reads.a_value a b c) = (short_key_at w a, assignment_formed c)
    entry_formed (reads.a_getter a b c) = let r = rest_formed c in (short_key_at w b, tt, (tt, r.0, r.1))
    entry_formed (reads.a_setter a b c) = let r = rest_formed c in (short_key_at w b, tt, (tt, r.0, r.1))

    rest_formed : {i j : ℕ} {ps : List (Ident Span)} {c : Code} → ReadsRest ts i ps c j
        → AreIdentifiers ps × WellFormed c
    rest_formed (reads.a_rest a b c d e) = (parameters_formed b, body_formed d)

    begins_left_formed : {calls : Bool} {i j : ℕ} {t : Expr} → BeginsLeft ts calls i t j → WellFormed t
    begins_left_formed (reads.primary a) = primary_formed a
    begins_left_formed (reads.a_dot a b c) = (begins_left_formed a, name_at w c)
    begins_left_formed (reads.an_index a b c d) = (begins_left_formed a, expression_formed c)
    begins_left_formed (reads.a_call a b c) = (begins_left_formed a, arguments_formed c)
    begins_left_formed (reads.a_new a b c d) = (left_formed b, arguments_formed d)
    begins_left_formed (reads.a_bare_new a b c) = (left_formed b, tt)

    left_formed : {calls : Bool} {i j : ℕ} {t : Expr} → ReadsLeft ts calls i t j → WellFormed t
    left_formed (reads.whole_left a b) = begins_left_formed a

    arguments_formed : {i j : ℕ} {t : Exprs} → ReadsArguments ts i t j → AllWellFormed t
    arguments_formed (reads.no_arguments a) = tt
    arguments_formed (reads.arguments a) = argument_list_formed a

    argument_list_formed : {i j : ℕ} {t : Exprs} → ReadsArgumentList ts i t j → AllWellFormed t
    argument_list_formed (reads.last_argument a b) = (assignment_formed a, tt)
    argument_list_formed (reads.more_arguments a b c) = (assignment_formed a, argument_list_formed c)

    postfix_formed : {i j : ℕ} {t : Expr} → ReadsPostfix ts i t j → WellFormed t
    postfix_formed (reads.left a b) = left_formed a
    postfix_formed (reads.a_postfix {t = t} {g = g} a b c d) = target_formed t g b.is (left_formed a)

    unary_formed : {i j : ℕ} {t : Expr} → ReadsUnary ts i t j → WellFormed t
    unary_formed (reads.postfix a) = postfix_formed a
    unary_formed (reads.a_prefix a b) = unary_formed b
    unary_formed (reads.an_update {t = t} {g = g} a b c) = target_formed t g c.is (left_formed b)

    begins_binary_formed : {no_in : Bool} {l i j : ℕ} {t : Expr} → BeginsBinary ts no_in l i t j → WellFormed t
    begins_binary_formed (reads.operand a) = unary_formed a
    begins_binary_formed (reads.tighter a) = binary_formed a
    begins_binary_formed (reads.an_infix_operator {a = x} {b = y} {op = op} a b c d) =
        joined_formed op x y _ (begins_binary_formed a) (binary_formed d)

    binary_formed : {no_in : Bool} {l i j : ℕ} {t : Expr} → ReadsBinary ts no_in l i t j → WellFormed t
    binary_formed (reads.whole_binary a b) = begins_binary_formed a

    conditional_formed : {no_in : Bool} {i j : ℕ} {t : Expr} → ReadsConditional ts no_in i t j → WellFormed t
    conditional_formed (reads.operands a b) = binary_formed a
    conditional_formed (reads.a_conditional a b c d e) = (binary_formed a, assignment_formed c, assignment_formed e)

    assignment_formed : {no_in : Bool} {i j : ℕ} {t : Expr} → ReadsAssignment ts no_in i t j → WellFormed t
    assignment_formed (reads.conditional a b) = conditional_formed a
    assignment_formed (reads.an_assignment {t = t} {g = g} {op = op} a b c d) =
        (assigning _ op c.is, target_formed t g b.is (left_formed a), assignment_formed d)

    begins_expression_formed : {no_in : Bool} {i j : ℕ} {t : Expr} → BeginsExpression ts no_in i t j → WellFormed t
    begins_expression_formed (reads.assignment a) = assignment_formed a
    begins_expression_formed (reads.a_comma a b c) = (begins_expression_formed a, assignment_formed c)

    expression_formed : {no_in : Bool} {i j : ℕ} {t : Expr} → ReadsExpression ts no_in i t j → WellFormed t
    expression_formed (reads.whole_expression a b) = begins_expression_formed a

    statement_formed : {i j : ℕ} {t : Stmt} → ReadsStatement ts i t j → WellFormed t
    statement_formed (reads.a_block a) = block_formed a
    statement_formed (reads.a_var a b c) = declarations_formed b
    statement_formed (reads.an_empty a) = tt
    statement_formed (reads.an_expression a b c d) = expression_formed c
    statement_formed (reads.an_if_else a b c d e) = (head_formed b, sub_formed c, sub_formed e)
    statement_formed (reads.an_if a b c d) = (head_formed b, sub_formed c, tt)
    statement_formed (reads.a_do_while a b c d e) = (sub_formed b, head_formed d)
    statement_formed (reads.a_while a b c) = (head_formed b, sub_formed c)
    statement_formed (reads.a_for a b c d e f g h m) =
        (init_formed c, optional_formed e, optional_formed g, sub_formed m)
    statement_formed (reads.a_for_in a b c d e f g) = (left_formed c, expression_formed e, sub_formed g)
    statement_formed (reads.a_for_var_in a b c d e f g h) = (identifier_at w d, expression_formed f, sub_formed h)
    statement_formed (reads.a_continue a b) = tt
    statement_formed (reads.a_continue_to a b c d) = identifier_at w b
    statement_formed (reads.a_break a b) = tt
    statement_formed (reads.a_break_to a b c d) = identifier_at w b
    statement_formed (reads.a_return a b) = tt
    statement_formed (reads.a_return_of a b c d) = expression_formed c
    statement_formed (reads.a_switch a b c d e) = let r = clauses_formed d in (head_formed b, r.0, r.1)
    statement_formed (reads.a_label a b c) = (identifier_at w a, statement_formed c)
    statement_formed (reads.a_throw a b c d) = expression_formed c
    statement_formed (reads.a_try_catch a b c d) = (block_formed b, tt, catch_formed c, tt)
    statement_formed (reads.a_try_finally a b c d) = (block_formed b, tt, tt, block_formed d)
    statement_formed (reads.a_try_both a b c d e) = (block_formed b, tt, catch_formed c, block_formed e)
    statement_formed (reads.a_debugger a b) = tt

    block_formed : {i j : ℕ} {t : Stmts} → ReadsBlock ts i t j → AllWellFormed t
    block_formed (reads.in_braces a b c) = statements_formed b

    statements_formed : {i j : ℕ} {t : Stmts} → ReadsStatements ts i t j → AllWellFormed t
    statements_formed (reads.no_statements a) = tt
    statements_formed (reads.more_statements a b) = (statement_formed a, statements_formed b)

    sub_formed : {i j : ℕ} {t : Stmts} → ReadsSub ts i t j → AllWellFormed t
    sub_formed (reads.several a) = block_formed a
    sub_formed (reads.alone a b) = (statement_formed b, tt)

    head_formed : {i j : ℕ} {t : Expr} → ReadsHead ts i t j → WellFormed t
    head_formed (reads.a_head a b c) = expression_formed b

    declaration_formed : {no_in : Bool} {i j : ℕ} {t : Tree Span tree.decl} → ReadsDeclaration ts no_in i t j
        → WellFormed t
    declaration_formed (reads.declared a b) = (identifier_at w a, tt)
    declaration_formed (reads.initialised a b c) = (identifier_at w a, assignment_formed c)

    declarations_formed : {no_in : Bool} {i j : ℕ} {t : Forest Span tree.decl} → ReadsDeclarations ts no_in i t j
        → IsSome t × AllWellFormed t
    declarations_formed (reads.last_declaration a b) = (tt, (declaration_formed a, tt))
    declarations_formed (reads.more_declarations a b c) =
        let r = declarations_formed c in (tt, (declaration_formed a, r.1))

    init_formed : {i j : ℕ} {t : Tree Span tree.init} → ReadsInit ts i t j → WellFormed t
    init_formed (reads.no_init a) = tt
    init_formed (reads.an_init a) = expression_formed a
    init_formed (reads.init_vars a b) = declarations_formed b

    optional_formed : {k : Terminal} {i j : ℕ} {t : OptionalTree Span tree.expr} → ReadsOptional ts k i t j
        → OptionalWellFormed t
    optional_formed (reads.no_expression a) = tt
    optional_formed (reads.one_expression a) = expression_formed a

    clauses_formed : {fresh : Bool} {i j : ℕ} {t : Forest Span tree.clause} → ReadsClauses ts fresh i t j
        → HasOneDefault fresh t × AllWellFormed t
    clauses_formed (reads.no_clauses a) = (tt, tt)
    clauses_formed (reads.a_case a b c d e) =
        let r = clauses_formed e in (r.0, ((expression_formed b, statements_formed d), r.1))
    clauses_formed (reads.a_default a b c d) =
        let r = clauses_formed d in (r.0, ((tt, statements_formed c), r.1))

    catch_formed : {i j : ℕ} {t : Tree Span tree.handler} → ReadsCatch ts i t j → WellFormed t
    catch_formed (reads.a_catch a b c d e) = (identifier_at w c, block_formed e)

    elements_formed : {i j : ℕ} {fs : Forest Span tree.func} {ws : Stmts} → ReadsElements ts i fs ws j
        → AreNamed fs × AllWellFormed fs × AllWellFormed ws
    elements_formed (reads.no_elements a) = (tt, tt, tt)
    elements_formed (reads.a_declaration (reads.a_declared_function a b c) d) =
        let r = elements_formed d in let s = rest_formed c in
        (r.0, ((identifier_at w b, s.0, s.1), r.1), r.2)
    elements_formed (reads.a_statement a b) = let r = elements_formed b in (r.0, r.1, (statement_formed a, r.2))

    pub body_formed : {i j : ℕ} {t : Code} → ReadsBody ts i t j → WellFormed t
    body_formed (reads.a_directive a b c d) = body_formed d
    body_formed (reads.no_directive a b) = elements_formed b
