-- The grammar (clauses 11 to 14): what the tokens from one place to another read as, one case for each production.
-- What is left-recursive in the standard is a prefix that may go on (Begins..), and a whole one (Reads..) is a prefix
-- before a token that does not continue it.
use Rattle.std.specs.Prelude.{◌≡◌, ℕ, zero, suc, Bool, true, false, ◌||◌, List, [], ◌∷◌, Option, Some, None}
use Rattle.jl_ast.specs.declared.ops.BinOp.{BinOp}
use Rattle.jl_ast.specs.declared.ops.UnOp.{UnOp}
use Rattle.jl_ast.specs.Tree.{Ident, Tree, Forest, OptionalTree, Text}
use Rattle.jl_ast.specs.Tree as tree
use Rattle.jl_text.specs.declared.span.Span.{Span}
use Rattle.jl_token.specs.declared.token.Token.{Token}
use Rattle.jl_grammar.specs.declared.terminal.Terminal.{Terminal}
use Rattle.jl_grammar.specs.declared.terminal.Terminal.TheVariants as terminals
use Rattle.jl_grammar.specs.declared.word.Word.TheVariants as words
use Rattle.jl_grammar.specs.Operators.{InfixOperator, infix_operator, infix_node, infix_precedence, continues}
use Rattle.jl_grammar.specs.Operators.{assign_operator, assigns}
use Rattle.jl_grammar.specs.Operators.{unary_operator, update_operator}
use Rattle.jl_grammar.specs.Tokens.{At, Is, terminal_at, line_at, text_at, number_at, strict_at, span, ident_at}
use Rattle.jl_grammar.specs.Tokens.{key_ident_at}
use Rattle.jl_grammar.specs.Next.{open_paren, close_paren, open_bracket, close_bracket, open_brace, close_brace}
use Rattle.jl_grammar.specs.Next.{dot_terminal, semicolon, comma, colon, question, equals, keyword, is_identifier}
use Rattle.jl_grammar.specs.Next.{is_name, is_key, is_open_paren, is_open_brace, is_semicolon, is_comma}
use Rattle.jl_grammar.specs.Next.{is_question, is_equals, is_else, is_finally, bars_expression, ends_statement}
use Rattle.jl_grammar.specs.Next.{ends_list, continues_left, continues_at, updates_at, is_directive, is_label}
use Rattle.jl_grammar.specs.Next.{target_of}

abbrev pub Expr : Type 0
Expr = Tree Span tree.expr

abbrev pub Stmt : Type 0
Stmt = Tree Span tree.stmt

abbrev pub Exprs : Type 0
Exprs = Forest Span tree.expr

abbrev pub Stmts : Type 0
Stmts = Forest Span tree.stmt

abbrev pub Code : Type 0
Code = Tree Span tree.code

-- the i-th token is this infix operator of operands
pub record JoinsAt (ts : List Token) (no_in : Bool) (i : ℕ) (op : InfixOperator) : Type 0 where
  pub is : infix_operator no_in (terminal_at ts i) ≡ Some op

-- the i-th token is this assignment operator
pub record AssignsAt (ts : List Token) (i : ℕ) (op : Option BinOp) : Type 0 where
  pub is : assign_operator (terminal_at ts i) ≡ Some op

-- the i-th token is this operator before an operand
pub record PrefixAt (ts : List Token) (i : ℕ) (op : UnOp) : Type 0 where
  pub is : unary_operator (terminal_at ts i) ≡ Some op

-- the i-th token is `++`, or with false `--`
pub record UpdateAt (ts : List Token) (i : ℕ) (up : Bool) : Type 0 where
  pub is : update_operator (terminal_at ts i) ≡ Some up

-- what is assigned to
pub record IsTarget (t : Expr) (g : Tree Span tree.target) : Type 0 where
  pub is : target_of t ≡ Some g

-- the semicolon of a statement: it is there, or it is inserted (7.9.1) at the end, before a `}` or where a line ends
pub data EndsAt (ts : List Token) : ℕ → ℕ → Type 0 where
  there : {i : ℕ} → At ts i semicolon → EndsAt ts i (suc i)
  inserted : {i : ℕ} → is_semicolon (terminal_at ts i) ≡ false → (ends_statement (terminal_at ts i) || line_at ts i) ≡
      true
      → EndsAt ts i i

-- FormalParameterList (clause 13), of which there is one
pub data ReadsNames (ts : List Token) : ℕ → List (Ident Span) → ℕ → Type 0 where
  last_name : {i : ℕ} → Is is_identifier ts i → At ts (suc i) close_paren
      → ReadsNames ts i (ident_at ts i ∷ []) (suc (suc i))
  more_names : {i j : ℕ} {ps : List (Ident Span)} → Is is_identifier ts i → At ts (suc i) comma
      → ReadsNames ts (suc (suc i)) ps j → ReadsNames ts i (ident_at ts i ∷ ps) j

-- FormalParameterList? ) (clause 13)
pub data ReadsParameters (ts : List Token) : ℕ → List (Ident Span) → ℕ → Type 0 where
  no_parameters : {i : ℕ} → At ts i close_paren → ReadsParameters ts i [] (suc i)
  parameters : {i j : ℕ} {ps : List (Ident Span)} → ReadsNames ts i ps j → ReadsParameters ts i ps j

mutual
  -- PrimaryExpression (11.1) and FunctionExpression (clause 13)
  pub data ReadsPrimary (ts : List Token) : ℕ → Expr → ℕ → Type 0 where
    -- this (11.1.1)
    a_this : {i : ℕ} → At ts i (keyword words.This) → ReadsPrimary ts i (tree.this (span ts i (suc i))) (suc i)
    -- Identifier (11.1.2)
    a_name : {i : ℕ} → Is is_identifier ts i
        → ReadsPrimary ts i (tree.name (text_at ts i) (span ts i (suc i))) (suc i)
    -- Literal (11.1.3, 7.8)
    a_null : {i : ℕ} → At ts i (keyword words.Null) → ReadsPrimary ts i (tree.null (span ts i (suc i))) (suc i)
    a_true : {i : ℕ} → At ts i (keyword words.True)
        → ReadsPrimary ts i (tree.boolean true (span ts i (suc i))) (suc i)
    a_false : {i : ℕ} → At ts i (keyword words.False)
        → ReadsPrimary ts i (tree.boolean false (span ts i (suc i))) (suc i)
    a_number : {i : ℕ} → At ts i terminals.Number
        → ReadsPrimary ts i (tree.number (number_at ts i) (span ts i (suc i))) (suc i)
    a_string : {i : ℕ} → At ts i terminals.Str
        → ReadsPrimary ts i (tree.string (text_at ts i) (span ts i (suc i))) (suc i)
    -- [ .. ] (11.1.4)
    an_array : {i j : ℕ} {xs : Forest Span tree.item} → At ts i open_bracket → ReadsItems ts (suc i) xs j
        → ReadsPrimary ts i (tree.array xs (span ts i j)) j
    -- { .. } (11.1.5)
    an_object : {i j : ℕ} {xs : Forest Span tree.entry} → At ts i open_brace → ReadsEntries ts (suc i) xs j
        → ReadsPrimary ts i (tree.object xs (span ts i j)) j
    -- ( Expression ) (11.1.6)
    in_parens : {i j : ℕ} {t : Expr} → At ts i open_paren → ReadsExpression ts false (suc i) t j → At ts j close_paren
        → ReadsPrimary ts i t (suc j)
    -- function ( .. ) { .. } (clause 13)
    a_function : {i j : ℕ} {ps : List (Ident Span)} {c : Code} → At ts i (keyword words.Function)
        → ReadsRest ts (suc i) ps c j
        → ReadsPrimary ts i (tree.function_expression (tree.function 0 None ps c (span ts i j)) (span ts i j)) j
    -- function Identifier ( .. ) { .. } (clause 13)
    a_named_function : {i j : ℕ} {ps : List (Ident Span)} {c : Code} → At ts i (keyword words.Function)
        → Is is_identifier ts (suc i) → ReadsRest ts (suc (suc i)) ps c j
        → ReadsPrimary ts i (tree.function_expression
        (tree.function 0 (Some (ident_at ts (suc i))) ps c (span ts i j)) (span ts i j)) j

  -- ElementList and Elision, up to the `]` (11.1.4): a comma before an item and without one is a hole
  pub data ReadsItems (ts : List Token) : ℕ → Forest Span tree.item → ℕ → Type 0 where
    no_items : {i : ℕ} → At ts i close_bracket → ReadsItems ts i tree.end (suc i)
    a_hole : {i j : ℕ} {xs : Forest Span tree.item} → At ts i comma → ReadsItems ts (suc i) xs j
        → ReadsItems ts i (tree.more tree.hole xs) j
    last_item : {i j : ℕ} {t : Expr} → ReadsAssignment ts false i t j → At ts j close_bracket
        → ReadsItems ts i (tree.more (tree.filled t) tree.end) (suc j)
    more_items : {i j k : ℕ} {t : Expr} {xs : Forest Span tree.item} → ReadsAssignment ts false i t j → At ts j comma
        → ReadsItems ts (suc j) xs k → ReadsItems ts i (tree.more (tree.filled t) xs) k

  -- PropertyNameAndValueList, with or without a comma after it, up to the `}` (11.1.5)
  pub data ReadsEntries (ts : List Token) : ℕ → Forest Span tree.entry → ℕ → Type 0 where
    no_entries : {i : ℕ} → At ts i close_brace → ReadsEntries ts i tree.end (suc i)
    last_entry : {i j : ℕ} {t : Tree Span tree.entry} → ReadsEntry ts i t j → At ts j close_brace
        → ReadsEntries ts i (tree.more t tree.end) (suc j)
    more_entries : {i j k : ℕ} {t : Tree Span tree.entry} {xs : Forest Span tree.entry} → ReadsEntry ts i t j
        → At ts j comma → ReadsEntries ts (suc j) xs k → ReadsEntries ts i (tree.more t xs) k

  -- PropertyAssignment (11.1.5)
  pub data ReadsEntry (ts : List Token) : ℕ → Tree Span tree.entry → ℕ → Type 0 where
    -- PropertyName : AssignmentExpression
    a_value : {i j : ℕ} {t : Expr} → Is is_key ts i → At ts (suc i) colon → ReadsAssignment ts false (suc (suc i)) t j
        → ReadsEntry ts i (tree.value (key_ident_at ts i) t) j
    -- get PropertyName ( ) { FunctionBody }
    a_getter : {i j : ℕ} {c : Code} → At ts i terminals.Get → Is is_key ts (suc i) → ReadsRest ts (suc (suc i)) [] c j
        → ReadsEntry ts i (tree.getter (key_ident_at ts (suc i)) (tree.function 0 None [] c (span ts i j))) j
    -- set PropertyName ( PropertySetParameterList ) { FunctionBody }
    a_setter : {i j : ℕ} {p : Ident Span} {c : Code} → At ts i terminals.Set → Is is_key ts (suc i)
        → ReadsRest ts (suc (suc i)) (p ∷ []) c j
        → ReadsEntry ts i (tree.setter (key_ident_at ts (suc i)) (tree.function 0 None (p ∷ []) c (span ts i j))) j

  -- ( FormalParameterList? ) { FunctionBody } (clause 13)
  pub data ReadsRest (ts : List Token) : ℕ → List (Ident Span) → Code → ℕ → Type 0 where
    a_rest : {i j k : ℕ} {ps : List (Ident Span)} {c : Code} → At ts i open_paren → ReadsParameters ts (suc i) ps j
        → At ts j open_brace → ReadsBody ts (suc j) c k → At ts k close_brace → ReadsRest ts i ps c (suc k)

  -- a prefix of a MemberExpression or, with calls, of a LeftHandSideExpression (11.2)
  pub data BeginsLeft (ts : List Token) : Bool → ℕ → Expr → ℕ → Type 0 where
    primary : {calls : Bool} {i j : ℕ} {t : Expr} → ReadsPrimary ts i t j → BeginsLeft ts calls i t j
    -- MemberExpression . IdentifierName, CallExpression . IdentifierName (11.2.1)
    a_dot : {calls : Bool} {i j : ℕ} {t : Expr} → BeginsLeft ts calls i t j → At ts j dot_terminal → Is is_name ts
        (suc j)
        → BeginsLeft ts calls i (tree.dot t (text_at ts (suc j)) (span ts i (suc (suc j)))) (suc (suc j))
    -- MemberExpression [ Expression ], CallExpression [ Expression ] (11.2.1)
    an_index : {calls : Bool} {i j k : ℕ} {t u : Expr} → BeginsLeft ts calls i t j → At ts j open_bracket
        → ReadsExpression ts false (suc j) u k → At ts k close_bracket
        → BeginsLeft ts calls i (tree.index t u (span ts i (suc k))) (suc k)
    -- MemberExpression Arguments, CallExpression Arguments (11.2.3)
    a_call : {i j k : ℕ} {t : Expr} {us : Exprs} → BeginsLeft ts true i t j → At ts j open_paren
        → ReadsArguments ts (suc j) us k → BeginsLeft ts true i (tree.call t us (span ts i k)) k
    -- new MemberExpression Arguments (11.2.2)
    a_new : {calls : Bool} {i j k : ℕ} {t : Expr} {us : Exprs} → At ts i (keyword words.New)
        → ReadsLeft ts false (suc i) t j → At ts j open_paren → ReadsArguments ts (suc j) us k
        → BeginsLeft ts calls i (tree.new t us (span ts i k)) k
    -- new NewExpression (11.2.2)
    a_bare_new : {calls : Bool} {i j : ℕ} {t : Expr} → At ts i (keyword words.New) → ReadsLeft ts false (suc i) t j
        → is_open_paren (terminal_at ts j) ≡ false → BeginsLeft ts calls i (tree.new t tree.end (span ts i j)) j

  pub data ReadsLeft (ts : List Token) : Bool → ℕ → Expr → ℕ → Type 0 where
    whole_left : {calls : Bool} {i j : ℕ} {t : Expr} → BeginsLeft ts calls i t j
        → continues_left calls (terminal_at ts j) ≡ false → ReadsLeft ts calls i t j

  -- Arguments, without the `(` (11.2.4)
  pub data ReadsArguments (ts : List Token) : ℕ → Exprs → ℕ → Type 0 where
    no_arguments : {i : ℕ} → At ts i close_paren → ReadsArguments ts i tree.end (suc i)
    arguments : {i j : ℕ} {us : Exprs} → ReadsArgumentList ts i us j → ReadsArguments ts i us j

  pub data ReadsArgumentList (ts : List Token) : ℕ → Exprs → ℕ → Type 0 where
    last_argument : {i j : ℕ} {t : Expr} → ReadsAssignment ts false i t j → At ts j close_paren
        → ReadsArgumentList ts i (tree.more t tree.end) (suc j)
    more_arguments : {i j k : ℕ} {t : Expr} {us : Exprs} → ReadsAssignment ts false i t j → At ts j comma
        → ReadsArgumentList ts (suc j) us k → ReadsArgumentList ts i (tree.more t us) k

  -- PostfixExpression (11.3): a `++` or `--` on a new line is not read (7.9.1)
  pub data ReadsPostfix (ts : List Token) : ℕ → Expr → ℕ → Type 0 where
    left : {i j : ℕ} {t : Expr} → ReadsLeft ts true i t j → updates_at ts j ≡ false → ReadsPostfix ts i t j
    a_postfix : {i j : ℕ} {t : Expr} {g : Tree Span tree.target} {up : Bool} → ReadsLeft ts true i t j → IsTarget t g
        → UpdateAt ts j up → line_at ts j ≡ false
        → ReadsPostfix ts i (tree.update up false g (span ts i (suc j))) (suc j)

  -- UnaryExpression (11.4)
  pub data ReadsUnary (ts : List Token) : ℕ → Expr → ℕ → Type 0 where
    postfix : {i j : ℕ} {t : Expr} → ReadsPostfix ts i t j → ReadsUnary ts i t j
    -- delete, void, typeof, +, -, ~, ! (11.4.1 to 11.4.3, 11.4.6 to 11.4.9)
    a_prefix : {i j : ℕ} {t : Expr} {op : UnOp} → PrefixAt ts i op → ReadsUnary ts (suc i) t j
        → ReadsUnary ts i (tree.unary op t (span ts i j)) j
    -- ++ and -- (11.4.4, 11.4.5), before what may be assigned to
    an_update : {i j : ℕ} {t : Expr} {g : Tree Span tree.target} {up : Bool} → UpdateAt ts i up
        → ReadsLeft ts true (suc i) t j → IsTarget t g → ReadsUnary ts i (tree.update up true g (span ts i j)) j

  -- operands with infix operators as loose as l (11.5 to 11.11): MultiplicativeExpression with 1, AdditiveExpression
  -- with 2, ShiftExpression 3, RelationalExpression 4, EqualityExpression 5, BitwiseANDExpression 6,
  -- BitwiseXORExpression 7, BitwiseORExpression 8, LogicalANDExpression 9, LogicalORExpression 10; with no_in they
  -- are those without `in`
  pub data BeginsBinary (ts : List Token) : Bool → ℕ → ℕ → Expr → ℕ → Type 0 where
    operand : {no_in : Bool} {i j : ℕ} {t : Expr} → ReadsUnary ts i t j → BeginsBinary ts no_in zero i t j
    tighter : {no_in : Bool} {l i j : ℕ} {t : Expr} → ReadsBinary ts no_in l i t j
        → BeginsBinary ts no_in (suc l) i t j
    an_infix_operator : {no_in : Bool} {l i j k : ℕ} {a b : Expr} {op : InfixOperator} → BeginsBinary ts no_in (suc l)
        i a j
        → JoinsAt ts no_in j op → infix_precedence op ≡ suc l → ReadsBinary ts no_in l (suc j) b k
        → BeginsBinary ts no_in (suc l) i (infix_node op a b (span ts i k)) k

  pub data ReadsBinary (ts : List Token) : Bool → ℕ → ℕ → Expr → ℕ → Type 0 where
    whole_binary : {no_in : Bool} {l i j : ℕ} {t : Expr} → BeginsBinary ts no_in l i t j
        → continues no_in l (terminal_at ts j) ≡ false → ReadsBinary ts no_in l i t j

  -- ConditionalExpression, ConditionalExpressionNoIn (11.12)
  pub data ReadsConditional (ts : List Token) : Bool → ℕ → Expr → ℕ → Type 0 where
    operands : {no_in : Bool} {i j : ℕ} {t : Expr} → ReadsBinary ts no_in 10 i t j
        → is_question (terminal_at ts j) ≡ false → ReadsConditional ts no_in i t j
    a_conditional : {no_in : Bool} {i j k m : ℕ} {c a b : Expr} → ReadsBinary ts no_in 10 i c j → At ts j question
        → ReadsAssignment ts false (suc j) a k → At ts k colon → ReadsAssignment ts no_in (suc k) b m
        → ReadsConditional ts no_in i (tree.conditional c a b (span ts i m)) m

  -- AssignmentExpression, AssignmentExpressionNoIn (11.13)
  pub data ReadsAssignment (ts : List Token) : Bool → ℕ → Expr → ℕ → Type 0 where
    conditional : {no_in : Bool} {i j : ℕ} {t : Expr} → ReadsConditional ts no_in i t j
        → assigns (terminal_at ts j) ≡ false → ReadsAssignment ts no_in i t j
    an_assignment : {no_in : Bool} {i j k : ℕ} {t v : Expr} {g : Tree Span tree.target} {op : Option BinOp}
        → ReadsLeft ts true i t j → IsTarget t g → AssignsAt ts j op → ReadsAssignment ts no_in (suc j) v k
        → ReadsAssignment ts no_in i (tree.assign op g v (span ts i k)) k

  -- Expression, ExpressionNoIn (11.14)
  pub data BeginsExpression (ts : List Token) : Bool → ℕ → Expr → ℕ → Type 0 where
    assignment : {no_in : Bool} {i j : ℕ} {t : Expr} → ReadsAssignment ts no_in i t j
        → BeginsExpression ts no_in i t j
    a_comma : {no_in : Bool} {i j k : ℕ} {a b : Expr} → BeginsExpression ts no_in i a j → At ts j comma
        → ReadsAssignment ts no_in (suc j) b k → BeginsExpression ts no_in i (tree.comma a b (span ts i k)) k

  pub data ReadsExpression (ts : List Token) : Bool → ℕ → Expr → ℕ → Type 0 where
    whole_expression : {no_in : Bool} {i j : ℕ} {t : Expr} → BeginsExpression ts no_in i t j
        → is_comma (terminal_at ts j) ≡ false → ReadsExpression ts no_in i t j

  -- Statement (clause 12)
  pub data ReadsStatement (ts : List Token) : ℕ → Stmt → ℕ → Type 0 where
    -- Block (12.1)
    a_block : {i j : ℕ} {ws : Stmts} → ReadsBlock ts i ws j → ReadsStatement ts i (tree.block ws (span ts i j)) j
    -- var VariableDeclarationList ; (12.2)
    a_var : {i j k : ℕ} {ds : Forest Span tree.decl} → At ts i (keyword words.Var)
        → ReadsDeclarations ts false (suc i) ds j → EndsAt ts j k → ReadsStatement ts i (tree.var ds (span ts i k)) k
    -- ; (12.3)
    an_empty : {i : ℕ} → At ts i semicolon → ReadsStatement ts i (tree.empty (span ts i (suc i))) (suc i)
    -- Expression ; (12.4)
    an_expression : {i j k : ℕ} {t : Expr} → bars_expression (terminal_at ts i) ≡ false → is_label ts i ≡ false
        → ReadsExpression ts false i t j → EndsAt ts j k → ReadsStatement ts i (tree.expression t (span ts i k)) k
    -- if ( Expression ) Statement else Statement (12.5)
    an_if_else : {i j k m : ℕ} {t : Expr} {ws us : Stmts} → At ts i (keyword words.If) → ReadsHead ts (suc i) t j
        → ReadsSub ts j ws k → At ts k (keyword words.Else) → ReadsSub ts (suc k) us m
        → ReadsStatement ts i (tree.if_else t ws (tree.present (tree.branch_of us)) (span ts i m)) m
    -- if ( Expression ) Statement (12.5), where no `else` follows
    an_if : {i j k : ℕ} {t : Expr} {ws : Stmts} → At ts i (keyword words.If) → ReadsHead ts (suc i) t j
        → ReadsSub ts j ws k → is_else (terminal_at ts k) ≡ false
        → ReadsStatement ts i (tree.if_else t ws tree.absent (span ts i k)) k
    -- do Statement while ( Expression ) ; (12.6.1)
    a_do_while : {i j k m : ℕ} {t : Expr} {ws : Stmts} → At ts i (keyword words.Do) → ReadsSub ts (suc i) ws j
        → At ts j (keyword words.While) → ReadsHead ts (suc j) t k → EndsAt ts k m
        → ReadsStatement ts i (tree.do_while ws t (span ts i m)) m
    -- while ( Expression ) Statement (12.6.2)
    a_while : {i j k : ℕ} {t : Expr} {ws : Stmts} → At ts i (keyword words.While) → ReadsHead ts (suc i) t j
        → ReadsSub ts j ws k → ReadsStatement ts i (tree.while t ws (span ts i k)) k
    -- for ( .. ; .. ; .. ) Statement (12.6.3): no semicolon is inserted in its head (7.9.1)
    a_for : {i j k m n : ℕ} {a : Tree Span tree.init} {b c : OptionalTree Span tree.expr} {ws : Stmts}
        → At ts i (keyword words.For) → At ts (suc i) open_paren → ReadsInit ts (suc (suc i)) a j → At ts j semicolon
        → ReadsOptional ts semicolon (suc j) b k → At ts k semicolon → ReadsOptional ts close_paren (suc k) c m
        → At ts m close_paren → ReadsSub ts (suc m) ws n → ReadsStatement ts i (tree.for a b c ws (span ts i n)) n
    -- for ( LeftHandSideExpression in Expression ) Statement (12.6.4), of a name
    a_for_in : {i j k m : ℕ} {x : Text} {s : Span} {t : Expr} {ws : Stmts} → At ts i (keyword words.For)
        → At ts (suc i) open_paren → ReadsLeft ts true (suc (suc i)) (tree.name x s) j → At ts j (keyword words.In)
        → ReadsExpression ts false (suc j) t k → At ts k close_paren → ReadsSub ts (suc k) ws m
        → ReadsStatement ts i (tree.for_in false (record { text = x; at = s }) t ws (span ts i m)) m
    -- for ( var Identifier in Expression ) Statement (12.6.4)
    a_for_var_in : {i k m : ℕ} {t : Expr} {ws : Stmts} → At ts i (keyword words.For) → At ts (suc i) open_paren
        → At ts (suc (suc i)) (keyword words.Var) → Is is_identifier ts (suc (suc (suc i)))
        → At ts (suc (suc (suc (suc i)))) (keyword words.In)
        → ReadsExpression ts false (suc (suc (suc (suc (suc i))))) t k → At ts k close_paren
        → ReadsSub ts (suc k) ws m
        → ReadsStatement ts i (tree.for_in true (ident_at ts (suc (suc (suc i)))) t ws (span ts i m)) m
    -- continue ; and continue Identifier ; (12.7): the label is on the same line (7.9.1)
    a_continue : {i k : ℕ} → At ts i (keyword words.Continue) → EndsAt ts (suc i) k
        → ReadsStatement ts i (tree.continue None (span ts i k)) k
    a_continue_to : {i k : ℕ} → At ts i (keyword words.Continue) → Is is_identifier ts (suc i)
        → line_at ts (suc i) ≡ false → EndsAt ts (suc (suc i)) k
        → ReadsStatement ts i (tree.continue (Some (ident_at ts (suc i))) (span ts i k)) k
    -- break ; and break Identifier ; (12.8): the label is on the same line (7.9.1)
    a_break : {i k : ℕ} → At ts i (keyword words.Break) → EndsAt ts (suc i) k
        → ReadsStatement ts i (tree.break None (span ts i k)) k
    a_break_to : {i k : ℕ} → At ts i (keyword words.Break) → Is is_identifier ts (suc i) → line_at ts (suc i) ≡ false
        → EndsAt ts (suc (suc i)) k → ReadsStatement ts i (tree.break (Some (ident_at ts (suc i))) (span ts i k)) k
    -- return ; and return Expression ; (12.9): the value begins on the same line (7.9.1)
    a_return : {i k : ℕ} → At ts i (keyword words.Return) → EndsAt ts (suc i) k
        → ReadsStatement ts i (tree.return tree.absent (span ts i k)) k
    a_return_of : {i j k : ℕ} {t : Expr} → At ts i (keyword words.Return) → line_at ts (suc i) ≡ false
        → ReadsExpression ts false (suc i) t j → EndsAt ts j k
        → ReadsStatement ts i (tree.return (tree.present t) (span ts i k)) k
    -- switch ( Expression ) CaseBlock (12.11)
    a_switch : {i j k : ℕ} {t : Expr} {cs : Forest Span tree.clause} → At ts i (keyword words.Switch)
        → ReadsHead ts (suc i) t j → At ts j open_brace → ReadsClauses ts true (suc j) cs k → At ts k close_brace
        → ReadsStatement ts i (tree.switch t cs (span ts i (suc k))) (suc k)
    -- Identifier : Statement (12.12)
    a_label : {i j : ℕ} {w : Stmt} → Is is_identifier ts i → At ts (suc i) colon → ReadsStatement ts (suc (suc i)) w j
        → ReadsStatement ts i (tree.labelled (ident_at ts i) w (span ts i j)) j
    -- throw Expression ; (12.13): the value begins on the same line (7.9.1)
    a_throw : {i j k : ℕ} {t : Expr} → At ts i (keyword words.Throw) → line_at ts (suc i) ≡ false
        → ReadsExpression ts false (suc i) t j → EndsAt ts j k → ReadsStatement ts i (tree.throw t (span ts i k)) k
    -- try Block Catch, try Block Finally and try Block Catch Finally (12.14)
    a_try_catch : {i j k : ℕ} {ws : Stmts} {h : Tree Span tree.handler} → At ts i (keyword words.Try)
        → ReadsBlock ts (suc i) ws j → ReadsCatch ts j h k → is_finally (terminal_at ts k) ≡ false
        → ReadsStatement ts i (tree.try ws (tree.present h) tree.absent (span ts i k)) k
    a_try_finally : {i j k : ℕ} {ws us : Stmts} → At ts i (keyword words.Try) → ReadsBlock ts (suc i) ws j
        → At ts j (keyword words.Finally) → ReadsBlock ts (suc j) us k
        → ReadsStatement ts i (tree.try ws tree.absent (tree.present (tree.branch_of us)) (span ts i k)) k
    a_try_both : {i j k m : ℕ} {ws us : Stmts} {h : Tree Span tree.handler} → At ts i (keyword words.Try)
        → ReadsBlock ts (suc i) ws j → ReadsCatch ts j h k → At ts k (keyword words.Finally)
        → ReadsBlock ts (suc k) us m
        → ReadsStatement ts i (tree.try ws (tree.present h) (tree.present (tree.branch_of us)) (span ts i m)) m
    -- debugger ; (12.15)
    a_debugger : {i k : ℕ} → At ts i (keyword words.Debugger) → EndsAt ts (suc i) k
        → ReadsStatement ts i (tree.debugger (span ts i k)) k

  -- { StatementList? } (12.1)
  pub data ReadsBlock (ts : List Token) : ℕ → Stmts → ℕ → Type 0 where
    in_braces : {i j : ℕ} {ws : Stmts} → At ts i open_brace → ReadsStatements ts (suc i) ws j → At ts j close_brace
        → ReadsBlock ts i ws (suc j)

  -- StatementList (12.1), up to what ends it
  pub data ReadsStatements (ts : List Token) : ℕ → Stmts → ℕ → Type 0 where
    no_statements : {i : ℕ} → ends_list (terminal_at ts i) ≡ true → ReadsStatements ts i tree.end i
    more_statements : {i j k : ℕ} {w : Stmt} {ws : Stmts} → ReadsStatement ts i w j → ReadsStatements ts j ws k
        → ReadsStatements ts i (tree.more w ws) k

  -- a Statement under another: a block stands for its list
  pub data ReadsSub (ts : List Token) : ℕ → Stmts → ℕ → Type 0 where
    several : {i j : ℕ} {ws : Stmts} → ReadsBlock ts i ws j → ReadsSub ts i ws j
    alone : {i j : ℕ} {w : Stmt} → is_open_brace (terminal_at ts i) ≡ false → ReadsStatement ts i w j
        → ReadsSub ts i (tree.more w tree.end) j

  -- ( Expression ), as `if`, `while`, `do` and `switch` have it
  pub data ReadsHead (ts : List Token) : ℕ → Expr → ℕ → Type 0 where
    a_head : {i j : ℕ} {t : Expr} → At ts i open_paren → ReadsExpression ts false (suc i) t j → At ts j close_paren
        → ReadsHead ts i t (suc j)

  -- VariableDeclaration, VariableDeclarationNoIn (12.2)
  pub data ReadsDeclaration (ts : List Token) : Bool → ℕ → Tree Span tree.decl → ℕ → Type 0 where
    declared : {no_in : Bool} {i : ℕ} → Is is_identifier ts i → is_equals (terminal_at ts (suc i)) ≡ false
        → ReadsDeclaration ts no_in i (tree.declarator (ident_at ts i) tree.absent) (suc i)
    initialised : {no_in : Bool} {i j : ℕ} {t : Expr} → Is is_identifier ts i → At ts (suc i) equals
        → ReadsAssignment ts no_in (suc (suc i)) t j
        → ReadsDeclaration ts no_in i (tree.declarator (ident_at ts i) (tree.present t)) j

  -- VariableDeclarationList, VariableDeclarationListNoIn (12.2)
  pub data ReadsDeclarations (ts : List Token) : Bool → ℕ → Forest Span tree.decl → ℕ → Type 0 where
    last_declaration : {no_in : Bool} {i j : ℕ} {d : Tree Span tree.decl} → ReadsDeclaration ts no_in i d j
        → is_comma (terminal_at ts j) ≡ false → ReadsDeclarations ts no_in i (tree.more d tree.end) j
    more_declarations : {no_in : Bool} {i j k : ℕ} {d : Tree Span tree.decl} {ds : Forest Span tree.decl}
        → ReadsDeclaration ts no_in i d j → At ts j comma → ReadsDeclarations ts no_in (suc j) ds k
        → ReadsDeclarations ts no_in i (tree.more d ds) k

  -- what stands before the first semicolon in the head of a `for` (12.6.3)
  pub data ReadsInit (ts : List Token) : ℕ → Tree Span tree.init → ℕ → Type 0 where
    no_init : {i : ℕ} → At ts i semicolon → ReadsInit ts i tree.nothing i
    an_init : {i j : ℕ} {t : Expr} → ReadsExpression ts true i t j → ReadsInit ts i (tree.init_expression t) j
    init_vars : {i j : ℕ} {ds : Forest Span tree.decl} → At ts i (keyword words.Var)
        → ReadsDeclarations ts true (suc i) ds j → ReadsInit ts i (tree.init_var ds) j

  -- Expression?, before a token that ends it (12.6.3)
  pub data ReadsOptional (ts : List Token) : Terminal → ℕ → OptionalTree Span tree.expr → ℕ → Type 0 where
    no_expression : {k : Terminal} {i : ℕ} → At ts i k → ReadsOptional ts k i tree.absent i
    one_expression : {k : Terminal} {i j : ℕ} {t : Expr} → ReadsExpression ts false i t j
        → ReadsOptional ts k i (tree.present t) j

  -- CaseClauses? with one DefaultClause or none (12.11); with false there was one before
  pub data ReadsClauses (ts : List Token) : Bool → ℕ → Forest Span tree.clause → ℕ → Type 0 where
    no_clauses : {fresh : Bool} {i : ℕ} → At ts i close_brace → ReadsClauses ts fresh i tree.end i
    a_case : {fresh : Bool} {i j k m : ℕ} {t : Expr} {ws : Stmts} {cs : Forest Span tree.clause}
        → At ts i (keyword words.Case) → ReadsExpression ts false (suc i) t j → At ts j colon
        → ReadsStatements ts (suc j) ws k → ReadsClauses ts fresh k cs m
        → ReadsClauses ts fresh i (tree.more (tree.case (tree.present t) ws) cs) m
    a_default : {i k m : ℕ} {ws : Stmts} {cs : Forest Span tree.clause} → At ts i (keyword words.Default)
        → At ts (suc i) colon → ReadsStatements ts (suc (suc i)) ws k → ReadsClauses ts false k cs m
        → ReadsClauses ts true i (tree.more (tree.case tree.absent ws) cs) m

  -- catch ( Identifier ) Block (12.14)
  pub data ReadsCatch (ts : List Token) : ℕ → Tree Span tree.handler → ℕ → Type 0 where
    a_catch : {i j : ℕ} {ws : Stmts} → At ts i (keyword words.Catch) → At ts (suc i) open_paren
        → Is is_identifier ts (suc (suc i)) → At ts (suc (suc (suc i))) close_paren
        → ReadsBlock ts (suc (suc (suc (suc i)))) ws j → ReadsCatch ts i (tree.catch (ident_at ts (suc (suc i))) ws) j

  -- SourceElements? (clause 14): function declarations and statements
  pub data ReadsElements (ts : List Token) : ℕ → Forest Span tree.func → Stmts → ℕ → Type 0 where
    no_elements : {i : ℕ} → ends_list (terminal_at ts i) ≡ true → ReadsElements ts i tree.end tree.end i
    a_declaration : {i j k : ℕ} {f : Tree Span tree.func} {fs : Forest Span tree.func} {ws : Stmts}
        → ReadsFunction ts i f j → ReadsElements ts j fs ws k → ReadsElements ts i (tree.more f fs) ws k
    a_statement : {i j k : ℕ} {w : Stmt} {fs : Forest Span tree.func} {ws : Stmts} → ReadsStatement ts i w j
        → ReadsElements ts j fs ws k → ReadsElements ts i fs (tree.more w ws) k

  -- FunctionDeclaration (clause 13)
  pub data ReadsFunction (ts : List Token) : ℕ → Tree Span tree.func → ℕ → Type 0 where
    a_declared_function : {i j : ℕ} {ps : List (Ident Span)} {c : Code} → At ts i (keyword words.Function)
        → Is is_identifier ts (suc i) → ReadsRest ts (suc (suc i)) ps c j
        → ReadsFunction ts i (tree.function 0 (Some (ident_at ts (suc i))) ps c (span ts i j)) j

  -- FunctionBody, Program (clauses 13 and 14): a directive prologue (14.1) and what follows it. A directive is an
  -- expression statement that is a string alone, and leaves nothing but whether the body is strict.
  pub data ReadsBody (ts : List Token) : ℕ → Code → ℕ → Type 0 where
    a_directive : {i j k : ℕ} {strict : Bool} {fs : Forest Span tree.func} {ws : Stmts} → At ts i terminals.Str
        → continues_at ts (suc i) ≡ false → EndsAt ts (suc i) j → ReadsBody ts j (tree.body strict fs ws) k
        → ReadsBody ts i (tree.body (strict_at ts i || strict) fs ws) k
    no_directive : {i j : ℕ} {fs : Forest Span tree.func} {ws : Stmts} → is_directive ts i ≡ false
        → ReadsElements ts i fs ws j → ReadsBody ts i (tree.body false fs ws) j
