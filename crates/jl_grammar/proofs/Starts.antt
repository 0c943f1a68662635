-- The tokens that what is read begins with.
use Rattle.std.proofs.Common.{◌≡◌, ℕ, suc, Bool, true, false, not, ◌&&◌, ◌||◌, ap, refl, List, Option, Some, None}
use Rattle.jl_ast.specs.declared.ops.BinOp.{BinOp}
use Rattle.jl_ast.specs.declared.ops.UnOp.{UnOp}
use Rattle.jl_token.specs.declared.punct.Punct.TheVariants as puncts
use Rattle.jl_grammar.specs.declared.terminal.Terminal.TheVariants as terminals
use Rattle.jl_grammar.specs.declared.word.Word.TheVariants as words
use Rattle.jl_ast.specs.Tree.{Ident, Tree, Forest, OptionalTree}
use Rattle.jl_ast.specs.Tree as tree
use Rattle.jl_text.specs.declared.span.Span.{Span}
use Rattle.jl_token.specs.declared.token.Token.{Token}
use Rattle.jl_grammar.specs.declared.terminal.Terminal.{Terminal}
use Rattle.jl_grammar.specs.Reads.{Expr, Stmt, Exprs, Stmts, Code, ReadsNames, last_name, more_names, ReadsPrimary}
use Rattle.jl_grammar.specs.Reads.{a_this, a_name, a_null, a_true, a_false, a_number, a_string, an_array, an_object}
use Rattle.jl_grammar.specs.Reads.{in_parens, a_function, a_named_function, ReadsEntry, a_value, a_getter, a_setter}
use Rattle.jl_grammar.specs.Reads.{ReadsRest, a_rest, BeginsLeft, primary, a_dot, an_index, a_call, a_new}
use Rattle.jl_grammar.specs.Reads.{a_bare_new, ReadsLeft, whole_left, ReadsArgumentList, last_argument}
use Rattle.jl_grammar.specs.Reads.{more_arguments, ReadsPostfix, left, a_postfix, ReadsUnary, postfix, a_prefix}
use Rattle.jl_grammar.specs.Reads.{an_update, BeginsBinary, operand, tighter, an_infix_operator, ReadsBinary}
use Rattle.jl_grammar.specs.Reads.{whole_binary}
use Rattle.jl_grammar.specs.Reads.{ReadsConditional, operands, a_conditional, ReadsAssignment, conditional}
use Rattle.jl_grammar.specs.Reads.{an_assignment, BeginsExpression, assignment, a_comma, ReadsExpression}
use Rattle.jl_grammar.specs.Reads.{whole_expression, ReadsStatement, a_block, a_var, an_empty, an_expression}
use Rattle.jl_grammar.specs.Reads.{an_if_else, an_if, a_do_while, a_while, a_for, a_for_in, a_for_var_in}
use Rattle.jl_grammar.specs.Reads.{a_continue, a_continue_to, a_break, a_break_to, a_return, a_return_of, a_switch}
use Rattle.jl_grammar.specs.Reads.{a_label, a_throw, a_try_catch, a_try_finally, a_try_both, a_debugger, ReadsBlock}
use Rattle.jl_grammar.specs.Reads.{in_braces, declared, initialised, ReadsDeclarations, last_declaration}
use Rattle.jl_grammar.specs.Reads.{more_declarations, ReadsCatch, a_catch}
use Rattle.jl_grammar.specs.Next.{open_paren, open_brace, semicolon, keyword, is_identifier, is_key, is_semicolon}
use Rattle.jl_grammar.specs.Next.{is_comma, is_colon, is_question, bars_expression, ends_statement, ends_list}
use Rattle.jl_grammar.specs.Operators.{continues, assign_operator, unary_operator, update_operator, updates}
use Rattle.jl_grammar.specs.Reader.{is_close_paren, is_close_bracket, is_close_brace, is_function, is_new, is_in}
use Rattle.jl_grammar.specs.Reader.{is_var}
use Rattle.jl_grammar.specs.Tokens.{At, terminal_at}

-- the tokens that a primary expression begins with
abbrev pub begins_primary : Terminal → Bool
begins_primary (terminals.Word words.This) = true
begins_primary terminals.Identifier = true
begins_primary terminals.Get = true
begins_primary terminals.Set = true
begins_primary (terminals.Word words.Null) = true
begins_primary (terminals.Word words.True) = true
begins_primary (terminals.Word words.False) = true
begins_primary terminals.Number = true
begins_primary terminals.Str = true
begins_primary (terminals.Punct puncts.LeftBracket) = true
begins_primary (terminals.Punct puncts.LeftBrace) = true
begins_primary (terminals.Punct puncts.LeftParen) = true
begins_primary (terminals.Word words.Function) = true
begins_primary _ = false

-- the tokens that a left-hand side begins with
abbrev pub begins_left : Terminal → Bool
begins_left (terminals.Word words.This) = true
begins_left terminals.Identifier = true
begins_left terminals.Get = true
begins_left terminals.Set = true
begins_left (terminals.Word words.Null) = true
begins_left (terminals.Word words.True) = true
begins_left (terminals.Word words.False) = true
begins_left terminals.Number = true
begins_left terminals.Str = true
begins_left (terminals.Punct puncts.LeftBracket) = true
begins_left (terminals.Punct puncts.LeftBrace) = true
begins_left (terminals.Punct puncts.LeftParen) = true
begins_left (terminals.Word words.Function) = true
begins_left (terminals.Word words.New) = true
begins_left _ = false

-- the tokens that an expression begins with
abbrev pub begins_expression : Terminal → Bool
begins_expression (terminals.Word words.This) = true
begins_expression terminals.Identifier = true
begins_expression terminals.Get = true
begins_expression terminals.Set = true
begins_expression (terminals.Word words.Null) = true
begins_expression (terminals.Word words.True) = true
begins_expression (terminals.Word words.False) = true
begins_expression terminals.Number = true
begins_expression terminals.Str = true
begins_expression (terminals.Punct puncts.LeftBracket) = true
begins_expression (terminals.Punct puncts.LeftBrace) = true
begins_expression (terminals.Punct puncts.LeftParen) = true
begins_expression (terminals.Word words.Function) = true
begins_expression (terminals.Word words.New) = true
begins_expression (terminals.Punct puncts.Minus) = true
begins_expression (terminals.Punct puncts.Plus) = true
begins_expression (terminals.Punct puncts.Bang) = true
begins_expression (terminals.Punct puncts.Tilde) = true
begins_expression (terminals.Word words.Typeof) = true
begins_expression (terminals.Word words.Void) = true
begins_expression (terminals.Word words.Delete) = true
begins_expression (terminals.Punct puncts.PlusPlus) = true
begins_expression (terminals.Punct puncts.MinusMinus) = true
begins_expression _ = false

pub identifier_begins : (k : Terminal) → is_identifier k ≡ true → begins_primary k ≡ true
identifier_begins terminals.Identifier h = refl
identifier_begins terminals.Get h = refl
identifier_begins terminals.Set h = refl
identifier_begins _ h = cc

pub primary_begins_left : (k : Terminal) → begins_primary k ≡ true → begins_left k ≡ true
primary_begins_left (terminals.Word words.This) h = refl
primary_begins_left terminals.Identifier h = refl
primary_begins_left terminals.Get h = refl
primary_begins_left terminals.Set h = refl
primary_begins_left (terminals.Word words.Null) h = refl
primary_begins_left (terminals.Word words.True) h = refl
primary_begins_left (terminals.Word words.False) h = refl
primary_begins_left terminals.Number h = refl
primary_begins_left terminals.Str h = refl
primary_begins_left (terminals.Punct puncts.LeftBracket) h = refl
primary_begins_left (terminals.Punct puncts.LeftBrace) h = refl
primary_begins_left (terminals.Punct puncts.LeftParen) h = refl
primary_begins_left (terminals.Word words.Function) h = refl
primary_begins_left _ h = cc

pub left_begins_expression : (k : Terminal) → begins_left k ≡ true → begins_expression k ≡ true
left_begins_expression (terminals.Word words.This) h = refl
left_begins_expression terminals.Identifier h = refl
left_begins_expression terminals.Get h = refl
left_begins_expression terminals.Set h = refl
left_begins_expression (terminals.Word words.Null) h = refl
left_begins_expression (terminals.Word words.True) h = refl
left_begins_expression (terminals.Word words.False) h = refl
left_begins_expression terminals.Number h = refl
left_begins_expression terminals.Str h = refl
left_begins_expression (terminals.Punct puncts.LeftBracket) h = refl
left_begins_expression (terminals.Punct puncts.LeftBrace) h = refl
left_begins_expression (terminals.Punct puncts.LeftParen) h = refl
left_begins_expression (terminals.Word words.Function) h = refl
left_begins_expression (terminals.Word words.New) h = refl
left_begins_expression _ h = cc

pub primary_is_not_new : (k : Terminal) → begins_primary k ≡ true → is_new k ≡ false
primary_is_not_new (terminals.Word words.New) h = cc
primary_is_not_new _ h = refl

pub left_is_no_prefix : (k : Terminal) → begins_left k ≡ true → unary_operator k ≡ None
left_is_no_prefix (terminals.Punct puncts.Minus) h = cc
left_is_no_prefix (terminals.Punct puncts.Plus) h = cc
left_is_no_prefix (terminals.Punct puncts.Bang) h = cc
left_is_no_prefix (terminals.Punct puncts.Tilde) h = cc
left_is_no_prefix (terminals.Word words.Typeof) h = cc
left_is_no_prefix (terminals.Word words.Void) h = cc
left_is_no_prefix (terminals.Word words.Delete) h = cc
left_is_no_prefix _ h = refl

pub left_is_no_update : (k : Terminal) → begins_left k ≡ true → update_operator k ≡ None
left_is_no_update (terminals.Punct puncts.PlusPlus) h = cc
left_is_no_update (terminals.Punct puncts.MinusMinus) h = cc
left_is_no_update _ h = refl

pub update_is_no_prefix : (k : Terminal) (up : Bool) → update_operator k ≡ Some up → unary_operator k ≡ None
update_is_no_prefix (terminals.Punct puncts.Minus) up h = cc
update_is_no_prefix (terminals.Punct puncts.Plus) up h = cc
update_is_no_prefix (terminals.Punct puncts.Bang) up h = cc
update_is_no_prefix (terminals.Punct puncts.Tilde) up h = cc
update_is_no_prefix (terminals.Word words.Typeof) up h = cc
update_is_no_prefix (terminals.Word words.Void) up h = cc
update_is_no_prefix (terminals.Word words.Delete) up h = cc
update_is_no_prefix _ up h = refl

prefix_begins : (k : Terminal) (op : UnOp) → unary_operator k ≡ Some op → begins_expression k ≡ true
prefix_begins (terminals.Punct puncts.Minus) op h = refl
prefix_begins (terminals.Punct puncts.Plus) op h = refl
prefix_begins (terminals.Punct puncts.Bang) op h = refl
prefix_begins (terminals.Punct puncts.Tilde) op h = refl
prefix_begins (terminals.Word words.Typeof) op h = refl
prefix_begins (terminals.Word words.Void) op h = refl
prefix_begins (terminals.Word words.Delete) op h = refl
prefix_begins _ op h = cc

update_begins : (k : Terminal) (up : Bool) → update_operator k ≡ Some up → begins_expression k ≡ true
update_begins (terminals.Punct puncts.PlusPlus) up h = refl
update_begins (terminals.Punct puncts.MinusMinus) up h = refl
update_begins _ up h = cc

pub no_semicolon : (k : Terminal) → begins_expression k ≡ true → is_semicolon k ≡ false
no_semicolon (terminals.Punct puncts.Semicolon) h = cc
no_semicolon _ h = refl

pub no_close_paren : (k : Terminal) → begins_expression k ≡ true → is_close_paren k ≡ false
no_close_paren (terminals.Punct puncts.RightParen) h = cc
no_close_paren _ h = refl

pub no_close_bracket : (k : Terminal) → begins_expression k ≡ true → is_close_bracket k ≡ false
no_close_bracket (terminals.Punct puncts.RightBracket) h = cc
no_close_bracket _ h = refl

pub no_comma : (k : Terminal) → begins_expression k ≡ true → is_comma k ≡ false
no_comma (terminals.Punct puncts.Comma) h = cc
no_comma _ h = refl

pub no_var : (k : Terminal) → begins_expression k ≡ true → is_var k ≡ false
no_var (terminals.Word words.Var) h = cc
no_var _ h = refl

pub no_statement_end : (k : Terminal) → begins_expression k ≡ true → ends_statement k ≡ false
no_statement_end (terminals.Punct puncts.RightBrace) h = cc
no_statement_end terminals.End h = cc
no_statement_end _ h = refl

pub no_list_end : (k : Terminal) → begins_expression k ≡ true → ends_list k ≡ false
no_list_end (terminals.Punct puncts.RightBrace) h = cc
no_list_end terminals.End h = cc
no_list_end (terminals.Word words.Case) h = cc
no_list_end (terminals.Word words.Default) h = cc
no_list_end _ h = refl

pub identifier_is_no_close : (k : Terminal) → is_identifier k ≡ true → is_close_paren k ≡ false
identifier_is_no_close (terminals.Punct puncts.RightParen) h = cc
identifier_is_no_close _ h = refl

pub identifier_is_no_end : (k : Terminal) → is_identifier k ≡ true → ends_list k ≡ false
identifier_is_no_end (terminals.Punct puncts.RightBrace) h = cc
identifier_is_no_end terminals.End h = cc
identifier_is_no_end (terminals.Word words.Case) h = cc
identifier_is_no_end (terminals.Word words.Default) h = cc
identifier_is_no_end _ h = refl

pub identifier_is_no_function : (k : Terminal) → is_identifier k ≡ true → is_function k ≡ false
identifier_is_no_function (terminals.Word words.Function) h = cc
identifier_is_no_function _ h = refl

pub key_is_no_colon : (k : Terminal) → is_key k ≡ true → is_colon k ≡ false
key_is_no_colon (terminals.Punct puncts.Colon) h = cc
key_is_no_colon _ h = refl

pub key_is_no_brace : (k : Terminal) → is_key k ≡ true → is_close_brace k ≡ false
key_is_no_brace (terminals.Punct puncts.RightBrace) h = cc
key_is_no_brace _ h = refl

unbarred_is_no_function : (k : Terminal) → bars_expression k ≡ false → is_function k ≡ false
unbarred_is_no_function (terminals.Word words.Function) h = cc
unbarred_is_no_function _ h = refl

-- an assignment operator goes on with nothing tighter
pub assign_updates_not : (k : Terminal) (op : Option BinOp) → assign_operator k ≡ Some op → updates k ≡ false
assign_updates_not (terminals.Punct puncts.PlusPlus) op h = cc
assign_updates_not (terminals.Punct puncts.MinusMinus) op h = cc
assign_updates_not _ op h = refl

pub assign_is_no_question : (k : Terminal) (op : Option BinOp) → assign_operator k ≡ Some op → is_question k ≡ false
assign_is_no_question (terminals.Punct puncts.Question) op h = cc
assign_is_no_question _ op h = refl

pub assign_joins_not : (no_in : Bool) (k : Terminal) (op : Option BinOp) → assign_operator k ≡ Some op
    → continues no_in 10 k ≡ false
assign_joins_not true (terminals.Punct puncts.Star) op h = cc
assign_joins_not true (terminals.Punct puncts.Slash) op h = cc
assign_joins_not true (terminals.Punct puncts.Percent) op h = cc
assign_joins_not true (terminals.Punct puncts.Plus) op h = cc
assign_joins_not true (terminals.Punct puncts.Minus) op h = cc
assign_joins_not true (terminals.Punct puncts.ShiftLeft) op h = cc
assign_joins_not true (terminals.Punct puncts.ShiftRight) op h = cc
assign_joins_not true (terminals.Punct puncts.ShiftRightUnsigned) op h = cc
assign_joins_not true (terminals.Punct puncts.Less) op h = cc
assign_joins_not true (terminals.Punct puncts.Greater) op h = cc
assign_joins_not true (terminals.Punct puncts.LessEqual) op h = cc
assign_joins_not true (terminals.Punct puncts.GreaterEqual) op h = cc
assign_joins_not true (terminals.Punct puncts.Equal) op h = cc
assign_joins_not true (terminals.Punct puncts.NotEqual) op h = cc
assign_joins_not true (terminals.Punct puncts.StrictEqual) op h = cc
assign_joins_not true (terminals.Punct puncts.StrictNotEqual) op h = cc
assign_joins_not true (terminals.Punct puncts.And) op h = cc
assign_joins_not true (terminals.Punct puncts.Caret) op h = cc
assign_joins_not true (terminals.Punct puncts.Or) op h = cc
assign_joins_not true (terminals.Punct puncts.AndAnd) op h = cc
assign_joins_not true (terminals.Punct puncts.OrOr) op h = cc
assign_joins_not true (terminals.Word words.InstanceOf) op h = cc
assign_joins_not true (terminals.Word words.In) op h = cc
assign_joins_not false (terminals.Punct puncts.Star) op h = cc
assign_joins_not false (terminals.Punct puncts.Slash) op h = cc
assign_joins_not false (terminals.Punct puncts.Percent) op h = cc
assign_joins_not false (terminals.Punct puncts.Plus) op h = cc
assign_joins_not false (terminals.Punct puncts.Minus) op h = cc
assign_joins_not false (terminals.Punct puncts.ShiftLeft) op h = cc
assign_joins_not false (terminals.Punct puncts.ShiftRight) op h = cc
assign_joins_not false (terminals.Punct puncts.ShiftRightUnsigned) op h = cc
assign_joins_not false (terminals.Punct puncts.Less) op h = cc
assign_joins_not false (terminals.Punct puncts.Greater) op h = cc
assign_joins_not false (terminals.Punct puncts.LessEqual) op h = cc
assign_joins_not false (terminals.Punct puncts.GreaterEqual) op h = cc
assign_joins_not false (terminals.Punct puncts.Equal) op h = cc
assign_joins_not false (terminals.Punct puncts.NotEqual) op h = cc
assign_joins_not false (terminals.Punct puncts.StrictEqual) op h = cc
assign_joins_not false (terminals.Punct puncts.StrictNotEqual) op h = cc
assign_joins_not false (terminals.Punct puncts.And) op h = cc
assign_joins_not false (terminals.Punct puncts.Caret) op h = cc
assign_joins_not false (terminals.Punct puncts.Or) op h = cc
assign_joins_not false (terminals.Punct puncts.AndAnd) op h = cc
assign_joins_not false (terminals.Punct puncts.OrOr) op h = cc
assign_joins_not false (terminals.Word words.InstanceOf) op h = cc
assign_joins_not false (terminals.Word words.In) op h = cc
assign_joins_not true _ op h = refl
assign_joins_not false _ op h = refl

and_false : (b : Bool) → (b && false) ≡ false
and_false true = refl
and_false false = refl

-- where a statement ends there is no label
pub no_label : (k : Terminal) (line : Bool) → (ends_statement k || line) ≡ true → (is_identifier k && not line) ≡ false
no_label k true h = and_false (is_identifier k)
no_label (terminals.Punct puncts.RightBrace) false h = refl
no_label terminals.End false h = refl
no_label terminals.Identifier false h = cc
no_label terminals.Get false h = cc
no_label terminals.Set false h = cc
no_label _ false h = refl

pub primary_starts : {ts : List Token} {i : ℕ} {t : Expr} {j : ℕ} → ReadsPrimary ts i t j
    → begins_primary (terminal_at ts i) ≡ true
primary_starts (a_this a) = ap begins_primary a.is
primary_starts {ts} {i} (a_name a) = identifier_begins (terminal_at ts i) a.is
primary_starts (a_null a) = ap begins_primary a.is
primary_starts (a_true a) = ap begins_primary a.is
primary_starts (a_false a) = ap begins_primary a.is
primary_starts (a_number a) = ap begins_primary a.is
primary_starts (a_string a) = ap begins_primary a.is
primary_starts (an_array a b) = ap begins_primary a.is
primary_starts (an_object a b) = ap begins_primary a.is
primary_starts (in_parens a b c) = ap begins_primary a.is
primary_starts (a_function a b) = ap begins_primary a.is
primary_starts (a_named_function a b c) = ap begins_primary a.is

pub begins_left_starts : {ts : List Token} {calls : Bool} {i : ℕ} {t : Expr} {j : ℕ} → BeginsLeft ts calls i t j
    → begins_left (terminal_at ts i) ≡ true
begins_left_starts {ts} {i = i} (primary a) = primary_begins_left (terminal_at ts i) (primary_starts a)
begins_left_starts (a_dot a b c) = begins_left_starts a
begins_left_starts (an_index a b c d) = begins_left_starts a
begins_left_starts (a_call a b c) = begins_left_starts a
begins_left_starts (a_new a b c d) = ap begins_left a.is
begins_left_starts (a_bare_new a b c) = ap begins_left a.is

pub left_starts : {ts : List Token} {calls : Bool} {i : ℕ} {t : Expr} {j : ℕ} → ReadsLeft ts calls i t j
    → begins_left (terminal_at ts i) ≡ true
left_starts (whole_left a b) = begins_left_starts a

pub postfix_starts : {ts : List Token} {i : ℕ} {t : Expr} {j : ℕ} → ReadsPostfix ts i t j
    → begins_left (terminal_at ts i) ≡ true
postfix_starts (left a b) = left_starts a
postfix_starts (a_postfix a b c d) = left_starts a

pub unary_starts : {ts : List Token} {i : ℕ} {t : Expr} {j : ℕ} → ReadsUnary ts i t j
    → begins_expression (terminal_at ts i) ≡ true
unary_starts {ts} {i} (postfix a) = left_begins_expression (terminal_at ts i) (postfix_starts a)
unary_starts {ts} {i} (a_prefix {op = op} a b) = prefix_begins (terminal_at ts i) op a.is
unary_starts {ts} {i} (an_update {up = up} a b c) = update_begins (terminal_at ts i) up a.is

mutual
  pub begins_binary_starts : {ts : List Token} {no_in : Bool} {l i : ℕ} {t : Expr} {j : ℕ}
      → BeginsBinary ts no_in l i t j → begins_expression (terminal_at ts i) ≡ true
  begins_binary_starts (operand a) = unary_starts a
  begins_binary_starts (tighter a) = binary_starts a
  begins_binary_starts (an_infix_operator a b c d) = begins_binary_starts a

  pub binary_starts : {ts : List Token} {no_in : Bool} {l i : ℕ} {t : Expr} {j : ℕ} → ReadsBinary ts no_in l i t j
      → begins_expression (terminal_at ts i) ≡ true
  binary_starts (whole_binary a b) = begins_binary_starts a

pub conditional_starts : {ts : List Token} {no_in : Bool} {i : ℕ} {t : Expr} {j : ℕ} → ReadsConditional ts no_in i t j
    → begins_expression (terminal_at ts i) ≡ true
conditional_starts (operands a b) = binary_starts a
conditional_starts (a_conditional a b c d e) = binary_starts a

pub assignment_starts : {ts : List Token} {no_in : Bool} {i : ℕ} {t : Expr} {j : ℕ} → ReadsAssignment ts no_in i t j
    → begins_expression (terminal_at ts i) ≡ true
assignment_starts (conditional a b) = conditional_starts a
assignment_starts {ts} {i = i} (an_assignment a b c d) = left_begins_expression (terminal_at ts i) (left_starts a)

pub begins_expression_starts : {ts : List Token} {no_in : Bool} {i : ℕ} {t : Expr} {j : ℕ}
    → BeginsExpression ts no_in i t j → begins_expression (terminal_at ts i) ≡ true
begins_expression_starts (assignment a) = assignment_starts a
begins_expression_starts (a_comma a b c) = begins_expression_starts a

pub expression_starts : {ts : List Token} {no_in : Bool} {i : ℕ} {t : Expr} {j : ℕ} → ReadsExpression ts no_in i t j
    → begins_expression (terminal_at ts i) ≡ true
expression_starts (whole_expression a b) = begins_expression_starts a

pub argument_list_starts : {ts : List Token} {i : ℕ} {t : Exprs} {j : ℕ} → ReadsArgumentList ts i t j
    → is_close_paren (terminal_at ts i) ≡ false
argument_list_starts {ts} {i} (last_argument a b) = no_close_paren (terminal_at ts i) (assignment_starts a)
argument_list_starts {ts} {i} (more_arguments a b c) = no_close_paren (terminal_at ts i) (assignment_starts a)

pub names_start : {ts : List Token} {i : ℕ} {t : List (Ident Span)} {j : ℕ} → ReadsNames ts i t j
    → is_close_paren (terminal_at ts i) ≡ false
names_start {ts} {i} (last_name a b) = identifier_is_no_close (terminal_at ts i) a.is
names_start {ts} {i} (more_names a b c) = identifier_is_no_close (terminal_at ts i) a.is

pub entry_starts : {ts : List Token} {i : ℕ} {t : Tree Span tree.entry} {j : ℕ} → ReadsEntry ts i t j
    → is_close_brace (terminal_at ts i) ≡ false
entry_starts {ts} {i} (a_value a b c) = key_is_no_brace (terminal_at ts i) a.is
entry_starts (a_getter a b c) = ap is_close_brace a.is
entry_starts (a_setter a b c) = ap is_close_brace a.is

pub rest_starts : {ts : List Token} {i : ℕ} {ps : List (Ident Span)} {c : Code} {j : ℕ} → ReadsRest ts i ps c j
    → At ts i open_paren
rest_starts (a_rest a b c d e) = a

pub catch_starts : {ts : List Token} {i : ℕ} {t : Tree Span tree.handler} {j : ℕ} → ReadsCatch ts i t j
    → At ts i (keyword words.Catch)
catch_starts (a_catch a b c d e) = a

pub block_starts : {ts : List Token} {i : ℕ} {t : Stmts} {j : ℕ} → ReadsBlock ts i t j → At ts i open_brace
block_starts (in_braces a b c) = a

-- what a statement begins with ends no list and is no function
pub statement_starts : {ts : List Token} {i : ℕ} {t : Stmt} {j : ℕ} → ReadsStatement ts i t j
    → (ends_list (terminal_at ts i) ≡ false) × (is_function (terminal_at ts i) ≡ false)
statement_starts (a_block a) = let e = block_starts a in (ap ends_list e.is, ap is_function e.is)
statement_starts (a_var a b c) = (ap ends_list a.is, ap is_function a.is)
statement_starts (an_empty a) = (ap ends_list a.is, ap is_function a.is)
statement_starts {ts} {i} (an_expression a b c d) =
    (no_list_end (terminal_at ts i) (expression_starts c), unbarred_is_no_function (terminal_at ts i) a)
statement_starts (an_if_else a b c d e) = (ap ends_list a.is, ap is_function a.is)
statement_starts (an_if a b c d) = (ap ends_list a.is, ap is_function a.is)
statement_starts (a_do_while a b c d e) = (ap ends_list a.is, ap is_function a.is)
statement_starts (a_while a b c) = (ap ends_list a.is, ap is_function a.is)
statement_starts (a_for a b c d e f g h m) = (ap ends_list a.is, ap is_function a.is)
statement_starts (a_for_in a b c d e f g) = (ap ends_list a.is, ap is_function a.is)
statement_starts (a_for_var_in a b c d e f g h) = (ap ends_list a.is, ap is_function a.is)
statement_starts (a_continue a b) = (ap ends_list a.is, ap is_function a.is)
statement_starts (a_continue_to a b c d) = (ap ends_list a.is, ap is_function a.is)
statement_starts (a_break a b) = (ap ends_list a.is, ap is_function a.is)
statement_starts (a_break_to a b c d) = (ap ends_list a.is, ap is_function a.is)
statement_starts (a_return a b) = (ap ends_list a.is, ap is_function a.is)
statement_starts (a_return_of a b c d) = (ap ends_list a.is, ap is_function a.is)
statement_starts (a_switch a b c d e) = (ap ends_list a.is, ap is_function a.is)
statement_starts {ts} {i} (a_label a b c) =
    (identifier_is_no_end (terminal_at ts i) a.is, identifier_is_no_function (terminal_at ts i) a.is)
statement_starts (a_throw a b c d) = (ap ends_list a.is, ap is_function a.is)
statement_starts (a_try_catch a b c d) = (ap ends_list a.is, ap is_function a.is)
statement_starts (a_try_finally a b c d) = (ap ends_list a.is, ap is_function a.is)
statement_starts (a_try_both a b c d e) = (ap ends_list a.is, ap is_function a.is)
statement_starts (a_debugger a b) = (ap ends_list a.is, ap is_function a.is)

-- before the semicolon of a `for` with variables no `in` follows the first name
pub no_in_follows : {ts : List Token} {no_in : Bool} {i : ℕ} {t : Forest Span tree.decl} {j : ℕ}
    → ReadsDeclarations ts no_in i t j → At ts j semicolon → is_in (terminal_at ts (suc i)) ≡ false
no_in_follows (last_declaration (declared a b) c) h = ap is_in h.is
no_in_follows (last_declaration (initialised a b c) d) h = ap is_in b.is
no_in_follows (more_declarations (declared a b) c d) h = ap is_in c.is
no_in_follows (more_declarations (initialised a b c) d e) h = ap is_in b.is
