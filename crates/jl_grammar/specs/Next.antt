-- Tests on one token, mostly on the one after what is read.
use Rattle.std.specs.Prelude.{ℕ, suc, Bool, true, false, not, ◌&&◌, ◌||◌, Option, Some, None, List}
use Rattle.jl_ast.specs.Tree.{Tree, expr, target, name, dot, index, to_name, to_dot, to_index}
use Rattle.jl_token.specs.declared.punct.Punct.TheVariants as puncts
use Rattle.jl_token.specs.declared.token.Token.{Token}
use Rattle.jl_grammar.specs.declared.terminal.Terminal.{Terminal}
use Rattle.jl_grammar.specs.declared.terminal.Terminal.TheVariants as terminals
use Rattle.jl_grammar.specs.declared.word.Word.{Word}
use Rattle.jl_grammar.specs.declared.word.Word.TheVariants as words
use Rattle.jl_grammar.specs.Operators.{continues, assigns, updates}
use Rattle.jl_grammar.specs.Tokens.{terminal_at, line_at}

abbrev pub open_paren : Terminal
open_paren = terminals.Punct puncts.LeftParen

abbrev pub close_paren : Terminal
close_paren = terminals.Punct puncts.RightParen

abbrev pub open_bracket : Terminal
open_bracket = terminals.Punct puncts.LeftBracket

abbrev pub close_bracket : Terminal
close_bracket = terminals.Punct puncts.RightBracket

abbrev pub open_brace : Terminal
open_brace = terminals.Punct puncts.LeftBrace

abbrev pub close_brace : Terminal
close_brace = terminals.Punct puncts.RightBrace

abbrev pub dot_terminal : Terminal
dot_terminal = terminals.Punct puncts.Dot

abbrev pub semicolon : Terminal
semicolon = terminals.Punct puncts.Semicolon

abbrev pub comma : Terminal
comma = terminals.Punct puncts.Comma

abbrev pub colon : Terminal
colon = terminals.Punct puncts.Colon

abbrev pub question : Terminal
question = terminals.Punct puncts.Question

abbrev pub equals : Terminal
equals = terminals.Punct puncts.Assign

abbrev pub keyword : Word → Terminal
keyword w = terminals.Word w

-- an identifier (7.6)
abbrev pub is_identifier : Terminal → Bool
is_identifier terminals.Identifier = true
is_identifier terminals.Get = true
is_identifier terminals.Set = true
is_identifier _ = false

-- an identifier name (7.6), which may be a reserved word
abbrev pub is_name : Terminal → Bool
is_name terminals.Identifier = true
is_name terminals.Get = true
is_name terminals.Set = true
is_name (terminals.Word w) = true
is_name terminals.EscapedWord = true
is_name _ = false

-- the key of a property (11.1.5)
abbrev pub is_key : Terminal → Bool
is_key terminals.Identifier = true
is_key terminals.Get = true
is_key terminals.Set = true
is_key (terminals.Word w) = true
is_key terminals.EscapedWord = true
is_key terminals.Number = true
is_key terminals.Str = true
is_key _ = false

abbrev pub is_string : Terminal → Bool
is_string terminals.Str = true
is_string _ = false

abbrev pub is_open_paren : Terminal → Bool
is_open_paren (terminals.Punct puncts.LeftParen) = true
is_open_paren _ = false

abbrev pub is_open_brace : Terminal → Bool
is_open_brace (terminals.Punct puncts.LeftBrace) = true
is_open_brace _ = false

abbrev pub is_semicolon : Terminal → Bool
is_semicolon (terminals.Punct puncts.Semicolon) = true
is_semicolon _ = false

abbrev pub is_comma : Terminal → Bool
is_comma (terminals.Punct puncts.Comma) = true
is_comma _ = false

abbrev pub is_colon : Terminal → Bool
is_colon (terminals.Punct puncts.Colon) = true
is_colon _ = false

abbrev pub is_question : Terminal → Bool
is_question (terminals.Punct puncts.Question) = true
is_question _ = false

abbrev pub is_equals : Terminal → Bool
is_equals (terminals.Punct puncts.Assign) = true
is_equals _ = false

abbrev pub is_else : Terminal → Bool
is_else (terminals.Word words.Else) = true
is_else _ = false

abbrev pub is_finally : Terminal → Bool
is_finally (terminals.Word words.Finally) = true
is_finally _ = false

-- what an expression statement does not begin with (12.4)
abbrev pub bars_expression : Terminal → Bool
bars_expression (terminals.Punct puncts.LeftBrace) = true
bars_expression (terminals.Word words.Function) = true
bars_expression _ = false

-- a semicolon is inserted before these (7.9.1)
abbrev pub ends_statement : Terminal → Bool
ends_statement (terminals.Punct puncts.RightBrace) = true
ends_statement terminals.End = true
ends_statement _ = false

-- a list of statements ends before these (12.1, 12.11, clause 14)
abbrev pub ends_list : Terminal → Bool
ends_list (terminals.Punct puncts.RightBrace) = true
ends_list terminals.End = true
ends_list (terminals.Word words.Case) = true
ends_list (terminals.Word words.Default) = true
ends_list _ = false

-- the tokens that continue a member expression, and with calls a left-hand side expression (11.2)
abbrev pub continues_left : Bool → Terminal → Bool
continues_left calls (terminals.Punct puncts.Dot) = true
continues_left calls (terminals.Punct puncts.LeftBracket) = true
continues_left calls (terminals.Punct puncts.LeftParen) = calls
continues_left calls _ = false

-- the i-th token is a `++` or `--` after an operand, and so on the line of what is before it (7.9.1)
abbrev pub updates_at : List Token → ℕ → Bool
updates_at ts i = updates (terminal_at ts i) && not (line_at ts i)

-- the i-th token continues an expression that is one token
abbrev pub continues_at : List Token → ℕ → Bool
continues_at ts i =
    let k = terminal_at ts i in
    continues_left true k || updates_at ts i || continues false 10 k || is_question k || assigns k || is_comma k

-- a directive (14.1): an expression statement that is a string alone
abbrev pub is_directive : List Token → ℕ → Bool
is_directive ts i = is_string (terminal_at ts i) && not (continues_at ts (suc i))

-- a label (12.12)
abbrev pub is_label : List Token → ℕ → Bool
is_label ts i = is_identifier (terminal_at ts i) && is_colon (terminal_at ts (suc i))

-- an expression as what is assigned to: a name or a member (11.13)
abbrev pub target_of : {S : Type 0} → Tree S expr → Option (Tree S target)
target_of (name t s) = Some (to_name (record { text = t; at = s }))
target_of (dot a t s) = Some (to_dot a t s)
target_of (index a b s) = Some (to_index a b s)
target_of _ = None
