-- How many brackets are open after one token.
use Rattle.std.proofs.Common.{◌≡◌, ℕ, suc, Bool, true, false, ap, refl, List, Option, Some}
use Rattle.jl_ast.specs.declared.ops.BinOp.{BinOp}
use Rattle.jl_ast.specs.declared.ops.UnOp.{UnOp}
use Rattle.jl_token.specs.declared.punct.Punct.TheVariants as puncts
use Rattle.jl_token.specs.declared.token.Token.{Token}
use Rattle.jl_grammar.specs.declared.terminal.Terminal.{Terminal}
use Rattle.jl_grammar.specs.declared.terminal.Terminal.TheVariants as terminals
use Rattle.jl_grammar.specs.Brackets.{bracket, open_brackets}
use Rattle.jl_grammar.specs.Next.{is_identifier, is_name, is_key}
use Rattle.jl_grammar.specs.Operators.{InfixOperator, infix_operator, assign_operator, unary_operator, update_operator}
use Rattle.jl_grammar.specs.Reads.{JoinsAt, AssignsAt, PrefixAt, UpdateAt}
use Rattle.jl_grammar.specs.Tokens.{At, Is, terminal_at}

-- after a token that is such a one
pub after : {ts : List Token} {i : ℕ} {k : Terminal} → At ts i k → open_brackets ts (suc i)
    ≡ bracket k (open_brackets ts i)
unfolding open_brackets
after {ts} {i} e = ap (λ k. bracket k (open_brackets ts i)) e.is

identifier_keeps : (k : Terminal) (n : ℕ) → is_identifier k ≡ true → bracket k n ≡ n
identifier_keeps (terminals.Punct p) n h = cc
identifier_keeps _ n h = refl

pub after_identifier : {ts : List Token} {i : ℕ} → Is is_identifier ts i → open_brackets ts (suc i) ≡ open_brackets ts i
unfolding open_brackets
after_identifier {ts} {i} e = identifier_keeps (terminal_at ts i) (open_brackets ts i) e.is

name_keeps : (k : Terminal) (n : ℕ) → is_name k ≡ true → bracket k n ≡ n
name_keeps (terminals.Punct p) n h = cc
name_keeps _ n h = refl

pub after_name : {ts : List Token} {i : ℕ} → Is is_name ts i → open_brackets ts (suc i) ≡ open_brackets ts i
unfolding open_brackets
after_name {ts} {i} e = name_keeps (terminal_at ts i) (open_brackets ts i) e.is

key_keeps : (k : Terminal) (n : ℕ) → is_key k ≡ true → bracket k n ≡ n
key_keeps (terminals.Punct p) n h = cc
key_keeps _ n h = refl

pub after_key : {ts : List Token} {i : ℕ} → Is is_key ts i → open_brackets ts (suc i) ≡ open_brackets ts i
unfolding open_brackets
after_key {ts} {i} e = key_keeps (terminal_at ts i) (open_brackets ts i) e.is

infix_operator_keeps : (no_in : Bool) (k : Terminal) (n : ℕ) (op : InfixOperator) → infix_operator no_in k ≡ Some op
    → bracket k n ≡ n
infix_operator_keeps true (terminals.Punct puncts.LeftParen) n op h = cc
infix_operator_keeps true (terminals.Punct puncts.LeftBracket) n op h = cc
infix_operator_keeps true (terminals.Punct puncts.LeftBrace) n op h = cc
infix_operator_keeps true (terminals.Punct puncts.RightParen) n op h = cc
infix_operator_keeps true (terminals.Punct puncts.RightBracket) n op h = cc
infix_operator_keeps true (terminals.Punct puncts.RightBrace) n op h = cc
infix_operator_keeps false (terminals.Punct puncts.LeftParen) n op h = cc
infix_operator_keeps false (terminals.Punct puncts.LeftBracket) n op h = cc
infix_operator_keeps false (terminals.Punct puncts.LeftBrace) n op h = cc
infix_operator_keeps false (terminals.Punct puncts.RightParen) n op h = cc
infix_operator_keeps false (terminals.Punct puncts.RightBracket) n op h = cc
infix_operator_keeps false (terminals.Punct puncts.RightBrace) n op h = cc
infix_operator_keeps _ _ n op h = refl

pub after_infix_operator : {ts : List Token} {no_in : Bool} {i : ℕ} {op : InfixOperator} → JoinsAt ts no_in i op
    → open_brackets ts (suc i) ≡ open_brackets ts i
unfolding open_brackets
after_infix_operator {ts} {no_in} {i} {op} e =
    infix_operator_keeps no_in (terminal_at ts i) (open_brackets ts i) op e.is

assign_keeps : (k : Terminal) (n : ℕ) (op : Option BinOp) → assign_operator k ≡ Some op → bracket k n ≡ n
assign_keeps (terminals.Punct puncts.LeftParen) n op h = cc
assign_keeps (terminals.Punct puncts.LeftBracket) n op h = cc
assign_keeps (terminals.Punct puncts.LeftBrace) n op h = cc
assign_keeps (terminals.Punct puncts.RightParen) n op h = cc
assign_keeps (terminals.Punct puncts.RightBracket) n op h = cc
assign_keeps (terminals.Punct puncts.RightBrace) n op h = cc
assign_keeps _ n op h = refl

pub after_assign : {ts : List Token} {i : ℕ} {op : Option BinOp} → AssignsAt ts i op → open_brackets ts (suc i)
    ≡ open_brackets ts i
unfolding open_brackets
after_assign {ts} {i} {op} e = assign_keeps (terminal_at ts i) (open_brackets ts i) op e.is

prefix_keeps : (k : Terminal) (n : ℕ) (op : UnOp) → unary_operator k ≡ Some op → bracket k n ≡ n
prefix_keeps (terminals.Punct puncts.LeftParen) n op h = cc
prefix_keeps (terminals.Punct puncts.LeftBracket) n op h = cc
prefix_keeps (terminals.Punct puncts.LeftBrace) n op h = cc
prefix_keeps (terminals.Punct puncts.RightParen) n op h = cc
prefix_keeps (terminals.Punct puncts.RightBracket) n op h = cc
prefix_keeps (terminals.Punct puncts.RightBrace) n op h = cc
prefix_keeps _ n op h = refl

pub after_prefix : {ts : List Token} {i : ℕ} {op : UnOp} → PrefixAt ts i op → open_brackets ts (suc i)
    ≡ open_brackets ts i
unfolding open_brackets
after_prefix {ts} {i} {op} e = prefix_keeps (terminal_at ts i) (open_brackets ts i) op e.is

update_keeps : (k : Terminal) (n : ℕ) (up : Bool) → update_operator k ≡ Some up → bracket k n ≡ n
update_keeps (terminals.Punct puncts.LeftParen) n up h = cc
update_keeps (terminals.Punct puncts.LeftBracket) n up h = cc
update_keeps (terminals.Punct puncts.LeftBrace) n up h = cc
update_keeps (terminals.Punct puncts.RightParen) n up h = cc
update_keeps (terminals.Punct puncts.RightBracket) n up h = cc
update_keeps (terminals.Punct puncts.RightBrace) n up h = cc
update_keeps _ n up h = refl

pub after_update : {ts : List Token} {i : ℕ} {up : Bool} → UpdateAt ts i up → open_brackets ts (suc i)
    ≡ open_brackets ts i
unfolding open_brackets
after_update {ts} {i} {up} e = update_keeps (terminal_at ts i) (open_brackets ts i) up e.is
