-- What stands first in a statement, and what follows one.
use Rattle.std.proofs.Common.{◌≡◌, ℕ, suc, ◌<◌, Bool, true, false, ◌&&◌, ◌||◌, refl, ap, sym, ◌∙◌}
use Rattle.std.proofs.Common.{List, [], ◌∷◌, arith}
use Rattle.jl_ast.specs.Tree.{Forest}
use Rattle.jl_ast.specs.Tree as tree
use Rattle.jl_text.specs.declared.span.Span.{Span}
use Rattle.jl_token.specs.declared.punct.Punct.TheVariants as puncts
use Rattle.jl_token.specs.declared.token.Token.{Token}
use Rattle.jl_token.specs.declared.token.TokenKind.{TokenKind}
use Rattle.jl_grammar.specs.declared.terminal.Terminal.{Terminal}
use Rattle.jl_grammar.specs.declared.terminal.Terminal.TheVariants as terminals
use Rattle.jl_grammar.specs.declared.word.Word.TheVariants as words
use Rattle.jl_grammar.specs.Next.{is_else, is_finally, is_identifier, is_colon, is_label, ends_list, bars_expression}
use Rattle.jl_grammar.specs.Next.{continues_at}
use Rattle.jl_grammar.specs.Reads as reads
use Rattle.jl_grammar.specs.Reads.{Expr, Stmt, Stmts, ReadsExpression, ReadsStatement, ReadsStatements, ReadsClauses}
use Rattle.jl_grammar.specs.Reads.{ReadsElements}
use Rattle.jl_grammar.specs.Tokens.{terminal_at, line_at, text_at, span}
use Rattle.jl_grammar.proofs.Directives.{one_expression, primary_alone}
use Rattle.jl_grammar.proofs.Starts.{begins_expression, expression_starts, block_starts}
use Rattle.jl_print.specs.CanonicalTokens.{begins_otherwise}
use Rattle.jl_print.proofs.Spells.{Spells, at}

-- a token that would go on with a statement before it
abbrev pub goes_on : Terminal → Bool
goes_on k = is_else k || is_finally k

pub no_else : (k : Terminal) → goes_on k ≡ false → is_else k ≡ false
no_else (terminals.Word words.Else) h = cc
no_else _ h = refl

pub no_finally : (k : Terminal) → goes_on k ≡ false → is_finally k ≡ false
no_finally (terminals.Word words.Finally) h = cc
no_finally _ h = refl

list_end_stops : (k : Terminal) → ends_list k ≡ true → goes_on k ≡ false
list_end_stops (terminals.Word words.Else) h = cc
list_end_stops (terminals.Word words.Finally) h = cc
list_end_stops _ h = refl

expression_stops : (k : Terminal) → begins_expression k ≡ true → goes_on k ≡ false
expression_stops (terminals.Word words.Else) h = cc
expression_stops (terminals.Word words.Finally) h = cc
expression_stops _ h = refl

identifier_stops : (k : Terminal) → is_identifier k ≡ true → goes_on k ≡ false
identifier_stops (terminals.Word words.Else) h = cc
identifier_stops (terminals.Word words.Finally) h = cc
identifier_stops _ h = refl

statement_begins : {ts : List Token} {i j : ℕ} {w : Stmt} → ReadsStatement ts i w j → goes_on (terminal_at ts i) ≡ false
statement_begins (reads.a_block a) = ap goes_on (block_starts a).is
statement_begins (reads.a_var a b c) = ap goes_on a.is
statement_begins (reads.an_empty a) = ap goes_on a.is
statement_begins (reads.an_expression a b c d) = expression_stops _ (expression_starts c)
statement_begins (reads.an_if_else a b c d e) = ap goes_on a.is
statement_begins (reads.an_if a b c d) = ap goes_on a.is
statement_begins (reads.a_do_while a b c d e) = ap goes_on a.is
statement_begins (reads.a_while a b c) = ap goes_on a.is
statement_begins (reads.a_for a b c d e f g h m) = ap goes_on a.is
statement_begins (reads.a_for_in a b c d e f g) = ap goes_on a.is
statement_begins (reads.a_for_var_in a b c d e f g h) = ap goes_on a.is
statement_begins (reads.a_continue a b) = ap goes_on a.is
statement_begins (reads.a_continue_to a b c d) = ap goes_on a.is
statement_begins (reads.a_break a b) = ap goes_on a.is
statement_begins (reads.a_break_to a b c d) = ap goes_on a.is
statement_begins (reads.a_return a b) = ap goes_on a.is
statement_begins (reads.a_return_of a b c d) = ap goes_on a.is
statement_begins (reads.a_switch a b c d e) = ap goes_on a.is
statement_begins (reads.a_label a b c) = identifier_stops _ a.is
statement_begins (reads.a_throw a b c d) = ap goes_on a.is
statement_begins (reads.a_try_catch a b c d) = ap goes_on a.is
statement_begins (reads.a_try_finally a b c d) = ap goes_on a.is
statement_begins (reads.a_try_both a b c d e) = ap goes_on a.is
statement_begins (reads.a_debugger a b) = ap goes_on a.is

pub statements_begin : {ts : List Token} {i j : ℕ} {ws : Stmts} → ReadsStatements ts i ws j
    → goes_on (terminal_at ts i) ≡ false
statements_begin (reads.no_statements a) = list_end_stops _ a
statements_begin (reads.more_statements a b) = statement_begins a

pub elements_begin : {ts : List Token} {i j : ℕ} {fs : Forest Span tree.func} {ws : Stmts} → ReadsElements ts i fs ws j
    → goes_on (terminal_at ts i) ≡ false
elements_begin (reads.no_elements a) = list_end_stops _ a
elements_begin (reads.a_declaration (reads.a_declared_function a b c) d) = ap goes_on a.is
elements_begin (reads.a_statement a b) = statement_begins a

-- the clauses of a `switch` begin with what ends a list of statements
pub clauses_begin : {ts : List Token} {fresh : Bool} {i j : ℕ} {cs : Forest Span tree.clause}
    → ReadsClauses ts fresh i cs j → ends_list (terminal_at ts i) ≡ true
clauses_begin (reads.no_clauses a) = ap ends_list a.is
clauses_begin (reads.a_case a b c d e) = ap ends_list a.is
clauses_begin (reads.a_default a b c d) = ap ends_list a.is

-- the line of the first of some tokens
pub first_line : (ts : List Token) {i j : ℕ} {line : Bool} (ks : List TokenKind) → Spells ts i line ks j → i < j
    → line_at ts i ≡ line
first_line ts [] s h = absurd (omega (arith, s))
first_line ts (k ∷ ks) s h = s.0.line

-- an expression that begins as one may begin an expression statement (12.4)
pub begins_so : (ts : List Token) {i j : ℕ} (line : Bool) (ks : List TokenKind) → Spells ts i line ks j → i < j
    → begins_otherwise ks ≡ false → bars_expression (terminal_at ts i) ≡ false
begins_so ts line [] s h e = absurd (omega (arith, s))
begins_so ts line (k ∷ ks) s h e = ap bars_expression (at s.0).is ∙ e

-- no label stands where an expression does
pub no_label : {ts : List Token} {i j : ℕ} {t : Expr} → ReadsExpression ts false i t j → is_colon (terminal_at ts j)
    ≡ false
    → is_label ts i ≡ false
no_label {ts} {i} {j} {t} r c = go (is_identifier (terminal_at ts i)) (is_colon (terminal_at ts (suc i))) refl refl
  where
    the_colon : (k : Terminal) → is_colon k ≡ true → k ≡ terminals.Punct puncts.Colon
    the_colon (terminals.Punct puncts.Colon) h = refl
    the_colon _ h = cc

    stops_at : (k : Terminal) → terminal_at ts (suc i) ≡ k → k ≡ terminals.Punct puncts.Colon → continues_at ts (suc i)
        ≡ false
    stops_at k e h = rw (e ∙ h) refl

    clash : true ≡ false → ⊥
    clash e = cc

    go : (a b : Bool) → is_identifier (terminal_at ts i) ≡ a → is_colon (terminal_at ts (suc i)) ≡ b → (a && b) ≡ false
    go false b h g = refl
    go true false h g = refl
    go true true h g =
        let s = stops_at (terminal_at ts (suc i)) refl (the_colon _ g) in
        let x = primary_alone ts i _ (reads.a_name (record { is = h })) s in
        let e = one_expression ts false i j (suc i) t (tree.name (text_at ts i) (span ts i (suc i))) r x in
        absurd (clash (sym g ∙ sym (ap (λ (y : Expr × ℕ). is_colon (terminal_at ts y.1)) e) ∙ c))
