-- How each statement that holds expressions or statements is read, given how these are.
use Rattle.std.proofs.Common.{◌≡◌, ℕ, suc, Bool, true, false, refl, ap, ap₂}
use Rattle.std.proofs.Common.{sym, subst, List, [], ◌∷◌, ◌++◌}
use Rattle.std.specs.Prelude.{codes}
use Rattle.jl_ast.specs.Tree.{Ident, Sort, Tree, Forest, OptionalTree, Text}
use Rattle.jl_ast.specs.Tree as tree
use Rattle.jl_text.specs.declared.span.Span.{Span}
use Rattle.jl_token.specs.declared.punct.Punct.TheVariants as puncts
use Rattle.jl_token.specs.declared.token.Token.{Token}
use Rattle.jl_grammar.specs.declared.terminal.Terminal.{Terminal}
use Rattle.jl_grammar.specs.Next.{close_paren, close_brace}
use Rattle.jl_grammar.specs.Next.{semicolon, is_comma, is_else, is_finally}
use Rattle.jl_grammar.specs.Next.{continues_left}
use Rattle.jl_grammar.specs.Reads as reads
use Rattle.jl_grammar.specs.Reads.{Expr, Exprs, Stmt, Stmts, Code, IsTarget, ReadsPrimary, ReadsUnary, ReadsLeft}
use Rattle.jl_grammar.specs.Reads.{ReadsArguments, ReadsArgumentList, ReadsItems, ReadsEntries, ReadsEntry, ReadsRest}
use Rattle.jl_grammar.specs.Reads.{ReadsBody, BeginsLeft, BeginsBinary, ReadsAssignment, ReadsDeclaration}
use Rattle.jl_grammar.specs.Reads.{ReadsDeclarations, ReadsBlock, ReadsStatement, ReadsStatements, ReadsHead}
use Rattle.jl_grammar.specs.Reads.{ReadsInit, ReadsOptional, ReadsClauses, ReadsCatch, ReadsElements, there}
use Rattle.jl_grammar.proofs.Progress.{expression_goes}
use Rattle.jl_grammar.specs.Tokens.{At, terminal_at, span, ident_at}
use Rattle.jl_print.specs.Pieces.{name, punct}
use Rattle.jl_print.specs.Pieces.{in_parens, within_braces}
use Rattle.jl_print.specs.CanonicalTokens.{tokens_of_node}
use Rattle.jl_print.specs.CanonicalTokens.{tokens_of_all}
use Rattle.jl_print.specs.CanonicalTokens.{tokens_of_optional}
use Rattle.jl_print.proofs.Fronts.{stops}
use Rattle.jl_print.proofs.Following.{goes_on, no_else, no_finally, first_line}
use Rattle.jl_print.proofs.Names.{same_name}
use Rattle.jl_print.proofs.Places.{Alone, whole}
use Rattle.jl_print.proofs.Spells.{Spells, parts, line_after, at, identifier}
use Rattle.jl_print.proofs.BackParts.{BackInit, BackOptional}
use Rattle.jl_print.proofs.BackParts.{BackStatement, BackHandler, BackClauses, statement_up_to}
use Rattle.jl_print.proofs.BackParts.{head_back, same_when, same_for, same_for_in, same_try}
use Rattle.jl_print.proofs.BackParts.{block_back}
use Rattle.jl_print.proofs.BackParts.{StatementsAlone, BackClauses}
use Rattle.jl_print.specs.WellFormed.{IsIdentifier}

-- how the parts are read where they are written
abbrev pub OptionalAlone : List Token → OptionalTree Span tree.expr → Type 0
OptionalAlone ts t =
    (k : Terminal) (i j : ℕ) (line : Bool) → Spells ts i line (tokens_of_optional t) j → At ts j k → stops k ≡ true
    → is_comma k ≡ false → BackOptional ts k i t j

abbrev pub InitAlone : List Token → Tree Span tree.init → Type 0
InitAlone ts t =
    (i j : ℕ) (line : Bool) → Spells ts i line (tokens_of_node t) j → At ts j semicolon → BackInit ts i t j

abbrev pub HandlerAlone : List Token → Tree Span tree.handler → Type 0
HandlerAlone ts t = (i j : ℕ) (line : Bool) → Spells ts i line (tokens_of_node t) j → BackHandler ts i t j

abbrev pub ClausesAlone : List Token → Forest Span tree.clause → Type 0
ClausesAlone ts cs =
    (i j : ℕ) (line : Bool) → Spells ts i line (tokens_of_all cs) j → At ts j close_brace → BackClauses ts true i cs j

abbrev pub StatementAlone : List Token → Stmt → Type 0
StatementAlone ts t =
    (i j : ℕ) (line : Bool) → Spells ts i line (tokens_of_node t) j → goes_on (terminal_at ts j) ≡ false
    → BackStatement ts i t j

pub if_back : {ts : List Token} (a : Expr) → Alone ts a → (ws : Stmts) → StatementsAlone ts ws → (s : Span)
    → StatementAlone ts (tree.if_else a ws tree.absent s)
unfolding tokens_of_node
if_back {ts} a alone ws inner s i j line h q =
    let p = parts ts (suc i) false (in_parens (tokens_of_node a)) (within_braces (tokens_of_all ws) ++ []) j h.1 in
    let r = parts ts p.middle (line_after false (in_parens (tokens_of_node a))) (within_braces (tokens_of_all ws)) [] j
    p.second in
    let x = head_back a alone (suc i) p.middle false p.first in
    let y = block_back ws inner p.middle r.middle (line_after false (in_parens (tokens_of_node a))) r.first in
    let e = subst (λ n. is_else (terminal_at ts n) ≡ false) (sym r.second) (no_else (terminal_at ts j) q) in
    statement_up_to (record {
      statement = tree.if_else x.value y.statements tree.absent (span ts i r.middle);
      same = ap₂ (λ x y. tree.if_else x y tree.absent tt) x.same y.same;
      is = reads.an_if (at h.0) x.is (reads.several y.is) e;
    }) r.second

pub if_else_back : {ts : List Token} (a : Expr) → Alone ts a → (ws : Stmts) → StatementsAlone ts ws → (us : Stmts)
    → StatementsAlone ts us → (s : Span)
    → StatementAlone ts (tree.if_else a ws (tree.present (tree.branch_of us)) s)
unfolding tokens_of_node
if_else_back {ts} a alone ws inner us other s i j line h q =
    let p = parts ts (suc i) false (in_parens (tokens_of_node a))
    (within_braces (tokens_of_all ws) ++ (name (codes "else") ∷ within_braces (tokens_of_all us))) j h.1 in
    let r = parts ts p.middle (line_after false (in_parens (tokens_of_node a))) (within_braces (tokens_of_all ws))
    (name (codes "else") ∷ within_braces (tokens_of_all us)) j p.second in
    let x = head_back a alone (suc i) p.middle false p.first in
    let y = block_back ws inner p.middle r.middle (line_after false (in_parens (tokens_of_node a))) r.first in
    let z = block_back us other (suc r.middle) j false r.second.1 in
    record {
      statement = tree.if_else x.value y.statements (tree.present (tree.branch_of z.statements)) (span ts i j);
      same = same_when x.value a y.statements ws z.statements us x.same y.same z.same;
      is = reads.an_if_else (at h.0) x.is (reads.several y.is) (at r.second.0) (reads.several z.is);
    }

pub do_while_back : {ts : List Token} (ws : Stmts) → StatementsAlone ts ws → (a : Expr) → Alone ts a → (s : Span)
    → StatementAlone ts (tree.do_while ws a s)
unfolding tokens_of_node
do_while_back {ts} ws inner a alone s i j line h q =
    let p = parts ts (suc i) false (within_braces (tokens_of_all ws))
    (name (codes "while") ∷ (in_parens (tokens_of_node a) ++ punct puncts.Semicolon ∷ [])) j h.1 in
    let r = parts ts (suc p.middle) false (in_parens (tokens_of_node a)) (punct puncts.Semicolon ∷ []) j p.second.1 in
    let x = block_back ws inner (suc i) p.middle false p.first in
    let y = head_back a alone (suc p.middle) r.middle false r.first in
    statement_up_to (record {
      statement = tree.do_while x.statements y.value (span ts i (suc r.middle));
      same = ap₂ (λ x y. tree.do_while x y tt) x.same y.same;
      is = reads.a_do_while (at h.0) (reads.several x.is) (at p.second.0) y.is (there (at r.second.0));
    }) r.second.1

pub while_back : {ts : List Token} (a : Expr) → Alone ts a → (ws : Stmts) → StatementsAlone ts ws → (s : Span)
    → StatementAlone ts (tree.while a ws s)
unfolding tokens_of_node
while_back {ts} a alone ws inner s i j line h q =
    let p = parts ts (suc i) false (in_parens (tokens_of_node a)) (within_braces (tokens_of_all ws)) j h.1 in
    let x = head_back a alone (suc i) p.middle false p.first in
    let y = block_back ws inner p.middle j (line_after false (in_parens (tokens_of_node a))) p.second in
    record {
      statement = tree.while x.value y.statements (span ts i j);
      same = ap₂ (λ x y. tree.while x y tt) x.same y.same;
      is = reads.a_while (at h.0) x.is (reads.several y.is);
    }

pub for_back : {ts : List Token} (f : Tree Span tree.init) → InitAlone ts f → (a b : OptionalTree Span tree.expr)
    → OptionalAlone ts a → OptionalAlone ts b → (ws : Stmts) → StatementsAlone ts ws → (s : Span)
    → StatementAlone ts (tree.for f a b ws s)
unfolding tokens_of_node
for_back {ts} f first a b test step ws inner s i j line h q =
    let ks = tokens_of_node f
    ++ (punct puncts.Semicolon ∷ (tokens_of_optional a ++ (punct puncts.Semicolon ∷ tokens_of_optional b))) in
    let p = parts ts (suc i) false (in_parens ks) (within_braces (tokens_of_all ws)) j h.1 in
    let r = parts ts (suc (suc i)) false ks (punct puncts.RightParen ∷ []) p.middle p.first.1 in
    let u = parts ts (suc (suc i)) false (tokens_of_node f)
    (punct puncts.Semicolon ∷ (tokens_of_optional a ++ (punct puncts.Semicolon ∷ tokens_of_optional b))) r.middle
    r.first in
    let v = parts ts (suc u.middle) true (tokens_of_optional a) (punct puncts.Semicolon ∷ tokens_of_optional b) r.middle
    u.second.1 in
    let k = at r.second.0 in
    let x = first (suc (suc i)) u.middle false u.first (at u.second.0) in
    let y = test semicolon (suc u.middle) v.middle true v.first (at v.second.0) refl refl in
    let z = step close_paren (suc v.middle) r.middle true v.second.1 k refl refl in
    let g = block_back ws inner p.middle j (line_after false (in_parens ks)) p.second in
    let o = subst (λ n. ReadsBlock ts n g.statements j) (sym r.second.1) g.is in
    record {
      statement = tree.for x.init y.optional z.optional g.statements (span ts i j);
      same = same_for x.init f y.optional a z.optional b g.statements ws x.same y.same z.same g.same;
      is = reads.a_for (at h.0) (at p.first.0) x.is (at u.second.0) y.is (at v.second.0) z.is k (reads.several o);
    }

pub for_var_in_back : {ts : List Token} (x : Ident Span) → IsIdentifier x.text → (a : Expr) → Alone ts a → (ws : Stmts)
    → StatementsAlone ts ws → (s : Span)
    → StatementAlone ts (tree.for_in true x a ws s)
unfolding tokens_of_node
for_var_in_back {ts} x free a alone ws inner s i j line h q =
    let ks = name (codes "var") ∷ name x.text ∷ name (codes "in") ∷ tokens_of_node a in
    let p = parts ts (suc i) false (in_parens ks) (within_braces (tokens_of_all ws)) j h.1 in
    let g = p.first.1.1.1.1 in
    let r = parts ts (suc (suc (suc (suc (suc i))))) false (tokens_of_node a) (punct puncts.RightParen ∷ []) p.middle
    g in
    let k = at r.second.0 in
    let y = whole a alone false (suc (suc (suc (suc (suc i))))) r.middle false r.first
    (ap stops k.is) (ap is_comma k.is) in
    let z = block_back ws inner p.middle j (line_after false (in_parens ks)) p.second in
    let o = subst (λ n. ReadsBlock ts n z.statements j) (sym r.second.1) z.is in
    record {
      statement = tree.for_in true (ident_at ts (suc (suc (suc i)))) y.tree z.statements (span ts i j);
      same = same_for_in true (ident_at ts (suc (suc (suc i)))) x y.tree a z.statements ws
          (same_name x p.first.1.1.0) y.same z.same;
      is = reads.a_for_var_in (at h.0) (at p.first.0) (at p.first.1.0) (identifier free p.first.1.1.0)
          (at p.first.1.1.1.0) y.is k (reads.several o);
    }

pub for_in_back : {ts : List Token} (x : Ident Span) → IsIdentifier x.text → (a : Expr) → Alone ts a → (ws : Stmts)
    → StatementsAlone ts ws → (s : Span)
    → StatementAlone ts (tree.for_in false x a ws s)
unfolding tokens_of_node
for_in_back {ts} x free a alone ws inner s i j line h q =
    let ks = name x.text ∷ name (codes "in") ∷ tokens_of_node a in
    let p = parts ts (suc i) false (in_parens ks) (within_braces (tokens_of_all ws)) j h.1 in
    let r = parts ts (suc (suc (suc (suc i)))) false (tokens_of_node a) (punct puncts.RightParen ∷ []) p.middle
    p.first.1.1.1 in
    let k = at r.second.0 in
    let y = whole a alone false (suc (suc (suc (suc i)))) r.middle false r.first
    (ap stops k.is) (ap is_comma k.is) in
    let z = block_back ws inner p.middle j (line_after false (in_parens ks)) p.second in
    let o = subst (λ n. ReadsBlock ts n z.statements j) (sym r.second.1) z.is in
    let m = at p.first.1.1.0 in
    record {
      statement = tree.for_in false (ident_at ts (suc (suc i))) y.tree z.statements (span ts i j);
      same = same_for_in false (ident_at ts (suc (suc i))) x y.tree a z.statements ws
          (same_name x p.first.1.0) y.same z.same;
      is = reads.a_for_in (at h.0) (at p.first.0) (reads.whole_left (reads.primary
          (reads.a_name (identifier free p.first.1.0))) (ap (continues_left true) m.is)) m y.is k (reads.several o);
    }

pub switch_back : {ts : List Token} (a : Expr) → Alone ts a → (cs : Forest Span tree.clause) → ClausesAlone ts cs
    → (s : Span)
    → StatementAlone ts (tree.switch a cs s)
unfolding tokens_of_node
switch_back {ts} a alone cs inner s i j line h q =
    let p = parts ts (suc i) false (in_parens (tokens_of_node a)) (within_braces (tokens_of_all cs)) j h.1 in
    let r = parts ts (suc p.middle) true (tokens_of_all cs) (punct puncts.RightBrace ∷ []) j p.second.1 in
    let k = at r.second.0 in
    let x = head_back a alone (suc i) p.middle false p.first in
    let y = inner (suc p.middle) r.middle true r.first k in
    statement_up_to (record {
      statement = tree.switch x.value y.clauses (span ts i (suc r.middle));
      same = ap₂ (λ x y. tree.switch x y tt) x.same y.same;
      is = reads.a_switch (at h.0) x.is (at p.second.0) y.is k;
    }) r.second.1

pub return_back : {ts : List Token} (a : Expr) → Alone ts a → (s : Span)
    → StatementAlone ts (tree.return (tree.present a) s)
unfolding tokens_of_node
return_back {ts} a alone s i j line h q =
    let p = parts ts (suc i) false (tokens_of_node a) (punct puncts.Semicolon ∷ []) j h.1 in
    let k = at p.second.0 in
    let x = whole a alone false (suc i) p.middle false p.first (ap stops k.is) (ap is_comma k.is) in
    let e = first_line ts (tokens_of_node a) p.first (expression_goes x.is) in
    statement_up_to (record {
      statement = tree.return (tree.present x.tree) (span ts i (suc p.middle));
      same = ap (λ x. tree.return (tree.present x) tt) x.same;
      is = reads.a_return_of (at h.0) e x.is (there k);
    }) p.second.1

pub throw_back : {ts : List Token} (a : Expr) → Alone ts a → (s : Span)
    → StatementAlone ts (tree.throw a s)
unfolding tokens_of_node
throw_back {ts} a alone s i j line h q =
    let p = parts ts (suc i) false (tokens_of_node a) (punct puncts.Semicolon ∷ []) j h.1 in
    let k = at p.second.0 in
    let x = whole a alone false (suc i) p.middle false p.first (ap stops k.is) (ap is_comma k.is) in
    let e = first_line ts (tokens_of_node a) p.first (expression_goes x.is) in
    statement_up_to (record {
      statement = tree.throw x.tree (span ts i (suc p.middle));
      same = ap (λ x. tree.throw x tt) x.same;
      is = reads.a_throw (at h.0) e x.is (there k);
    }) p.second.1

pub try_catch_back : {ts : List Token} (ws : Stmts) → StatementsAlone ts ws → (c : Tree Span tree.handler)
    → HandlerAlone ts c → (s : Span)
    → StatementAlone ts (tree.try ws (tree.present c) tree.absent s)
unfolding tokens_of_node
try_catch_back {ts} ws inner c handler s i j line h q =
    let p = parts ts (suc i) false (within_braces (tokens_of_all ws)) (tokens_of_node c ++ []) j h.1 in
    let m = line_after false (within_braces (tokens_of_all ws)) in
    let r = parts ts p.middle m (tokens_of_node c) [] j p.second in
    let x = block_back ws inner (suc i) p.middle false p.first in
    let y = handler p.middle r.middle m r.first in
    let e = subst (λ n. is_finally (terminal_at ts n) ≡ false) (sym r.second) (no_finally (terminal_at ts j) q) in
    statement_up_to (record {
      statement = tree.try x.statements (tree.present y.handler) tree.absent (span ts i r.middle);
      same = ap₂ (λ x y. tree.try x (tree.present y) tree.absent tt) x.same y.same;
      is = reads.a_try_catch (at h.0) x.is y.is e;
    }) r.second

pub try_finally_back : {ts : List Token} (ws : Stmts) → StatementsAlone ts ws → (us : Stmts) → StatementsAlone ts us
    → (s : Span)
    → StatementAlone ts (tree.try ws tree.absent (tree.present (tree.branch_of us)) s)
unfolding tokens_of_node
try_finally_back {ts} ws inner us other s i j line h q =
    let p = parts ts (suc i) false (within_braces (tokens_of_all ws))
    (name (codes "finally") ∷ within_braces (tokens_of_all us)) j h.1 in
    let x = block_back ws inner (suc i) p.middle false p.first in
    let y = block_back us other (suc p.middle) j false p.second.1 in
    record {
      statement = tree.try x.statements tree.absent (tree.present (tree.branch_of y.statements)) (span ts i j);
      same = ap₂ (λ x y. tree.try x tree.absent (tree.present (tree.branch_of y)) tt) x.same y.same;
      is = reads.a_try_finally (at h.0) x.is (at p.second.0) y.is;
    }

pub try_both_back : {ts : List Token} (ws : Stmts) → StatementsAlone ts ws → (c : Tree Span tree.handler)
    → HandlerAlone ts c → (us : Stmts) → StatementsAlone ts us → (s : Span)
    → StatementAlone ts (tree.try ws (tree.present c) (tree.present (tree.branch_of us)) s)
unfolding tokens_of_node
try_both_back {ts} ws inner c handler us other s i j line h q =
    let p = parts ts (suc i) false (within_braces (tokens_of_all ws))
    (tokens_of_node c ++ (name (codes "finally") ∷ within_braces (tokens_of_all us))) j h.1 in
    let m = line_after false (within_braces (tokens_of_all ws)) in
    let r = parts ts p.middle m (tokens_of_node c) (name (codes "finally") ∷ within_braces (tokens_of_all us)) j
    p.second in
    let x = block_back ws inner (suc i) p.middle false p.first in
    let y = handler p.middle r.middle m r.first in
    let z = block_back us other (suc r.middle) j false r.second.1 in
    record {
      statement = tree.try x.statements (tree.present y.handler) (tree.present (tree.branch_of z.statements))
          (span ts i j);
      same = same_try x.statements ws y.handler c z.statements us x.same y.same z.same;
      is = reads.a_try_both (at h.0) x.is y.is (at r.second.0) z.is;
    }
