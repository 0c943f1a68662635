-- A directive is a statement that is one string token.
use Rattle.std.proofs.Common.{◌≡◌, ℕ, zero, suc, ◌+◌, ◌-◌, ◌≤◌, ◌<◌, ◌⊎◌, inl, inr, Bool, true}
use Rattle.std.proofs.Common.{false, not}
use Rattle.std.proofs.Common.{◌||◌, ap, refl, sym, ◌∙◌, subst, List, length, arith}
use Rattle.std.proofs.lemmas.Bool.{cases_lt}
use Rattle.std.proofs.lemmas.Option.{same_Some}
use Rattle.jl_ast.specs.Height.{height}
use Rattle.jl_ast.specs.Tree.{Text}
use Rattle.jl_ast.specs.Tree as tree
use Rattle.jl_text.specs.declared.span.Span.{Span}
use Rattle.jl_token.specs.declared.token.Token.{Token}
use Rattle.jl_token.specs.declared.punct.Punct.TheVariants as puncts
use Rattle.jl_grammar.specs.declared.terminal.Terminal.{Terminal}
use Rattle.jl_grammar.specs.declared.terminal.Terminal.TheVariants as terminals
use Rattle.jl_grammar.specs.Brackets.{bracket, open_brackets}
use Rattle.jl_grammar.specs.Laws.{IsAlone, DirectivesAreAlone}
use Rattle.jl_grammar.specs.Next.{continues_at, continues_left, is_comma, is_directive, is_identifier, is_question}
use Rattle.jl_grammar.specs.Next.{is_string, updates_at}
use Rattle.jl_grammar.specs.Operators.{InfixOperator, both, either, infix_node, plain, assigns, continues}
use Rattle.jl_grammar.specs.Operators.{infix_operator, infix_precedence_of}
use Rattle.jl_grammar.specs.Reads.{Expr, Stmt, EndsAt, ReadsPrimary, BeginsBinary, ReadsExpression, ReadsStatement}
use Rattle.jl_grammar.specs.Reads.{primary}
use Rattle.jl_grammar.specs.Reads.{whole_left, left, a_postfix, postfix}
use Rattle.jl_grammar.specs.Reads.{a_prefix, an_update, operand, tighter, an_infix_operator, whole_binary, operands}
use Rattle.jl_grammar.specs.Reads.{a_conditional, conditional, an_assignment, assignment, a_comma, whole_expression}
use Rattle.jl_grammar.specs.Reads.{a_block, a_var, an_empty, an_expression, an_if_else, an_if, a_do_while, a_while}
use Rattle.jl_grammar.specs.Reads.{a_for, a_for_in, a_for_var_in, a_continue, a_continue_to, a_break, a_break_to}
use Rattle.jl_grammar.specs.Reads.{a_return, a_return_of, a_switch, a_label, a_throw, a_try_catch, a_try_finally}
use Rattle.jl_grammar.specs.Reads.{a_try_both, a_debugger, a_string}
use Rattle.jl_grammar.specs.Tokens.{At, terminal_at, span, text_at}
use Rattle.jl_grammar.proofs.Complete.{expression_complete}
use Rattle.jl_grammar.proofs.Holds.{both_true, and_true, not_true, string_terminal}
use Rattle.jl_grammar.proofs.One.{opened_past}
use Rattle.jl_grammar.proofs.SoundExpressions.{lift_to, tighter_stops}
use Rattle.jl_grammar.proofs.Starts.{block_starts}

-- no more brackets are open than tokens have been
few_open : (ts : List Token) (i : ℕ) → open_brackets ts i ≤ i
unfolding open_brackets
few_open ts zero = omega arith
few_open ts (suc i) = let h = few_open ts i in let g = one_more (terminal_at ts i) (open_brackets ts i) in omega arith
  where
    one_more : (k : Terminal) (n : ℕ) → bracket k n ≤ suc n
    one_more (terminals.Punct puncts.LeftParen) n = omega arith
    one_more _ n = omega arith

bounded : (ts : List Token) (i : ℕ) → open_brackets ts i ≤ length ts
bounded ts i = by_place (cases_lt i (length ts))
  where
    by_place : (i < length ts) ⊎ (length ts ≤ i) → open_brackets ts i ≤ length ts
    by_place (inl h) = let g = few_open ts i in omega arith
    by_place (inr h) =
        let e : (i - length ts) + length ts ≡ i = omega arith in
        let q = sym (opened_past ts (i - length ts)) ∙ ap (open_brackets ts) e in
        let g = few_open ts (length ts) in omega arith

abbrev Same : Expr × ℕ → Expr × ℕ → Type 0
Same x y = x ≡ y

-- from a place one expression is read at most
pub one_expression : (ts : List Token) (no_in : Bool) (i j k : ℕ) (t u : Expr) → ReadsExpression ts no_in i t j
    → ReadsExpression ts no_in i u k → Same (t, j) (u, k)
one_expression ts no_in i j k t u r s =
    let f = height t + height u + length ts in
    same_Some _ _ (sym (expression_complete ts (length ts) (bounded ts) r f (omega arith))
    ∙ expression_complete ts (length ts) (bounded ts) s f (omega arith))

neither : (a b : Bool) → (a || b) ≡ false → (a ≡ false) × (b ≡ false)
neither true b h = cc
neither false b h = (refl, h)

or_false : (a b : Bool) → a ≡ false → b ≡ false → (a || b) ≡ false
or_false true b h g = cc
or_false false b h g = g

clash : {ts : List Token} {i : ℕ} {k : Terminal} → At ts i k → At ts i terminals.Str → is_string k ≡ false → ⊥
clash {k = k} a s h = differ (sym h ∙ ap is_string (sym a.is ∙ s.is))
  where
    differ : false ≡ true → ⊥
    differ e = cc

-- an expression statement
record Expresses (ts : List Token) (i : ℕ) (w : Stmt) (j : ℕ) : Type 0 where
  value : Expr
  end : ℕ
  reads : ReadsExpression ts false i value end
  ends : EndsAt ts end j
  is : w ≡ tree.expression value (span ts i j)

expressed : {ts : List Token} {i j : ℕ} {w : Stmt} → ReadsStatement ts i w j → At ts i terminals.Str
    → Expresses ts i w j
expressed (a_block a) s = absurd (clash (block_starts a) s refl)
expressed (a_var a b c) s = absurd (clash a s refl)
expressed (an_empty a) s = absurd (clash a s refl)
expressed (an_expression {j = k} {t = t} a b c d) s = record { value = t; end = k; reads = c; ends = d; is = refl }
expressed (an_if_else a b c d e) s = absurd (clash a s refl)
expressed (an_if a b c d) s = absurd (clash a s refl)
expressed (a_do_while a b c d e) s = absurd (clash a s refl)
expressed (a_while a b c) s = absurd (clash a s refl)
expressed (a_for a b c d e f g h m) s = absurd (clash a s refl)
expressed (a_for_in a b c d e f g) s = absurd (clash a s refl)
expressed (a_for_var_in a b c d e f g h) s = absurd (clash a s refl)
expressed (a_continue a b) s = absurd (clash a s refl)
expressed (a_continue_to a b c d) s = absurd (clash a s refl)
expressed (a_break a b) s = absurd (clash a s refl)
expressed (a_break_to a b c d) s = absurd (clash a s refl)
expressed (a_return a b) s = absurd (clash a s refl)
expressed (a_return_of a b c d) s = absurd (clash a s refl)
expressed (a_switch a b c d e) s = absurd (clash a s refl)
expressed (a_label a b c) s = absurd (differ (sym a.is ∙ ap is_identifier s.is))
  where
    differ : true ≡ false → ⊥
    differ e = cc
expressed (a_throw a b c d) s = absurd (clash a s refl)
expressed (a_try_catch a b c d) s = absurd (clash a s refl)
expressed (a_try_finally a b c d) s = absurd (clash a s refl)
expressed (a_try_both a b c d e) s = absurd (clash a s refl)
expressed (a_debugger a b) s = absurd (clash a s refl)

abbrev is_text : Expr → Bool
is_text (tree.string x s) = true
is_text _ = false

joined_is_no_text : (op : InfixOperator) (a b : Expr) (s : Span) → is_text (infix_node op a b s) ≡ true → ⊥
joined_is_no_text (plain op) a b s h = cc
joined_is_no_text both a b s h = cc
joined_is_no_text either a b s h = cc

-- nothing goes on with a string that is an operand alone
text_stops : {ts : List Token} {no_in : Bool} {l i j : ℕ} {t : Expr} → BeginsBinary ts no_in l i t j
    → is_text t ≡ true
    → (continues_left true (terminal_at ts j) ≡ false) × (updates_at ts j ≡ false)
text_stops (operand (postfix (left (whole_left a b) c))) h = (b, c)
text_stops (operand (postfix (a_postfix a b c d))) h = cc
text_stops (operand (a_prefix a b)) h = cc
text_stops (operand (an_update a b c)) h = cc
text_stops (tighter (whole_binary a b)) h = text_stops a h
text_stops (an_infix_operator {a = a} {b = b} {op = op} p q r s) h = absurd (joined_is_no_text op a b _ h)

alone_stops : {ts : List Token} {i j : ℕ} {t : Expr} → ReadsExpression ts false i t j → is_text t ≡ true
    → continues_at ts j ≡ false
alone_stops (whole_expression (assignment (conditional (operands (whole_binary a b) c) d)) e) h =
    let l = text_stops a h in
    or_false _ _ (or_false _ _ (or_false _ _ (or_false _ _ (or_false _ _ l.0 l.1) b) c) d) e
alone_stops (whole_expression (assignment (conditional (a_conditional a b c d e) f)) g) h = cc
alone_stops (whole_expression (assignment (an_assignment a b c d)) e) h = cc
alone_stops (whole_expression (a_comma a b c) d) h = cc

-- a primary expression that is one token, before a token that goes on with nothing
pub primary_alone : (ts : List Token) (i : ℕ) (t : Expr) → ReadsPrimary ts i t (suc i)
    → continues_at ts (suc i) ≡ false → ReadsExpression ts false i t (suc i)
primary_alone ts i t s h =
    let k = terminal_at ts (suc i) in
    let p = neither _ (is_comma k) h in
    let q = neither _ (assigns k) p.0 in
    let r = neither _ (is_question k) q.0 in
    let u = neither _ (continues false 10 k) r.0 in
    let v = neither (continues_left true k) (updates_at ts (suc i)) u.0 in
    let c = tighter_stops (infix_precedence_of (infix_operator false k)) 9 10 (omega arith) u.1 in
    let o : BeginsBinary ts false zero i t (suc i) = operand (postfix (left (whole_left (primary s) v.0) v.1)) in
    let l = lift_to ts false 0 10 i t (suc i) (omega arith) o c in
    whole_expression (assignment (conditional (operands (whole_binary l u.1) r.1) q.1)) p.1

pub directives_are_alone : DirectivesAreAlone
directives_are_alone ts i w j r = (to, back)
  where
    to : is_directive ts i ≡ true → IsAlone ts i w j
    to h =
        let b = both_true (is_string (terminal_at ts i)) (not (continues_at ts (suc i))) h in
        let s : At ts i terminals.Str = record { is = string_terminal _ b.0 } in
        let e = primary_alone ts i _ (a_string s) (not_true _ b.1) in
        let x = expressed r s in
        let q = one_expression ts false i x.end (suc i) x.value
        (tree.string (text_at ts i) (span ts i (suc i))) x.reads e in
        record {
          string = s;
          expression = e;
          end = subst (λ (p : Expr × ℕ). EndsAt ts p.1 j) q x.ends;
          is = x.is ∙ ap (λ (p : Expr × ℕ). tree.expression p.0 (span ts i j)) q;
        }

    back : IsAlone ts i w j → is_directive ts i ≡ true
    back a = and_true _ _ (ap is_string a.string.is) (ap not (alone_stops a.expression refl))
