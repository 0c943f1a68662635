-- Fronts of expressions by their rank, and the tokens that don't go on with them.
use Rattle.std.proofs.Common.{◌≡◌, ℕ, zero, suc, ◌+◌, ◌-◌, ◌≤◌, ◌<◌, ◌⊎◌, inl, inr, Bool, true, false, ◌&&◌, not}
use Rattle.std.proofs.Common.{refl, ap}
use Rattle.std.proofs.Common.{sym, subst, List, arith}
use Rattle.std.specs.Prelude.{nat_le}
use Rattle.std.proofs.lemmas.Bool.Decides.{leb_tells}
use Rattle.std.proofs.lemmas.Bool.{cases_lt}
use Rattle.jl_token.specs.declared.punct.Punct.TheVariants as puncts
use Rattle.jl_token.specs.declared.token.Token.{Token}
use Rattle.jl_grammar.specs.declared.terminal.Terminal.{Terminal}
use Rattle.jl_grammar.specs.declared.terminal.Terminal.TheVariants as terminals
use Rattle.jl_grammar.specs.Operators.{infix_operator, infix_precedence_of, continues, assigns, updates}
use Rattle.jl_grammar.specs.Next.{continues_left, is_question, updates_at}
use Rattle.jl_grammar.specs.Reads.{Expr, BeginsLeft, whole_left, ReadsPostfix, left, postfix, BeginsBinary}
use Rattle.jl_grammar.specs.Reads.{operand, tighter, ReadsBinary, whole_binary, operands}
use Rattle.jl_grammar.specs.Reads.{ReadsAssignment, conditional, BeginsExpression, assignment}
use Rattle.jl_grammar.specs.Tokens.{terminal_at, line_at}
use Rattle.jl_grammar.proofs.SoundExpressions.{tighter_stops}

-- from i to j the tokens read as a prefix of an expression of this rank
pub data Front (ts : List Token) (no_in : Bool) (i : ℕ) (t : Expr) (j : ℕ) : ℕ → Type 0 where
  of_left : BeginsLeft ts true i t j → Front ts no_in i t j 0
  of_postfix : ReadsPostfix ts i t j → Front ts no_in i t j 1
  of_binary : {l : ℕ} → l ≤ 10 → BeginsBinary ts no_in l i t j → Front ts no_in i t j (suc (suc l))
  of_assignment : ReadsAssignment ts no_in i t j → Front ts no_in i t j 13
  of_expression : BeginsExpression ts no_in i t j → Front ts no_in i t j 14

module _ {ts : List Token} {no_in : Bool} {i : ℕ} {t : Expr} {j : ℕ} where
  pub to_left : Front ts no_in i t j 0 → BeginsLeft ts true i t j
  to_left (of_left f) = f

  pub to_binary : (l : ℕ) → l ≤ 10 → Front ts no_in i t j (suc (suc l)) → BeginsBinary ts no_in l i t j
  to_binary l h (of_binary g f) = f
  to_binary l h (of_assignment f) = absurd (omega arith)
  to_binary l h (of_expression f) = absurd (omega arith)

  pub to_assignment : Front ts no_in i t j 13 → ReadsAssignment ts no_in i t j
  to_assignment (of_binary h f) = absurd (omega arith)
  to_assignment (of_assignment f) = f

  pub to_expression : Front ts no_in i t j 14 → BeginsExpression ts no_in i t j
  to_expression (of_binary h f) = absurd (omega arith)
  to_expression (of_expression f) = f

-- The j-th token does not go on with an expression of rank r.
pub record Quiet (no_in : Bool) (r : ℕ) (ts : List Token) (j : ℕ) : Type 0 where
  pub left : 1 ≤ r → continues_left true (terminal_at ts j) ≡ false
  pub update : 1 ≤ r → updates_at ts j ≡ false
  pub operator : continues no_in (r - 3) (terminal_at ts j) ≡ false
  pub question : 13 ≤ r → is_question (terminal_at ts j) ≡ false
  pub assigns : 13 ≤ r → assigns (terminal_at ts j) ≡ false

no_tighter : (s : ℕ) → (nat_le 1 s && nat_le s 0) ≡ false
no_tighter s = grind (arith, leb_tells)

pub quiet_zero : (no_in : Bool) (ts : List Token) (j : ℕ) → Quiet no_in 0 ts j
quiet_zero no_in ts j = record {
  left = λ h. absurd (omega arith);
  update = λ h. absurd (omega arith);
  operator = no_tighter (infix_precedence_of (infix_operator no_in (terminal_at ts j)));
  question = λ h. absurd (omega arith);
  assigns = λ h. absurd (omega arith);
}

pub quiet_less : {no_in : Bool} {ts : List Token} {j : ℕ} (r s : ℕ) → r ≤ s → Quiet no_in s ts j → Quiet no_in r ts j
quiet_less {no_in} {ts} {j} r s h q = record {
  left = λ g. q.left (omega arith);
  update = λ g. q.update (omega arith);
  operator = tighter_stops (infix_precedence_of (infix_operator no_in (terminal_at ts j))) (r - 3) (s - 3) (omega arith)
      q.operator;
  question = λ g. q.question (omega arith);
  assigns = λ g. q.assigns (omega arith);
}

-- the tokens that end an expression, whatever it is
abbrev pub stops : Terminal → Bool
stops (terminals.Punct puncts.RightParen) = true
stops (terminals.Punct puncts.RightBracket) = true
stops (terminals.Punct puncts.RightBrace) = true
stops (terminals.Punct puncts.Comma) = true
stops (terminals.Punct puncts.Colon) = true
stops (terminals.Punct puncts.Semicolon) = true
stops terminals.End = true
stops _ = false

-- what such a token is not
record Stopping (no_in : Bool) (k : Terminal) : Type 0 where
  left : continues_left true k ≡ false
  update : updates k ≡ false
  loose : infix_precedence_of (infix_operator no_in k) ≡ 0
  question : is_question k ≡ false
  assigns : assigns k ≡ false

stopping : (no_in : Bool) (k : Terminal) → stops k ≡ true → Stopping no_in k
stopping no_in (terminals.Punct puncts.RightParen) h =
    record { left = refl; update = refl; loose = refl; question = refl; assigns = refl }
stopping no_in (terminals.Punct puncts.RightBracket) h =
    record { left = refl; update = refl; loose = refl; question = refl; assigns = refl }
stopping no_in (terminals.Punct puncts.RightBrace) h =
    record { left = refl; update = refl; loose = refl; question = refl; assigns = refl }
stopping no_in (terminals.Punct puncts.Comma) h =
    record { left = refl; update = refl; loose = refl; question = refl; assigns = refl }
stopping no_in (terminals.Punct puncts.Colon) h =
    record { left = refl; update = refl; loose = refl; question = refl; assigns = refl }
stopping no_in (terminals.Punct puncts.Semicolon) h =
    record { left = refl; update = refl; loose = refl; question = refl; assigns = refl }
stopping no_in terminals.End h = record { left = refl; update = refl; loose = refl; question = refl; assigns = refl }
stopping no_in _ h = cc

none_loose : (s x : ℕ) → s ≡ 0 → (nat_le 1 s && nat_le s x) ≡ false
none_loose s x h = grind (arith, leb_tells)

pub quiet_stop : {ts : List Token} {j : ℕ} (no_in : Bool) (r : ℕ) → stops (terminal_at ts j) ≡ true → Quiet no_in r ts j
quiet_stop {ts} {j} no_in r h =
    let p = stopping no_in (terminal_at ts j) h in
    record {
      left = λ g. p.left;
      update = λ g. ap (λ b. b && not (line_at ts j)) p.update;
      operator = none_loose (infix_precedence_of (infix_operator no_in (terminal_at ts j))) (r - 3) p.loose;
      question = λ g. p.question;
      assigns = λ g. p.assigns;
    }

looser : (ts : List Token) (no_in : Bool) (i : ℕ) (t : Expr) (j r : ℕ) → r ≤ 13 → Front ts no_in i t j r
    → Quiet no_in (suc r) ts j → Front ts no_in i t j (suc r)
looser ts no_in i t j r h (of_left f) q =
    of_postfix (left (whole_left f (q.left (omega arith))) (q.update (omega arith)))
looser ts no_in i t j r h (of_postfix f) q = of_binary (omega arith) (operand (postfix f))
looser ts no_in i t j r h (of_binary {l = l} g f) q = go (cases_lt l 10)
  where
    same : suc (suc (suc l)) - 3 ≡ l
    same = omega arith

    whole : ReadsBinary ts no_in l i t j
    whole = whole_binary f (subst (λ n. continues no_in n (terminal_at ts j) ≡ false) same q.operator)

    go : (l < 10) ⊎ (10 ≤ l) → Front ts no_in i t j (suc (suc (suc l)))
    go (inl p) = of_binary (omega arith) (tighter whole)
    go (inr p) = let e : l ≡ 10 = omega arith in
        subst (λ n. Front ts no_in i t j (suc (suc (suc n)))) (sym e)
        (of_assignment (conditional (operands
        (subst (λ n. ReadsBinary ts no_in n i t j) e whole) (q.question (omega arith))) (q.assigns (omega arith))))
looser ts no_in i t j r h (of_assignment f) q = of_expression (assignment f)
looser ts no_in i t j r h (of_expression f) q = absurd (omega arith)

loosest : (ts : List Token) (no_in : Bool) (i : ℕ) (t : Expr) (j n r : ℕ) → n + r ≤ 14 → Front ts no_in i t j r
    → Quiet no_in (n + r) ts j → Front ts no_in i t j (n + r)
loosest ts no_in i t j zero r h f q = subst (λ x. Front ts no_in i t j x) (omega arith) f
loosest ts no_in i t j (suc n) r h f q =
    let e : suc n + r ≡ suc (n + r) = omega arith in
    let p : Quiet no_in (suc (n + r)) ts j = subst (λ x. Quiet no_in x ts j) e q in
    subst (λ x. Front ts no_in i t j x) (sym e) (looser ts no_in i t j (n + r) (omega arith)
    (loosest ts no_in i t j n r (omega arith) f (quiet_less (n + r) (suc (n + r)) (omega arith) p)) p)

-- a prefix is also a looser one, where nothing goes on with that
pub as_loose : {ts : List Token} {no_in : Bool} {i : ℕ} {t : Expr} {j : ℕ} (r s : ℕ) → r ≤ s → s ≤ 14
    → Front ts no_in i t j r → Quiet no_in s ts j → Front ts no_in i t j s
as_loose {ts} {no_in} {i} {t} {j} r s h g f q =
    let e : (s - r) + r ≡ s = omega arith in
    subst (λ x. Front ts no_in i t j x) e (loosest ts no_in i t j (s - r) r (omega arith) f
    (subst (λ x. Quiet no_in x ts j) (sym e) q))
