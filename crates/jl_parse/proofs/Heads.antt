-- A `for` is what stands in its brackets and then its body.
use Rattle.std.proofs.Common.{◌≡◌, ◌∙◌, ℕ, suc, Bool, true, false, ap, refl, sym}
use Rattle.std.specs.Prelude.{List, Option, Some, None, if◌then◌else◌}
use Rattle.jl_text.specs.declared.span.Span.{Span}
use Rattle.jl_token.specs.declared.token.Token.{Token}
use Rattle.jl_ast.specs.Tree.{OptionalTree, Tree}
use Rattle.jl_ast.specs.Tree as tree
use Rattle.jl_grammar.specs.Next.{is_semicolon}
use Rattle.jl_grammar.specs.Reader.{◌>>=◌, Deeper, Read, succeed, for_from, is_close_paren, node, optional_at, sub_at}
use Rattle.jl_grammar.specs.Reads.{Stmt, Stmts}
use Rattle.jl_grammar.specs.Tokens.{span, terminal_at}
use Rattle.jl_parse.specs.inner.Steps.{for_head_from, optional_until, test_and_step_at}

-- what comes after a test, after the last test, after two answers, and after one that is read up to its end

after_test : {A B : Type 0} (b : Bool) (o : Option B) (p : Option A) (f : A → Option B) → o ≡ (p >>= f)
    → (if b then o else None) ≡ ((if b then p else None) >>= f)
after_test true o p f e = e
after_test false o p f e = refl

after_last : {A B : Type 0} (b : Bool) (x : A) (f : A → Option B)
    → (if b then f x else None) ≡ ((if b then Some x else None) >>= f)
after_last true x f = refl
after_last false x f = refl

after_two : {A B C : Type 0} (r : Option A) (f : A → Option B) (g : B → Option C)
    → ((r >>= f) >>= g) ≡ (r >>= λ x. f x >>= g)
after_two None f g = refl
after_two (Some x) f g = refl

after_alike : {A B : Type 0} (r : Option A) (f g : A → Option B) → ((x : A) → f x ≡ g x) → (r >>= f) ≡ (r >>= g)
after_alike None f g e = refl
after_alike (Some x) f g e = e x

after_end : {A B : Type 0} (r : Read A) (ends : ℕ → Bool) (f : A × ℕ → Option B)
    → (r >>= λ x. if ends x.1 then f (x.0, suc x.1) else None)
    ≡ ((r >>= λ x. if ends x.1 then Some (x.0, suc x.1) else None) >>= f)
after_end None ends f = refl
after_end (Some x) ends f = after_last (ends x.1) (x.0, suc x.1) f

module _ (ts : List Token) (d : Deeper) (i : ℕ) (a : Tree Span tree.init × ℕ) where
  -- the body of a `for` of which the head is read, and the statement
  abbrev with_body : (Tree Span tree.init × (OptionalTree Span tree.expr × OptionalTree Span tree.expr)) × ℕ → Read Stmt
  with_body h = sub_at ts d h.1 >>= λ x.
      node (d.room i) (tree.for h.0.0 h.0.1.0 h.0.1.1 x.0 (span ts i x.1)) x.1 succeed

  -- the same after the test and the step
  abbrev with_first : (OptionalTree Span tree.expr × OptionalTree Span tree.expr) × ℕ → Read Stmt
  with_first p = with_body ((a.0, p.0), p.1)

  -- the step after the test
  abbrev with_step : OptionalTree Span tree.expr × ℕ → Read (OptionalTree Span tree.expr × OptionalTree Span tree.expr)
  with_step b = optional_until ts d is_close_paren b.1 >>= λ c. Some ((b.0, c.0), c.1)

  -- what `for_from` reads from the step on
  abbrev from_step : OptionalTree Span tree.expr × ℕ → Read Stmt
  from_step b = optional_at ts d is_close_paren b.1 >>= λ c.
      if is_close_paren (terminal_at ts c.1) then with_first ((b.0, c.0), suc c.1) else None

  step_first : (b : OptionalTree Span tree.expr × ℕ) → from_step b ≡ (with_step b >>= with_first)
  unfolding optional_until
  step_first b =
      after_end (optional_at ts d is_close_paren b.1) (λ k. is_close_paren (terminal_at ts k))
      (λ c. with_first ((b.0, c.0), c.1))
      ∙ sym (after_two (optional_until ts d is_close_paren b.1) (λ c. Some ((b.0, c.0), c.1)) with_first)

  test_first : (optional_at ts d is_semicolon (suc a.1) >>= λ b.
      if is_semicolon (terminal_at ts b.1) then from_step (b.0, suc b.1) else None)
      ≡ (test_and_step_at ts d (suc a.1) >>= with_first)
  unfolding optional_until test_and_step_at
  test_first =
      after_end (optional_at ts d is_semicolon (suc a.1)) (λ k. is_semicolon (terminal_at ts k)) from_step
      ∙ after_alike (optional_until ts d is_semicolon (suc a.1)) from_step (λ b. with_step b >>= with_first) step_first
      ∙ sym (after_two (optional_until ts d is_semicolon (suc a.1)) with_step with_first)

  head_first : for_from ts d i a ≡ (for_head_from ts d a >>= with_body)
  unfolding for_from for_head_from
  head_first =
      after_test (is_semicolon (terminal_at ts a.1)) _ _ with_body
      (test_first ∙ sym (after_two (test_and_step_at ts d (suc a.1)) (λ b. Some ((a.0, b.0), b.1)) with_body))

  pub for_no_head : for_head_from ts d a ≡ None → for_from ts d i a ≡ None
  for_no_head e = head_first ∙ ap (λ o. o >>= with_body) e

  pub for_no_body : (x : Tree Span tree.init) (t u : OptionalTree Span tree.expr) (k : ℕ)
      → for_head_from ts d a ≡ Some ((x, (t, u)), k) → sub_at ts d k ≡ None → for_from ts d i a ≡ None
  for_no_body x t u k e f =
      head_first ∙ ap (λ o. o >>= with_body) e
      ∙ ap (λ o. o >>= λ (w : Stmts × ℕ). node (d.room i) (tree.for x t u w.0 (span ts i w.1)) w.1 succeed) f

  pub for_whole : (x : Tree Span tree.init) (t u : OptionalTree Span tree.expr) (k : ℕ) (ws : Stmts) (j : ℕ)
      → for_head_from ts d a ≡ Some ((x, (t, u)), k) → sub_at ts d k ≡ Some (ws, j)
      → for_from ts d i a ≡ node (d.room i) (tree.for x t u ws (span ts i j)) j succeed
  for_whole x t u k ws j e f =
      head_first ∙ ap (λ o. o >>= with_body) e
      ∙ ap (λ o. o >>= λ (w : Stmts × ℕ). node (d.room i) (tree.for x t u w.0 (span ts i w.1)) w.1 succeed) f

pub ruleset for_steps = (for_no_head, for_no_body, for_whole)
