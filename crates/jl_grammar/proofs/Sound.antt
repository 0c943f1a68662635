-- What the reader reads is in the grammar.
use Rattle.std.proofs.Common.{◌≡◌, ℕ, zero, suc, Bool, true, false, not, ◌&&◌, refl, ap, ◌∙◌, sym, subst, length}
use Rattle.std.specs.Prelude.{List, Option, Some, None}
use Rattle.jl_token.specs.declared.punct.Punct.TheVariants as puncts
use Rattle.jl_grammar.specs.declared.terminal.Terminal.TheVariants as terminals
use Rattle.jl_grammar.specs.declared.word.Word.TheVariants as words
use Rattle.jl_ast.specs.Tree.{Ident, Tree, Forest, OptionalTree}
use Rattle.jl_ast.specs.Tree as tree
use Rattle.jl_text.specs.declared.span.Span.{Span}
use Rattle.jl_token.specs.declared.token.Token.{Token}
use Rattle.jl_grammar.specs.declared.terminal.Terminal.{Terminal}
use Rattle.jl_grammar.specs.Reads.{Expr, Stmts, EndsAt, ReadsLeft, ReadsExpression, ReadsStatement, a_block, a_var}
use Rattle.jl_grammar.specs.Reads.{an_empty, an_expression, an_if_else, an_if, a_do_while, a_while, a_for, a_for_in}
use Rattle.jl_grammar.specs.Reads.{a_for_var_in, a_continue, a_continue_to, a_break, a_break_to, a_return}
use Rattle.jl_grammar.specs.Reads.{a_return_of, a_switch, a_label, a_throw, a_try_catch, a_try_finally, a_try_both}
use Rattle.jl_grammar.specs.Reads.{a_debugger, ReadsSub, several, alone, ReadsHead, a_head, ReadsDeclaration}
use Rattle.jl_grammar.specs.Reads.{declared, initialised, ReadsDeclarations, last_declaration, more_declarations}
use Rattle.jl_grammar.specs.Reads.{ReadsInit, no_init, an_init, init_vars, ReadsOptional, no_expression}
use Rattle.jl_grammar.specs.Reads.{one_expression, ReadsClauses, no_clauses, a_case, a_default, ReadsCatch, a_catch}
use Rattle.jl_grammar.specs.Next.{open_paren, close_paren, semicolon, keyword, is_identifier, is_open_paren}
use Rattle.jl_grammar.specs.Next.{is_open_brace, is_semicolon, is_comma, is_colon, is_equals, is_else, is_finally}
use Rattle.jl_grammar.specs.Next.{ends_statement, bars_expression, is_label, target_of}
use Rattle.jl_grammar.specs.Reader.{is_close_paren, is_close_brace, is_while, is_in, is_var, is_case, is_default}
use Rattle.jl_grammar.specs.Reader.{is_catch, ends_at, label_at, then_close_paren, head_at, sub_at, declaration_at}
use Rattle.jl_grammar.specs.Reader.{declarations_from, var_at, express_at, else_from, if_at, do_at, while_at}
use Rattle.jl_grammar.specs.Reader.{optional_at, for_from, for_in_from, for_var_at, for_expression_at, for_at}
use Rattle.jl_grammar.specs.Reader.{continue_at, break_at, return_by, return_at, throw_at, clauses_from, switch_at}
use Rattle.jl_grammar.specs.Reader.{catch_at, finally_from, try_at, named_at, statement_by, statement_at}
use Rattle.jl_grammar.specs.ReaderLevels.{deeper}
use Rattle.jl_grammar.specs.Reader.{Deeper}
use Rattle.jl_grammar.specs.Tokens.{At, terminal_at, line_at, span}
use Rattle.jl_grammar.proofs.Holds.{Holds, nothing, just, after, weaken, test, when_true, both_true}
use Rattle.jl_grammar.proofs.Holds.{close_paren_terminal, close_brace_terminal, open_paren_terminal}
use Rattle.jl_grammar.proofs.Holds.{open_brace_terminal}
use Rattle.jl_grammar.proofs.Holds.{semicolon_terminal, comma_terminal, colon_terminal, equals_terminal}
use Rattle.jl_grammar.proofs.Holds.{else_terminal, finally_terminal}
use Rattle.jl_grammar.proofs.Holds.{not_true, while_terminal, in_terminal, var_terminal, case_terminal}
use Rattle.jl_grammar.proofs.Holds.{default_terminal, catch_terminal}
use Rattle.jl_grammar.proofs.SoundExpressions.{fits, left_of_expression, named, Sound, no_line, ends_sound}
use Rattle.jl_grammar.proofs.SoundExpressions.{statements_sound, block_sound, rest_sound, left_sound, unary_sound}
use Rattle.jl_grammar.proofs.SoundExpressions.{binary_sound, assignment_sound, expression_sound}

module _ (ts : List Token) (d : Deeper) (sound : Sound ts d) where
  head_sound : (i : ℕ) → Holds (head_at ts d i) (λ x. ReadsHead ts i x.0 x.1)
  unfolding head_at then_close_paren
  head_sound i = when_true (is_open_paren (terminal_at ts i)) _
      (λ h. after (then_close_paren ts d) _ (sound.expression false (suc i)) (λ x r.
      when_true (is_close_paren (terminal_at ts x.1)) _
      (λ g. just (a_head (record { is = open_paren_terminal _ h }) r (record { is = close_paren_terminal _ g })))))

  sub_sound : (i : ℕ) → Holds (sub_at ts d i) (λ x. ReadsSub ts i x.0 x.1)
  unfolding sub_at
  sub_sound i = test (is_open_brace (terminal_at ts i)) _ _
      (λ h. weaken _ (block_sound ts d sound i) (λ x r. several r))
      (λ h. after _ _ (sound.statement i) (λ x r. just (alone h r)))

  declaration_sound : (no_in : Bool) (i : ℕ)
      → Holds (declaration_at ts d no_in i) (λ x. ReadsDeclaration ts no_in i x.0 x.1)
  unfolding declaration_at
  declaration_sound no_in i = when_true (is_identifier (terminal_at ts i)) _
      (λ h. test (is_equals (terminal_at ts (suc i))) _ _
      (λ g. after _ _ (sound.assignment no_in (suc (suc i)))
      (λ x r. just (initialised (record { is = h }) (record { is = equals_terminal _ g }) r)))
      (λ g. just (declared (record { is = h }) g)))

  declarations_sound : (no_in : Bool) (n i : ℕ)
      → Holds (declarations_from ts d no_in n i) (λ x. ReadsDeclarations ts no_in i x.0 x.1)
  unfolding declarations_from
  declarations_sound no_in zero i = nothing
  declarations_sound no_in (suc n) i = after _ _ (declaration_sound no_in i)
      (λ x r. test (is_comma (terminal_at ts x.1)) _ _
      (λ h. after _ _ (declarations_sound no_in n (suc x.1))
      (λ y q. just (more_declarations r (record { is = comma_terminal _ h }) q)))
      (λ h. just (last_declaration r h)))

  var_sound : (i : ℕ) → At ts i (keyword words.Var) → Holds (var_at ts d i) (λ x. ReadsStatement ts i x.0 x.1)
  unfolding var_at
  var_sound i e = after _ _ (declarations_sound false (length ts) (suc i))
      (λ x r. after _ _ (ends_sound ts x.1) (λ k f. fits _ _ _ _ (just (a_var e r f))))

  express_sound : (i : ℕ) → bars_expression (terminal_at ts i) ≡ false → is_label ts i ≡ false
      → Holds (express_at ts d i) (λ x. ReadsStatement ts i x.0 x.1)
  unfolding express_at
  express_sound i h l = after _ _ (sound.expression false i)
      (λ x r. after _ _ (ends_sound ts x.1) (λ k f. fits _ _ _ _ (just (an_expression h l r f))))

  if_sound : (i : ℕ) → At ts i (keyword words.If) → Holds (if_at ts d i) (λ x. ReadsStatement ts i x.0 x.1)
  unfolding if_at else_from
  if_sound i e = after _ _ (head_sound (suc i))
      (λ t r. after (else_from ts d i t.0) _ (sub_sound t.1) (λ x q. test (is_else (terminal_at ts x.1)) _ _
      (λ h. after _ _ (sub_sound (suc x.1))
      (λ y p. fits _ _ _ _ (just (an_if_else e r q (record { is = else_terminal _ h }) p))))
      (λ h. fits _ _ _ _ (just (an_if e r q h)))))

  do_sound : (i : ℕ) → At ts i (keyword words.Do) → Holds (do_at ts d i) (λ x. ReadsStatement ts i x.0 x.1)
  unfolding do_at
  do_sound i e = after _ _ (sub_sound (suc i))
      (λ x r. when_true (is_while (terminal_at ts x.1)) _ (λ h. after _ _ (head_sound (suc x.1)) (λ t q.
      after _ _ (ends_sound ts t.1)
      (λ k f. fits _ _ _ _ (just (a_do_while e r (record { is = while_terminal _ h }) q f))))))

  while_sound : (i : ℕ) → At ts i (keyword words.While) → Holds (while_at ts d i) (λ x. ReadsStatement ts i x.0 x.1)
  unfolding while_at
  while_sound i e = after _ _ (head_sound (suc i))
      (λ t r. after _ _ (sub_sound t.1) (λ x q. fits _ _ _ _ (just (a_while e r q))))

  optional_sound : (ends : Terminal → Bool) (k : Terminal) → ((s : Terminal) → ends s ≡ true → s ≡ k) → (i : ℕ)
      → Holds (optional_at ts d ends i) (λ x. ReadsOptional ts k i x.0 x.1)
  unfolding optional_at
  optional_sound ends k f i = test (ends (terminal_at ts i)) _ _ (λ h. just (no_expression (record { is = f _ h })))
      (λ h. after _ _ (sound.expression false i) (λ x r. just (one_expression r)))

  for_from_sound : (i : ℕ) (a : Tree Span tree.init) (j : ℕ) → At ts i (keyword words.For) → At ts (suc i) open_paren
      → ReadsInit ts (suc (suc i)) a j → Holds (for_from ts d i (a, j)) (λ x. ReadsStatement ts i x.0 x.1)
  unfolding for_from
  for_from_sound i a j e f r = when_true (is_semicolon (terminal_at ts j)) _
      (λ h. after _ _ (optional_sound is_semicolon semicolon semicolon_terminal (suc j)) (λ b p.
      when_true (is_semicolon (terminal_at ts b.1)) _
      (λ g. after _ _ (optional_sound is_close_paren close_paren close_paren_terminal (suc b.1)) (λ c q.
      when_true (is_close_paren (terminal_at ts c.1)) _ (λ k. after _ _ (sub_sound (suc c.1)) (λ x s.
      fits _ _ _ _ (just (a_for e f r (record { is = semicolon_terminal _ h }) p
      (record { is = semicolon_terminal _ g }) q
      (record { is = close_paren_terminal _ k }) s))))))))

  for_in_from_sound : (i : ℕ) (is_var : Bool) (x : Ident Span) (j : ℕ)
      → ((t : Expr) (k : ℕ) (ws : Stmts) (m : ℕ) → ReadsExpression ts false j t k → At ts k close_paren
      → ReadsSub ts (suc k) ws m → ReadsStatement ts i (tree.for_in is_var x t ws (span ts i m)) m)
      → Holds (for_in_from ts d i is_var x j) (λ x. ReadsStatement ts i x.0 x.1)
  unfolding for_in_from
  for_in_from_sound i is_var x j make = after _ _ (sound.expression false j)
      (λ t r. when_true (is_close_paren (terminal_at ts t.1)) _ (λ h.
      after _ _ (sub_sound (suc t.1)) (λ w q. fits _ _ _ _ (just
      (make t.0 t.1 w.0 w.1 r (record { is = close_paren_terminal _ h }) q)))))

  for_var_sound : (i : ℕ) → At ts i (keyword words.For) → At ts (suc i) open_paren
      → At ts (suc (suc i)) (keyword words.Var) → Holds (for_var_at ts d i) (λ x. ReadsStatement ts i x.0 x.1)
  unfolding for_var_at
  for_var_sound i e f g = test (is_identifier (terminal_at ts (suc (suc (suc i)))) && is_in
      (terminal_at ts (suc (suc (suc (suc i)))))) _ _
      (λ h. let b = both_true (is_identifier (terminal_at ts (suc (suc (suc i)))))
      (is_in (terminal_at ts (suc (suc (suc (suc i)))))) h in
      for_in_from_sound i true _ _ (λ t k ws m r c q.
      a_for_var_in e f g (record { is = b.0 }) (record { is = in_terminal _ b.1 }) r c q))
      (λ h. after _ _ (declarations_sound true (length ts) (suc (suc (suc i))))
      (λ x r. for_from_sound i (tree.init_var x.0) x.1 e f (init_vars g r)))

  for_expression_sound : (i : ℕ) → At ts i (keyword words.For) → At ts (suc i) open_paren
      → Holds (for_expression_at ts d i) (λ x. ReadsStatement ts i x.0 x.1)
  unfolding for_expression_at
  for_expression_sound i e f = after _ _ (sound.expression true (suc (suc i)))
      (λ x r. test (is_in (terminal_at ts x.1)) _ _
      (λ h. after _ _ (named x.0) (λ n q. for_in_from_sound i false n (suc x.1) (λ t k ws m p c s.
      a_for_in e f (subst (λ (u : Expr). ReadsLeft ts true (suc (suc i)) u x.1) q.is
      (left_of_expression r (ap (λ (u : Expr). target_of u) q.is))) (record { is = in_terminal _ h }) p c s)))
      (λ h. for_from_sound i (tree.init_expression x.0) x.1 e f (an_init r)))

  for_sound : (i : ℕ) → At ts i (keyword words.For) → Holds (for_at ts d i) (λ x. ReadsStatement ts i x.0 x.1)
  unfolding for_at
  for_sound i e = when_true (is_open_paren (terminal_at ts (suc i))) _
      (λ h. test (is_semicolon (terminal_at ts (suc (suc i)))) _ _
      (λ g. for_from_sound i tree.nothing (suc (suc i)) e (record { is = open_paren_terminal _ h })
      (no_init (record { is = semicolon_terminal _ g })))
      (λ g. test (is_var (terminal_at ts (suc (suc i)))) _ _
      (λ k. for_var_sound i e (record { is = open_paren_terminal _ h }) (record { is = var_terminal _ k }))
      (λ k. for_expression_sound i e (record { is = open_paren_terminal _ h }))))

  continue_sound : (i : ℕ) → At ts i (keyword words.Continue)
      → Holds (continue_at ts d i) (λ x. ReadsStatement ts i x.0 x.1)
  unfolding continue_at label_at
  continue_sound i e = after {P = λ (x : Option (Ident Span) × ℕ).
      ReadsStatement ts i (tree.continue x.0 (span ts i x.1)) x.1} _ _
      (test (is_identifier (terminal_at ts (suc i)) && not (line_at ts (suc i))) _ _
      (λ h. let b = both_true (is_identifier (terminal_at ts (suc i))) (not (line_at ts (suc i))) h in
      after _ _ (ends_sound ts (suc (suc i))) (λ k f.
      just (a_continue_to e (record { is = b.0 }) (not_true _ b.1) f)))
      (λ h. after _ _ (ends_sound ts (suc i)) (λ k f. just (a_continue e f)))) (λ x r. just r)

  break_sound : (i : ℕ) → At ts i (keyword words.Break) → Holds (break_at ts d i) (λ x. ReadsStatement ts i x.0 x.1)
  unfolding break_at label_at
  break_sound i e = after {P = λ (x : Option (Ident Span) × ℕ).
      ReadsStatement ts i (tree.break x.0 (span ts i x.1)) x.1} _ _
      (test (is_identifier (terminal_at ts (suc i)) && not (line_at ts (suc i))) _ _
      (λ h. let b = both_true (is_identifier (terminal_at ts (suc i))) (not (line_at ts (suc i))) h in
      after _ _ (ends_sound ts (suc (suc i))) (λ k f. just (a_break_to e (record { is = b.0 }) (not_true _ b.1) f)))
      (λ h. after _ _ (ends_sound ts (suc i)) (λ k f. just (a_break e f)))) (λ x r. just r)

  return_by_sound : (i : ℕ) (o : Option ℕ) → ends_at ts (suc i) ≡ o → Holds o (λ k. EndsAt ts (suc i) k)
      → At ts i (keyword words.Return) → Holds (return_by ts d i o) (λ x. ReadsStatement ts i x.0 x.1)
  unfolding return_by ends_at
  return_by_sound i (Some k) q h e = just (a_return e h.has)
  return_by_sound i None q h e = after _ _ (sound.expression false (suc i))
      (λ x r. after _ _ (ends_sound ts x.1) (λ k f.
      fits _ _ _ _ (just (a_return_of e
      (no_line (is_semicolon (terminal_at ts (suc i))) (ends_statement (terminal_at ts (suc i)))
      (line_at ts (suc i)) (suc (suc i)) (suc i) q) r f))))

  return_sound : (i : ℕ) → At ts i (keyword words.Return)
      → Holds (return_at ts d i) (λ x. ReadsStatement ts i x.0 x.1)
  unfolding return_at
  return_sound i e = return_by_sound i (ends_at ts (suc i)) refl (ends_sound ts (suc i)) e

  throw_sound : (i : ℕ) → At ts i (keyword words.Throw) → Holds (throw_at ts d i) (λ x. ReadsStatement ts i x.0 x.1)
  unfolding throw_at
  throw_sound i e = test (line_at ts (suc i)) _ _ (λ h. nothing)
      (λ h. after _ _ (sound.expression false (suc i))
      (λ x r. after _ _ (ends_sound ts x.1) (λ k f. fits _ _ _ _ (just (a_throw e h r f)))))

  clauses_sound : (n i : ℕ) (fresh : Bool)
      → Holds (clauses_from ts d n fresh i) (λ x. ReadsClauses ts fresh i x.0 x.1)
  unfolding clauses_from
  clauses_sound zero i fresh = when_true (is_close_brace (terminal_at ts i)) _
      (λ h. just (no_clauses (record { is = close_brace_terminal _ h })))
  clauses_sound (suc n) i fresh = test (is_close_brace (terminal_at ts i)) _ _
      (λ h. just (no_clauses (record { is = close_brace_terminal _ h }))) (λ h.
      test (is_case (terminal_at ts i)) _ _
      (λ g. after _ _ (sound.expression false (suc i))
      (λ t r. when_true (is_colon (terminal_at ts t.1)) _
      (λ k. after _ _ (statements_sound ts d sound (length ts) (suc t.1)) (λ x q.
      after _ _ (clauses_sound n x.1 fresh) (λ y p.
      just (a_case (record { is = case_terminal _ g }) r (record { is = colon_terminal _ k }) q p))))))
      (λ g. when_true (is_default (terminal_at ts i) && (fresh && is_colon (terminal_at ts (suc i)))) _ (λ k.
      let b = both_true (is_default (terminal_at ts i)) (fresh && is_colon (terminal_at ts (suc i))) k in
      let c = both_true fresh (is_colon (terminal_at ts (suc i))) b.1 in
      after _ _ (statements_sound ts d sound (length ts) (suc (suc i)))
      (λ x r. after _ _ (clauses_sound n x.1 false) (λ y q.
      just (subst (λ f. ReadsClauses ts f i (tree.more (tree.case tree.absent x.0) y.0) y.1) (sym c.0)
      (a_default (record { is = default_terminal _ b.0 }) (record { is = colon_terminal _ c.1 }) r q)))))))

  switch_sound : (i : ℕ) → At ts i (keyword words.Switch)
      → Holds (switch_at ts d i) (λ x. ReadsStatement ts i x.0 x.1)
  unfolding switch_at
  switch_sound i e = after _ _ (head_sound (suc i))
      (λ t r. when_true (is_open_brace (terminal_at ts t.1)) _
      (λ h. after _ _ (clauses_sound (length ts) (suc t.1) true) (λ c q.
      when_true (is_close_brace (terminal_at ts c.1)) _
      (λ g. fits _ _ _ _ (just
      (a_switch e r (record { is = open_brace_terminal _ h }) q (record { is = close_brace_terminal _ g })))))))

  catch_sound : (i : ℕ) → At ts i (keyword words.Catch) → Holds (catch_at ts d i) (λ x. ReadsCatch ts i x.0 x.1)
  unfolding catch_at
  catch_sound i e = when_true (is_open_paren (terminal_at ts (suc i)) &&
      (is_identifier (terminal_at ts (suc (suc i))) && is_close_paren (terminal_at ts (suc (suc (suc i)))))) _ (λ h.
      let b = both_true (is_open_paren (terminal_at ts (suc i)))
      (is_identifier (terminal_at ts (suc (suc i))) && is_close_paren (terminal_at ts (suc (suc (suc i))))) h in
      let c = both_true (is_identifier (terminal_at ts (suc (suc i))))
      (is_close_paren (terminal_at ts (suc (suc (suc i))))) b.1 in
      after _ _ (block_sound ts d sound (suc (suc (suc (suc i)))))
      (λ x r. just (a_catch e (record { is = open_paren_terminal _ b.0 }) (record { is = c.0 })
      (record { is = close_paren_terminal _ c.1 }) r)))

  try_sound : (i : ℕ) → At ts i (keyword words.Try) → Holds (try_at ts d i) (λ x. ReadsStatement ts i x.0 x.1)
  unfolding try_at finally_from
  try_sound i e = after _ _ (block_sound ts d sound (suc i)) (λ x r. test (is_catch (terminal_at ts x.1)) _ _
      (λ h. after (finally_from ts d i x.0) _ (catch_sound x.1 (record { is = catch_terminal _ h }))
      (λ y q. test (is_finally (terminal_at ts y.1)) _ _
      (λ g. after _ _ (block_sound ts d sound (suc y.1))
      (λ u p. fits _ _ _ _ (just (a_try_both e r q (record { is = finally_terminal _ g }) p))))
      (λ g. fits _ _ _ _ (just (a_try_catch e r q g)))))
      (λ h. when_true (is_finally (terminal_at ts x.1)) _
      (λ g. after _ _ (block_sound ts d sound (suc x.1))
      (λ u p. fits _ _ _ _ (just (a_try_finally e r (record { is = finally_terminal _ g }) p))))))

  named_sound : (i : ℕ) → is_identifier (terminal_at ts i) ≡ true → bars_expression (terminal_at ts i) ≡ false
      → Holds (named_at ts d i) (λ x. ReadsStatement ts i x.0 x.1)
  unfolding named_at
  named_sound i e b = test (is_colon (terminal_at ts (suc i))) _ _
      (λ h. after _ _ (sound.statement (suc (suc i)))
      (λ x r. fits _ _ _ _ (just (a_label (record { is = e }) (record { is = colon_terminal _ h }) r))))
      (λ h. express_sound i b (ap (λ x. x && is_colon (terminal_at ts (suc i))) e ∙ h))

  statement_by_sound : (i : ℕ) (k : Terminal) → terminal_at ts i ≡ k
      → Holds (statement_by ts d i k) (λ x. ReadsStatement ts i x.0 x.1)
  unfolding statement_by
  statement_by_sound i (terminals.Punct puncts.LeftBrace) e =
      after _ _ (block_sound ts d sound i) (λ x r. fits _ _ _ _ (just (a_block r)))
  statement_by_sound i (terminals.Word words.Var) e = var_sound i (record { is = e })
  statement_by_sound i (terminals.Punct puncts.Semicolon) e = just (an_empty (record { is = e }))
  statement_by_sound i (terminals.Word words.If) e = if_sound i (record { is = e })
  statement_by_sound i (terminals.Word words.Do) e = do_sound i (record { is = e })
  statement_by_sound i (terminals.Word words.While) e = while_sound i (record { is = e })
  statement_by_sound i (terminals.Word words.For) e = for_sound i (record { is = e })
  statement_by_sound i (terminals.Word words.Continue) e = continue_sound i (record { is = e })
  statement_by_sound i (terminals.Word words.Break) e = break_sound i (record { is = e })
  statement_by_sound i (terminals.Word words.Return) e = return_sound i (record { is = e })
  statement_by_sound i (terminals.Word words.Switch) e = switch_sound i (record { is = e })
  statement_by_sound i (terminals.Word words.Throw) e = throw_sound i (record { is = e })
  statement_by_sound i (terminals.Word words.Try) e = try_sound i (record { is = e })
  statement_by_sound i (terminals.Word words.Debugger) e =
      after _ _ (ends_sound ts (suc i)) (λ k f. just (a_debugger (record { is = e }) f))
  statement_by_sound i (terminals.Word words.Function) e = nothing
  statement_by_sound i terminals.Identifier e = named_sound i (ap is_identifier e) (ap bars_expression e)
  statement_by_sound i terminals.Get e = named_sound i (ap is_identifier e) (ap bars_expression e)
  statement_by_sound i terminals.Set e = named_sound i (ap is_identifier e) (ap bars_expression e)
  statement_by_sound i _ e = express_sound i (ap bars_expression e)
      (ap (λ x. is_identifier x && is_colon (terminal_at ts (suc i))) e)

  statement_sound : (i : ℕ) → Holds (statement_at ts d i) (λ x. ReadsStatement ts i x.0 x.1)
  unfolding statement_at
  statement_sound i = statement_by_sound i (terminal_at ts i) refl

-- whatever the number of levels
pub deeper_sound : (ts : List Token) (b f : ℕ) → Sound ts (deeper ts b f)
unfolding deeper
deeper_sound ts b zero = record {
  expression = λ n i. nothing;
  assignment = λ n i. nothing;
  unary = λ i. nothing;
  binary = λ n m i. nothing;
  member = λ i. nothing;
  statement = λ i. nothing;
  rest = λ i. nothing;
}
deeper_sound ts b (suc f) =
    let s = deeper_sound ts b f in
    record {
      expression = λ n i. when_true _ _ (λ h. expression_sound ts (deeper ts b f) s n f i);
      assignment = λ n i. when_true _ _ (λ h. assignment_sound ts (deeper ts b f) s n f i);
      unary = λ i. when_true _ _ (λ h. unary_sound ts (deeper ts b f) s f i);
      binary = λ n m i. when_true _ _ (λ h. binary_sound ts (deeper ts b f) s n f m i);
      member = λ i. when_true _ _ (λ h. left_sound ts (deeper ts b f) s false f i);
      statement = λ i. when_true _ _ (λ h. statement_sound ts (deeper ts b f) s i);
      rest = λ i. when_true _ _ (λ h. rest_sound ts (deeper ts b f) s i);
    }
