-- What the reader does at each production of statements and bodies.
use Rattle.std.proofs.Common.{◌≡◌, ℕ, zero, suc, ◌≤◌, Bool, true, false, not, ◌&&◌, ◌||◌, refl, ap, ◌∙◌, length}
use Rattle.std.specs.Prelude.{List, Option, Some, None}
use Rattle.jl_ast.specs.Height.{height}
use Rattle.jl_ast.specs.Tree.{Ident, Tree, Forest, OptionalTree}
use Rattle.jl_ast.specs.Tree as tree
use Rattle.jl_text.specs.declared.span.Span.{Span}
use Rattle.jl_token.specs.declared.token.Token.{Token}
use Rattle.jl_grammar.specs.declared.terminal.Terminal.{Terminal}
use Rattle.jl_grammar.specs.declared.terminal.Terminal.TheVariants as terminals
use Rattle.jl_grammar.specs.declared.word.Word.TheVariants as words
use Rattle.jl_grammar.specs.Next.{open_paren, close_paren, open_brace, close_brace, semicolon, comma, colon, equals}
use Rattle.jl_grammar.specs.Next.{keyword, is_identifier, is_open_brace, is_semicolon, is_comma, is_colon}
use Rattle.jl_grammar.specs.Next.{is_equals, is_else, is_finally, ends_statement, ends_list, is_directive}
use Rattle.jl_grammar.specs.Next.{continues_at, is_string}
use Rattle.jl_grammar.specs.Reads.{Expr, Stmt, Stmts, Code, EndsAt, there, inserted}
use Rattle.jl_grammar.specs.Tokens.{At, Is, terminal_at, line_at, strict_at, span, ident_at}
use Rattle.jl_grammar.specs.Reader.{is_close_paren, is_function, is_in, is_var, name_of, ends_at, label_at}
use Rattle.jl_grammar.specs.Reader.{then_close_paren, statements_from, block_at, elements_from, body_from, head_at}
use Rattle.jl_grammar.specs.Reader.{sub_at, declaration_at, declarations_from, var_at, express_at, else_from, if_at}
use Rattle.jl_grammar.specs.Reader.{do_at, while_at, optional_at, for_from, for_in_from, for_var_at, for_expression_at}
use Rattle.jl_grammar.specs.Reader.{for_at, continue_at, break_at, return_by, return_at, throw_at, clauses_from}
use Rattle.jl_grammar.specs.Reader.{switch_at, catch_at, finally_from, try_at, named_at, statement_by, statement_at}
use Rattle.jl_grammar.specs.Reader.{Deeper}
use Rattle.jl_grammar.proofs.Expressions.{fitting}
use Rattle.jl_grammar.proofs.Holds.{and_true}

module _ (ts : List Token) where
  pub ends_step : (i j : ℕ) → EndsAt ts i j → ends_at ts i ≡ Some j
  unfolding ends_at
  ends_step i j (there e) = rw (e.is, ends_at)
  ends_step i j (inserted e f) = rw (e, f, ends_at)

  pub no_end_step : (i : ℕ) → is_semicolon (terminal_at ts i) ≡ false → ends_statement (terminal_at ts i) ≡ false
      → line_at ts i ≡ false → ends_at ts i ≡ None
  unfolding ends_at
  no_end_step i a b c = rw (a, b, c, ends_at)

  pub label_step : (i k : ℕ) → Is is_identifier ts i → line_at ts i ≡ false → ends_at ts (suc i) ≡ Some k
      → label_at ts i ≡ Some (Some (ident_at ts i), k)
  unfolding label_at
  label_step i k e l h = rw (e.is, l, h, label_at)

  pub no_label_step : (i k : ℕ) → (is_identifier (terminal_at ts i) && not (line_at ts i)) ≡ false
      → ends_at ts i ≡ Some k
      → label_at ts i ≡ Some (None, k)
  unfolding label_at
  no_label_step i k e h = rw (e, h, label_at)

module _ (ts : List Token) (d : Deeper) where
  pub no_statements_step : (n i : ℕ) → ends_list (terminal_at ts i) ≡ true → statements_from ts d n i
      ≡ Some (tree.end, i)
  unfolding statements_from
  no_statements_step zero i e = rw (e, statements_from)
  no_statements_step (suc n) i e = rw (e, statements_from)

  pub more_statements_step : (n i j k : ℕ) (w : Stmt) (ws : Stmts) → ends_list (terminal_at ts i) ≡ false
      → d.statement i ≡ Some (w, j) → statements_from ts d n j ≡ Some (ws, k)
      → statements_from ts d (suc n) i ≡ Some (tree.more w ws, k)
  unfolding statements_from
  more_statements_step n i j k w ws e h g = rw (e, h, g, statements_from)

  pub block_step : (i j : ℕ) (ws : Stmts) → At ts i open_brace
      → statements_from ts d (length ts) (suc i) ≡ Some (ws, j) → At ts j close_brace
      → block_at ts d i ≡ Some (ws, suc j)
  unfolding block_at
  block_step i j ws e h f = rw (e.is, h, f.is, block_at)

  pub no_elements_step : (n i : ℕ) → ends_list (terminal_at ts i) ≡ true
      → elements_from ts d n i ≡ Some ((tree.end, tree.end), i)
  unfolding elements_from
  no_elements_step zero i e = rw (e, elements_from)
  no_elements_step (suc n) i e = rw (e, elements_from)

  pub declared_step : (n i j k : ℕ) (ps : List (Ident Span)) (c : Code) (fs : Forest Span tree.func) (ws : Stmts)
      → At ts i (keyword words.Function) → Is is_identifier ts (suc i) → d.rest (suc (suc i)) ≡ Some ((ps, c), j)
      → elements_from ts d n j ≡ Some ((fs, ws), k)
      → height (tree.function 0 (Some (ident_at ts (suc i))) ps c (span ts i j)) ≤ suc (d.room i)
      → elements_from ts d (suc n) i ≡ Some (
        (
          tree.more
              (tree.function 0 (Some (ident_at ts (suc i))) ps c (span ts i j)) fs,
          ws,
        ),
        k,
      )
  unfolding elements_from
  declared_step n i j k ps c fs ws e f h g fits =
      rw (e.is, elements_from) (rw (f.is, h) (fitting _ _ _ _ fits ∙ rw g refl))

  pub element_step : (n i j k : ℕ) (w : Stmt) (fs : Forest Span tree.func) (ws : Stmts)
      → ends_list (terminal_at ts i) ≡ false → is_function (terminal_at ts i) ≡ false → d.statement i ≡ Some (w, j)
      → elements_from ts d n j ≡ Some ((fs, ws), k) → elements_from ts d (suc n) i ≡ Some ((fs, tree.more w ws), k)
  unfolding elements_from
  element_step n i j k w fs ws e f h g = rw (e, f, h, g, elements_from)

  is_a_directive : (i : ℕ) → At ts i terminals.Str → continues_at ts (suc i) ≡ false → is_directive ts i ≡ true
  is_a_directive i e c = and_true _ _ (ap is_string e.is) (ap not c)

  pub directive_step : (n i j k : ℕ) (strict : Bool) (fs : Forest Span tree.func) (ws : Stmts) → At ts i terminals.Str
      → continues_at ts (suc i) ≡ false → EndsAt ts (suc i) j → body_from ts d n j ≡ Some (tree.body strict fs ws, k)
      → body_from ts d (suc n) i ≡ Some (tree.body (strict_at ts i || strict) fs ws, k)
  unfolding body_from
  directive_step n i j k strict fs ws e c h g =
      let a = is_a_directive i e c in let b = ends_step ts (suc i) j h in rw (a, b, g, body_from)

  pub no_directive_step : (n i j : ℕ) (fs : Forest Span tree.func) (ws : Stmts) → is_directive ts i ≡ false
      → elements_from ts d (length ts) i ≡ Some ((fs, ws), j) → body_from ts d n i ≡ Some (tree.body false fs ws, j)
  unfolding body_from
  no_directive_step zero i j fs ws e h = rw (e, h, body_from)
  no_directive_step (suc n) i j fs ws e h = rw (e, h, body_from)

  pub head_step : (i j : ℕ) (t : Expr) → At ts i open_paren → d.expression false (suc i) ≡ Some (t, j)
      → At ts j close_paren → head_at ts d i ≡ Some (t, suc j)
  unfolding head_at then_close_paren
  head_step i j t e h f = rw (e.is, h, f.is, head_at)

  pub several_step : (i j : ℕ) (ws : Stmts) → is_open_brace (terminal_at ts i) ≡ true → block_at ts d i ≡ Some (ws, j)
      → sub_at ts d i ≡ Some (ws, j)
  unfolding sub_at
  several_step i j ws e h = rw (e, h, sub_at)

  pub alone_step : (i j : ℕ) (w : Stmt) → is_open_brace (terminal_at ts i) ≡ false → d.statement i ≡ Some (w, j)
      → sub_at ts d i ≡ Some (tree.more w tree.end, j)
  unfolding sub_at
  alone_step i j w e h = rw (e, h, sub_at)

  pub uninitialised_step : (no_in : Bool) (i : ℕ) → Is is_identifier ts i → is_equals (terminal_at ts (suc i)) ≡ false
      → declaration_at ts d no_in i ≡ Some (tree.declarator (ident_at ts i) tree.absent, suc i)
  unfolding declaration_at
  uninitialised_step no_in i e f = rw (e.is, f, declaration_at)

  pub initialised_step : (no_in : Bool) (i j : ℕ) (t : Expr) → Is is_identifier ts i → At ts (suc i) equals
      → d.assignment no_in (suc (suc i)) ≡ Some (t, j)
      → declaration_at ts d no_in i ≡ Some (tree.declarator (ident_at ts i) (tree.present t), j)
  unfolding declaration_at
  initialised_step no_in i j t e f h = rw (e.is, f.is, h, declaration_at)

  pub last_declaration_step : (no_in : Bool) (n i j : ℕ) (x : Tree Span tree.decl)
      → declaration_at ts d no_in i ≡ Some (x, j) → is_comma (terminal_at ts j) ≡ false
      → declarations_from ts d no_in (suc n) i ≡ Some (tree.more x tree.end, j)
  unfolding declarations_from
  last_declaration_step no_in n i j x h e = rw (h, e, declarations_from)

  pub more_declarations_step : (no_in : Bool) (n i j k : ℕ) (x : Tree Span tree.decl) (xs : Forest Span tree.decl)
      → declaration_at ts d no_in i ≡ Some (x, j) → At ts j comma
      → declarations_from ts d no_in n (suc j) ≡ Some (xs, k)
      → declarations_from ts d no_in (suc n) i ≡ Some (tree.more x xs, k)
  unfolding declarations_from
  more_declarations_step no_in n i j k x xs h e g = rw (h, e.is, g, declarations_from)

  pub block_statement_step : (i j : ℕ) (ws : Stmts) → At ts i open_brace → block_at ts d i ≡ Some (ws, j)
      → height (tree.block ws (span ts i j)) ≤ suc (d.room i)
      → statement_at ts d i ≡ Some (tree.block ws (span ts i j), j)
  unfolding statement_at statement_by
  block_statement_step i j ws e h fits = rw (e.is, h, statement_at) (fitting _ _ _ _ fits)

  pub var_step : (i j k : ℕ) (xs : Forest Span tree.decl) → At ts i (keyword words.Var)
      → declarations_from ts d false (length ts) (suc i) ≡ Some (xs, j) → ends_at ts j ≡ Some k
      → height (tree.var xs (span ts i k)) ≤ suc (d.room i)
      → statement_at ts d i ≡ Some (tree.var xs (span ts i k), k)
  unfolding statement_at statement_by var_at
  var_step i j k xs e h g fits = rw (e.is, statement_at) (rw (h, g, var_at) (fitting _ _ _ _ fits))

  pub empty_step : (i : ℕ) → At ts i semicolon → statement_at ts d i ≡ Some (tree.empty (span ts i (suc i)), suc i)
  unfolding statement_at statement_by
  empty_step i e = rw (e.is, statement_at)

  pub express_step : (i j k : ℕ) (t : Expr) → d.expression false i ≡ Some (t, j) → ends_at ts j ≡ Some k
      → height (tree.expression t (span ts i k)) ≤ suc (d.room i)
      → express_at ts d i ≡ Some (tree.expression t (span ts i k), k)
  unfolding express_at
  express_step i j k t h g fits = rw (h, g, express_at) (fitting _ _ _ _ fits)

  pub if_else_step : (i j k m : ℕ) (t : Expr) (ws us : Stmts) → At ts i (keyword words.If)
      → head_at ts d (suc i) ≡ Some (t, j) → sub_at ts d j ≡ Some (ws, k) → At ts k (keyword words.Else)
      → sub_at ts d (suc k) ≡ Some (us, m)
      → height (tree.if_else t ws (tree.present (tree.branch_of us)) (span ts i m)) ≤ suc (d.room i)
      → statement_at ts d i ≡ Some (tree.if_else t ws (tree.present (tree.branch_of us)) (span ts i m), m)
  unfolding statement_at statement_by if_at else_from
  if_else_step i j k m t ws us e h g f q fits =
      rw (e.is, statement_at) (rw (h, g, f.is, q, if_at) (fitting _ _ _ _ fits))

  pub if_step : (i j k : ℕ) (t : Expr) (ws : Stmts) → At ts i (keyword words.If) → head_at ts d (suc i) ≡ Some (t, j)
      → sub_at ts d j ≡ Some (ws, k) → is_else (terminal_at ts k) ≡ false
      → height (tree.if_else t ws tree.absent (span ts i k)) ≤ suc (d.room i)
      → statement_at ts d i ≡ Some (tree.if_else t ws tree.absent (span ts i k), k)
  unfolding statement_at statement_by if_at else_from
  if_step i j k t ws e h g f fits = rw (e.is, statement_at) (rw (h, g, f, if_at) (fitting _ _ _ _ fits))

  pub do_step : (i j k m : ℕ) (t : Expr) (ws : Stmts) → At ts i (keyword words.Do)
      → sub_at ts d (suc i) ≡ Some (ws, j) → At ts j (keyword words.While) → head_at ts d (suc j) ≡ Some (t, k)
      → ends_at ts k ≡ Some m → height (tree.do_while ws t (span ts i m)) ≤ suc (d.room i)
      → statement_at ts d i ≡ Some (tree.do_while ws t (span ts i m), m)
  unfolding statement_at statement_by do_at
  do_step i j k m t ws e h f g q fits = rw (e.is, statement_at) (rw (h, f.is, g, q, do_at) (fitting _ _ _ _ fits))

  pub while_step : (i j k : ℕ) (t : Expr) (ws : Stmts) → At ts i (keyword words.While)
      → head_at ts d (suc i) ≡ Some (t, j) → sub_at ts d j ≡ Some (ws, k)
      → height (tree.while t ws (span ts i k)) ≤ suc (d.room i)
      → statement_at ts d i ≡ Some (tree.while t ws (span ts i k), k)
  unfolding statement_at statement_by while_at
  while_step i j k t ws e h g fits = rw (e.is, statement_at) (rw (h, g, while_at) (fitting _ _ _ _ fits))

  pub absent_step : (ends : Terminal → Bool) (i : ℕ) → ends (terminal_at ts i) ≡ true
      → optional_at ts d ends i ≡ Some (tree.absent, i)
  unfolding optional_at
  absent_step ends i e = rw (e, optional_at)

  pub present_step : (ends : Terminal → Bool) (i j : ℕ) (t : Expr) → ends (terminal_at ts i) ≡ false
      → d.expression false i ≡ Some (t, j) → optional_at ts d ends i ≡ Some (tree.present t, j)
  unfolding optional_at
  present_step ends i j t e h = rw (e, h, optional_at)

  pub for_from_step : (i j k m n : ℕ) (a : Tree Span tree.init) (b c : OptionalTree Span tree.expr) (ws : Stmts)
      → At ts j semicolon → optional_at ts d is_semicolon (suc j) ≡ Some (b, k) → At ts k semicolon
      → optional_at ts d is_close_paren (suc k) ≡ Some (c, m) → At ts m close_paren → sub_at ts d (suc m) ≡ Some (ws, n)
      → height (tree.for a b c ws (span ts i n)) ≤ suc (d.room i)
      → for_from ts d i (a, j) ≡ Some (tree.for a b c ws (span ts i n), n)
  unfolding for_from
  for_from_step i j k m n a b c ws e h f g q r fits = rw (e.is, h, f.is, g, q.is, r, for_from) (fitting _ _ _ _ fits)

  pub for_nothing_step : (i : ℕ) → At ts i (keyword words.For) → At ts (suc i) open_paren
      → At ts (suc (suc i)) semicolon → statement_at ts d i ≡ for_from ts d i (tree.nothing, suc (suc i))
  unfolding statement_at statement_by for_at
  for_nothing_step i e f g = rw (e.is, statement_at) (rw (f.is, g.is, for_at) refl)

  pub for_expression_step : (i j : ℕ) (t : Expr) → At ts i (keyword words.For) → At ts (suc i) open_paren
      → is_semicolon (terminal_at ts (suc (suc i))) ≡ false → is_var (terminal_at ts (suc (suc i))) ≡ false
      → d.expression true (suc (suc i)) ≡ Some (t, j) → is_in (terminal_at ts j) ≡ false
      → statement_at ts d i ≡ for_from ts d i (tree.init_expression t, j)
  unfolding statement_at statement_by for_at for_expression_at
  for_expression_step i j t e f a b h g = rw (e.is, statement_at)
      (rw (f.is, a, b, for_at) (rw (h, g, for_expression_at) refl))

  pub for_vars_step : (i j : ℕ) (xs : Forest Span tree.decl) → At ts i (keyword words.For) → At ts (suc i) open_paren
      → At ts (suc (suc i)) (keyword words.Var)
      → (is_identifier (terminal_at ts (suc (suc (suc i)))) && is_in (terminal_at ts (suc (suc (suc (suc i)))))) ≡ false
      → declarations_from ts d true (length ts) (suc (suc (suc i))) ≡ Some (xs, j)
      → statement_at ts d i ≡ for_from ts d i (tree.init_var xs, j)
  unfolding statement_at statement_by for_at for_var_at
  for_vars_step i j xs e f g a h = rw (e.is, statement_at) (rw (f.is, g.is, for_at) (rw (a, h, for_var_at) refl))

  pub for_in_from_step : (i j k m : ℕ) (is_var : Bool) (x : Ident Span) (t : Expr) (ws : Stmts)
      → d.expression false j ≡ Some (t, k) → At ts k close_paren → sub_at ts d (suc k) ≡ Some (ws, m)
      → height (tree.for_in is_var x t ws (span ts i m)) ≤ suc (d.room i)
      → for_in_from ts d i is_var x j ≡ Some (tree.for_in is_var x t ws (span ts i m), m)
  unfolding for_in_from
  for_in_from_step i j k m is_var x t ws h e g fits = rw (h, e.is, g, for_in_from) (fitting _ _ _ _ fits)

  pub for_in_step : (i j : ℕ) (t : Expr) (x : Ident Span) → At ts i (keyword words.For) → At ts (suc i) open_paren
      → is_semicolon (terminal_at ts (suc (suc i))) ≡ false → is_var (terminal_at ts (suc (suc i))) ≡ false
      → d.expression true (suc (suc i)) ≡ Some (t, j) → At ts j (keyword words.In) → name_of t ≡ Some x
      → statement_at ts d i ≡ for_in_from ts d i false x (suc j)
  unfolding statement_at statement_by for_at for_expression_at
  for_in_step i j t x e f a b h g q = rw (e.is, statement_at)
      (rw (f.is, a, b, for_at) (rw (h, g.is, q, for_expression_at) refl))

  pub for_var_in_step : (i : ℕ) → At ts i (keyword words.For) → At ts (suc i) open_paren
      → At ts (suc (suc i)) (keyword words.Var) → Is is_identifier ts (suc (suc (suc i)))
      → At ts (suc (suc (suc (suc i)))) (keyword words.In)
      → statement_at ts d i ≡ for_in_from ts d i true (ident_at ts (suc (suc (suc i))))
      (suc (suc (suc (suc (suc i)))))
  unfolding statement_at statement_by for_at for_var_at
  for_var_in_step i e f g h q = rw (e.is, statement_at) (rw (f.is, g.is, for_at) (rw (h.is, q.is, for_var_at) refl))

  pub continue_step : (i k : ℕ) (x : Option (Ident Span)) → At ts i (keyword words.Continue)
      → label_at ts (suc i) ≡ Some (x, k) → statement_at ts d i ≡ Some (tree.continue x (span ts i k), k)
  unfolding statement_at statement_by continue_at
  continue_step i k x e h = rw (e.is, statement_at) (rw (h, continue_at))

  pub break_step : (i k : ℕ) (x : Option (Ident Span)) → At ts i (keyword words.Break)
      → label_at ts (suc i) ≡ Some (x, k) → statement_at ts d i ≡ Some (tree.break x (span ts i k), k)
  unfolding statement_at statement_by break_at
  break_step i k x e h = rw (e.is, statement_at) (rw (h, break_at))

  pub return_step : (i k : ℕ) → At ts i (keyword words.Return) → ends_at ts (suc i) ≡ Some k
      → statement_at ts d i ≡ Some (tree.return tree.absent (span ts i k), k)
  unfolding statement_at statement_by return_at return_by
  return_step i k e h = rw (e.is, statement_at) (rw (h, return_at))

  pub return_of_step : (i j k : ℕ) (t : Expr) → At ts i (keyword words.Return) → ends_at ts (suc i) ≡ None
      → d.expression false (suc i) ≡ Some (t, j) → ends_at ts j ≡ Some k
      → height (tree.return (tree.present t) (span ts i k)) ≤ suc (d.room i)
      → statement_at ts d i ≡ Some (tree.return (tree.present t) (span ts i k), k)
  unfolding statement_at statement_by return_at return_by
  return_of_step i j k t e n h g fits = rw (e.is, statement_at) (rw (n, h, g, return_at) (fitting _ _ _ _ fits))

  pub throw_step : (i j k : ℕ) (t : Expr) → At ts i (keyword words.Throw) → line_at ts (suc i) ≡ false
      → d.expression false (suc i) ≡ Some (t, j) → ends_at ts j ≡ Some k
      → height (tree.throw t (span ts i k)) ≤ suc (d.room i)
      → statement_at ts d i ≡ Some (tree.throw t (span ts i k), k)
  unfolding statement_at statement_by throw_at
  throw_step i j k t e l h g fits = rw (e.is, statement_at) (rw (l, h, g, throw_at) (fitting _ _ _ _ fits))

  pub no_clauses_step : (n i : ℕ) (fresh : Bool) → At ts i close_brace
      → clauses_from ts d n fresh i ≡ Some (tree.end, i)
  unfolding clauses_from
  no_clauses_step zero i fresh e = rw (e.is, clauses_from)
  no_clauses_step (suc n) i fresh e = rw (e.is, clauses_from)

  pub case_step : (n i j k m : ℕ) (fresh : Bool) (t : Expr) (ws : Stmts) (cs : Forest Span tree.clause)
      → At ts i (keyword words.Case) → d.expression false (suc i) ≡ Some (t, j) → At ts j colon
      → statements_from ts d (length ts) (suc j) ≡ Some (ws, k) → clauses_from ts d n fresh k ≡ Some (cs, m)
      → clauses_from ts d (suc n) fresh i ≡ Some (tree.more (tree.case (tree.present t) ws) cs, m)
  unfolding clauses_from
  case_step n i j k m fresh t ws cs e h f g q = rw (e.is, clauses_from) (rw (h, f.is, g, q) refl)

  pub default_step : (n i k m : ℕ) (ws : Stmts) (cs : Forest Span tree.clause) → At ts i (keyword words.Default)
      → At ts (suc i) colon → statements_from ts d (length ts) (suc (suc i)) ≡ Some (ws, k)
      → clauses_from ts d n false k ≡ Some (cs, m)
      → clauses_from ts d (suc n) true i ≡ Some (tree.more (tree.case tree.absent ws) cs, m)
  unfolding clauses_from
  default_step n i k m ws cs e f g q = rw (e.is, clauses_from) (rw (f.is, g, q) refl)

  pub switch_step : (i j k : ℕ) (t : Expr) (cs : Forest Span tree.clause) → At ts i (keyword words.Switch)
      → head_at ts d (suc i) ≡ Some (t, j) → At ts j open_brace
      → clauses_from ts d (length ts) true (suc j) ≡ Some (cs, k) → At ts k close_brace
      → height (tree.switch t cs (span ts i (suc k))) ≤ suc (d.room i)
      → statement_at ts d i ≡ Some (tree.switch t cs (span ts i (suc k)), suc k)
  unfolding statement_at statement_by switch_at
  switch_step i j k t cs e h f g q fits =
      rw (e.is, statement_at) (rw (h, f.is, g, q.is, switch_at) (fitting _ _ _ _ fits))

  pub catch_step : (i j : ℕ) (ws : Stmts) → At ts (suc i) open_paren → Is is_identifier ts (suc (suc i))
      → At ts (suc (suc (suc i))) close_paren → block_at ts d (suc (suc (suc (suc i)))) ≡ Some (ws, j)
      → catch_at ts d i ≡ Some (tree.catch (ident_at ts (suc (suc i))) ws, j)
  unfolding catch_at
  catch_step i j ws e f g h = rw (e.is, f.is, g.is, h, catch_at)

  pub try_catch_step : (i j k : ℕ) (ws : Stmts) (h : Tree Span tree.handler) → At ts i (keyword words.Try)
      → block_at ts d (suc i) ≡ Some (ws, j) → At ts j (keyword words.Catch) → catch_at ts d j ≡ Some (h, k)
      → is_finally (terminal_at ts k) ≡ false
      → height (tree.try ws (tree.present h) tree.absent (span ts i k)) ≤ suc (d.room i)
      → statement_at ts d i ≡ Some (tree.try ws (tree.present h) tree.absent (span ts i k), k)
  unfolding statement_at statement_by try_at finally_from
  try_catch_step i j k ws h e b f g q fits = rw (e.is, statement_at) (rw (b, f.is, g, q, try_at) (fitting _ _ _ _ fits))

  pub try_finally_step : (i j k : ℕ) (ws us : Stmts) → At ts i (keyword words.Try)
      → block_at ts d (suc i) ≡ Some (ws, j) → At ts j (keyword words.Finally) → block_at ts d (suc j) ≡ Some (us, k)
      → height (tree.try ws tree.absent (tree.present (tree.branch_of us)) (span ts i k)) ≤ suc (d.room i)
      → statement_at ts d i ≡ Some (tree.try ws tree.absent (tree.present (tree.branch_of us)) (span ts i k), k)
  unfolding statement_at statement_by try_at
  try_finally_step i j k ws us e b f g fits = rw (e.is, statement_at) (rw (b, f.is, g, try_at) (fitting _ _ _ _ fits))

  pub try_both_step : (i j k m : ℕ) (ws us : Stmts) (h : Tree Span tree.handler) → At ts i (keyword words.Try)
      → block_at ts d (suc i) ≡ Some (ws, j) → At ts j (keyword words.Catch) → catch_at ts d j ≡ Some (h, k)
      → At ts k (keyword words.Finally) → block_at ts d (suc k) ≡ Some (us, m)
      → height (tree.try ws (tree.present h) (tree.present (tree.branch_of us)) (span ts i m)) ≤ suc (d.room i)
      → statement_at ts d i ≡ Some (tree.try ws (tree.present h) (tree.present (tree.branch_of us)) (span ts i m), m)
  unfolding statement_at statement_by try_at finally_from
  try_both_step i j k m ws us h e b f g q r fits =
      rw (e.is, statement_at) (rw (b, f.is, g, q.is, r, try_at) (fitting _ _ _ _ fits))

  pub debugger_step : (i k : ℕ) → At ts i (keyword words.Debugger) → ends_at ts (suc i) ≡ Some k
      → statement_at ts d i ≡ Some (tree.debugger (span ts i k), k)
  unfolding statement_at statement_by
  debugger_step i k e h = rw (e.is, h, statement_at)

  named_by : (i : ℕ) (k : Terminal) → is_identifier k ≡ true → statement_by ts d i k ≡ named_at ts d i
  unfolding statement_by
  named_by i terminals.Identifier h = refl
  named_by i terminals.Get h = refl
  named_by i terminals.Set h = refl
  named_by i _ h = cc

  pub labelled_step : (i j : ℕ) (w : Stmt) → Is is_identifier ts i → At ts (suc i) colon
      → d.statement (suc (suc i)) ≡ Some (w, j)
      → height (tree.labelled (ident_at ts i) w (span ts i j)) ≤ suc (d.room i)
      → statement_at ts d i ≡ Some (tree.labelled (ident_at ts i) w (span ts i j), j)
  unfolding statement_at named_at
  labelled_step i j w e f h fits = named_by i (terminal_at ts i) e.is ∙ rw (f.is, h, named_at) (fitting _ _ _ _ fits)

  pub named_expression_step : (i : ℕ) → Is is_identifier ts i → is_colon (terminal_at ts (suc i)) ≡ false
      → statement_at ts d i ≡ express_at ts d i
  unfolding statement_at named_at
  named_expression_step i e f = named_by i (terminal_at ts i) e.is ∙ rw (f, named_at) refl
