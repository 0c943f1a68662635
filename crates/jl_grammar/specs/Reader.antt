-- A reader as a function, that tells what the grammar reads. It is a step of the proofs: no public clause but a law
-- speaks of it. Each function reads from a place and gives what it read with the place after it. What begins later than
-- the whole, as a right operand or what is in brackets, is read one level deeper. A node is refused as soon as it is
-- higher than the levels that are left for it, of which brackets that may still open have their share.
use Rattle.std.specs.Prelude.{ℕ, zero, suc, pred, ◌*◌, ◌-◌, nat_eq, Bool, true, false, ◌&&◌, List, [], ◌∷◌}
use Rattle.std.specs.Prelude.{length, Option, Some, None, nat_le, if◌then◌else◌}
use Rattle.jl_ast.specs.declared.ops.BinOp.{BinOp}
use Rattle.jl_ast.specs.declared.ops.UnOp.{UnOp}
use Rattle.jl_ast.specs.Height.{program_height}
use Rattle.jl_ast.specs.Tree.{Ident, Program, Tree, Forest, OptionalTree}
use Rattle.jl_ast.specs.Tree as tree
use Rattle.jl_text.specs.declared.span.Span.{Span}
use Rattle.jl_token.specs.declared.punct.Punct.TheVariants as puncts
use Rattle.jl_token.specs.declared.token.Token.{Token}
use Rattle.jl_grammar.specs.declared.terminal.Terminal.{Terminal}
use Rattle.jl_grammar.specs.declared.terminal.Terminal.TheVariants as terminals
use Rattle.jl_grammar.specs.declared.word.Word.TheVariants as words
use Rattle.jl_grammar.specs.Next.{is_identifier, is_name, is_key, is_open_paren, is_open_brace, is_semicolon}
use Rattle.jl_grammar.specs.Next.{is_comma, is_colon, is_question, is_equals, is_else, is_finally}
use Rattle.jl_grammar.specs.Next.{ends_list, continues_left, is_directive, target_of}
use Rattle.jl_grammar.specs.Operators.{InfixOperator, infix_operator, infix_node, infix_precedence, continues}
use Rattle.jl_grammar.specs.Operators.{assign_operator, unary_operator}
use Rattle.jl_grammar.specs.Operators.{update_operator}
use Rattle.jl_grammar.specs.Brackets.{open_brackets}
use Rattle.jl_grammar.specs.Program.{program_of}
use Rattle.jl_grammar.specs.Reads.{Expr, Exprs, Stmt, Stmts, Code}
use Rattle.jl_grammar.specs.Tokens.{terminal_at, line_at, text_at, number_at, strict_at, span, ident_at, key_ident_at}
pub use Rattle.jl_grammar.specs.Reading.{◌>>=◌, Read, succeed, is_close_paren, is_close_bracket, is_close_brace}
pub use Rattle.jl_grammar.specs.Reading.{is_function, is_new, is_while, is_in, is_var, is_case, is_default, is_catch}
pub use Rattle.jl_grammar.specs.Reading.{name_of, with_directive, Deeper}
unfoldable pub use Rattle.jl_grammar.specs.Reading.{node, ends_at, names_from, parameters_at, label_at}

module _ (ts : List Token) (d : Deeper) where
  -- an expression and the `)` after it
  unfoldable pub then_close_paren : Expr × ℕ → Read Expr
  then_close_paren x = if is_close_paren (terminal_at ts x.1) then Some (x.0, suc x.1) else None

  -- at most n statements, up to what ends the list
  unfoldable pub statements_from : ℕ → ℕ → Read Stmts
  statements_from zero i = if ends_list (terminal_at ts i) then Some (tree.end, i) else None
  statements_from (suc n) i =
      if ends_list (terminal_at ts i)
      then Some (tree.end, i)
      else (d.statement i >>= λ x. statements_from n x.1 >>= λ r. Some (tree.more x.0 r.0, r.1))

  unfoldable pub block_at : ℕ → Read Stmts
  block_at i =
      if is_open_brace (terminal_at ts i)
      then (statements_from (length ts) (suc i) >>= λ x.
      if is_close_brace (terminal_at ts x.1) then Some (x.0, suc x.1) else None)
      else None

  -- at most n function declarations and statements
  unfoldable pub elements_from : ℕ → ℕ → Read (Forest Span tree.func × Stmts)
  elements_from zero i = if ends_list (terminal_at ts i) then Some ((tree.end, tree.end), i) else None
  elements_from (suc n) i =
      if ends_list (terminal_at ts i)
      then Some ((tree.end, tree.end), i)
      else (if is_function (terminal_at ts i)
      then (if is_identifier (terminal_at ts (suc i))
      then (d.rest (suc (suc i)) >>= λ x.
      node (d.room i) (tree.function 0 (Some (ident_at ts (suc i))) x.0.0 x.0.1 (span ts i x.1)) x.1
      (λ f j. elements_from n j >>= λ r. Some ((tree.more f r.0.0, r.0.1), r.1)))
      else None)
      else (d.statement i >>= λ x. elements_from n x.1 >>= λ r. Some ((r.0.0, tree.more x.0 r.0.1), r.1)))

  -- at most n directives, and what follows them
  unfoldable pub body_from : ℕ → ℕ → Read Code
  body_from zero i =
      if is_directive ts i then None else (elements_from (length ts) i >>= λ x. Some (tree.body false x.0.0 x.0.1, x.1))
  body_from (suc n) i =
      if is_directive ts i
      then (ends_at ts (suc i) >>= λ j. body_from n j >>= λ r. Some (with_directive (strict_at ts i) r.0, r.1))
      else (elements_from (length ts) i >>= λ x. Some (tree.body false x.0.0 x.0.1, x.1))

  unfoldable pub rest_at : ℕ → Read (List (Ident Span) × Code)
  rest_at i =
      if is_open_paren (terminal_at ts i)
      then (parameters_at ts (suc i) >>= λ p. if is_open_brace (terminal_at ts p.1)
      then (body_from (length ts) (suc p.1) >>= λ c.
      if is_close_brace (terminal_at ts c.1) then Some ((p.0, c.0), suc c.1) else None)
      else None)
      else None

  unfoldable pub function_at : ℕ → Read Expr
  function_at i =
      if is_identifier (terminal_at ts (suc i))
      then (rest_at (suc (suc i)) >>= λ r.
      node (d.room i)
      (tree.function_expression (tree.function 0 (Some (ident_at ts (suc i))) r.0.0 r.0.1 (span ts i r.1))
      (span ts i r.1))
      r.1 succeed)
      else (rest_at (suc i) >>= λ r.
      node (d.room i)
      (tree.function_expression (tree.function 0 None r.0.0 r.0.1 (span ts i r.1)) (span ts i r.1)) r.1 succeed)

  -- at most n items of an array, and the `]` after them
  unfoldable pub items_from : ℕ → ℕ → Read (Forest Span tree.item)
  items_from zero i = if is_close_bracket (terminal_at ts i) then Some (tree.end, suc i) else None
  items_from (suc n) i =
      if is_close_bracket (terminal_at ts i)
      then Some (tree.end, suc i)
      else (if is_comma (terminal_at ts i)
      then (items_from n (suc i) >>= λ r. Some (tree.more tree.hole r.0, r.1))
      else (d.assignment false i >>= λ x. if is_close_bracket (terminal_at ts x.1)
      then Some (tree.more (tree.filled x.0) tree.end, suc x.1)
      else (if is_comma (terminal_at ts x.1)
      then (items_from n (suc x.1) >>= λ r. Some (tree.more (tree.filled x.0) r.0, r.1))
      else None)))

  unfoldable pub value_at : ℕ → Read (Tree Span tree.entry)
  value_at i =
      if is_key (terminal_at ts i) && is_colon (terminal_at ts (suc i))
      then (d.assignment false (suc (suc i)) >>= λ x. Some (tree.value (key_ident_at ts i) x.0, x.1))
      else None

  unfoldable pub getter_by : ℕ → List (Ident Span) → Code → ℕ → Read (Tree Span tree.entry)
  getter_by i [] c j =
      node (d.room i) (tree.function 0 None [] c (span ts i j)) j
      (λ f k. Some (tree.getter (key_ident_at ts (suc i)) f, k))
  getter_by i _ c j = None

  unfoldable pub setter_by : ℕ → List (Ident Span) → Code → ℕ → Read (Tree Span tree.entry)
  setter_by i (p ∷ []) c j =
      node (d.room i) (tree.function 0 None (p ∷ []) c (span ts i j)) j
      (λ f k. Some (tree.setter (key_ident_at ts (suc i)) f, k))
  setter_by i _ c j = None

  -- a property that begins with `get` or `set`
  unfoldable pub accessor_at : (ℕ → List (Ident Span) → Code → ℕ → Read (Tree Span tree.entry)) → ℕ
      → Read (Tree Span tree.entry)
  accessor_at by i =
      if is_colon (terminal_at ts (suc i))
      then value_at i
      else (if is_key (terminal_at ts (suc i)) then (rest_at (suc (suc i)) >>= λ r. by i r.0.0 r.0.1 r.1) else None)

  unfoldable pub entry_by : ℕ → Terminal → Read (Tree Span tree.entry)
  entry_by i terminals.Get = accessor_at getter_by i
  entry_by i terminals.Set = accessor_at setter_by i
  entry_by i _ = value_at i

  unfoldable pub entry_at : ℕ → Read (Tree Span tree.entry)
  entry_at i = entry_by i (terminal_at ts i)

  -- at most n properties of an object, and the `}` after them
  unfoldable pub entries_from : ℕ → ℕ → Read (Forest Span tree.entry)
  entries_from zero i = if is_close_brace (terminal_at ts i) then Some (tree.end, suc i) else None
  entries_from (suc n) i =
      if is_close_brace (terminal_at ts i)
      then Some (tree.end, suc i)
      else (entry_at i >>= λ x. if is_close_brace (terminal_at ts x.1)
      then Some (tree.more x.0 tree.end, suc x.1)
      else (if is_comma (terminal_at ts x.1)
      then (entries_from n (suc x.1) >>= λ r. Some (tree.more x.0 r.0, r.1))
      else None))

  unfoldable pub primary_by : ℕ → Terminal → Read Expr
  primary_by i (terminals.Word words.This) = Some (tree.this (span ts i (suc i)), suc i)
  primary_by i terminals.Identifier = Some (tree.name (text_at ts i) (span ts i (suc i)), suc i)
  primary_by i terminals.Get = Some (tree.name (text_at ts i) (span ts i (suc i)), suc i)
  primary_by i terminals.Set = Some (tree.name (text_at ts i) (span ts i (suc i)), suc i)
  primary_by i (terminals.Word words.Null) = Some (tree.null (span ts i (suc i)), suc i)
  primary_by i (terminals.Word words.True) = Some (tree.boolean true (span ts i (suc i)), suc i)
  primary_by i (terminals.Word words.False) = Some (tree.boolean false (span ts i (suc i)), suc i)
  primary_by i terminals.Number = Some (tree.number (number_at ts i) (span ts i (suc i)), suc i)
  primary_by i terminals.Str = Some (tree.string (text_at ts i) (span ts i (suc i)), suc i)
  primary_by i (terminals.Punct puncts.LeftBracket) = items_from (length ts) (suc i) >>= λ x.
      node (d.room i) (tree.array x.0 (span ts i x.1)) x.1 succeed
  primary_by i (terminals.Punct puncts.LeftBrace) = entries_from (length ts) (suc i) >>= λ x.
      node (d.room i) (tree.object x.0 (span ts i x.1)) x.1 succeed
  primary_by i (terminals.Punct puncts.LeftParen) = d.expression false (suc i) >>= then_close_paren
  primary_by i (terminals.Word words.Function) = function_at i
  primary_by i _ = None

  unfoldable pub primary_at : ℕ → Read Expr
  primary_at i = primary_by i (terminal_at ts i)

  -- at most n arguments, of which there is one, and the `)` after them
  unfoldable pub arguments_from : ℕ → ℕ → Read Exprs
  arguments_from zero i = None
  arguments_from (suc n) i = d.assignment false i >>= λ x.
      if is_close_paren (terminal_at ts x.1)
      then Some (tree.more x.0 tree.end, suc x.1)
      else (if is_comma (terminal_at ts x.1)
      then (arguments_from n (suc x.1) >>= λ r. Some (tree.more x.0 r.0, r.1))
      else None)

  unfoldable pub arguments_at : ℕ → Read Exprs
  arguments_at i = if is_close_paren (terminal_at ts i) then Some (tree.end, suc i) else arguments_from (length ts) i

  unfoldable pub new_at : ℕ → Read Expr
  new_at i = d.member (suc i) >>= λ x.
      if is_open_paren (terminal_at ts x.1)
      then (arguments_at (suc x.1) >>= λ a. node (d.room i) (tree.new x.0 a.0 (span ts i a.1)) a.1 succeed)
      else node (d.room i) (tree.new x.0 tree.end (span ts i x.1)) x.1 succeed

  unfoldable pub start_at : ℕ → Read Expr
  start_at i = if is_new (terminal_at ts i) then new_at i else primary_at i

  unfoldable pub left_by : Bool → (Expr → ℕ → Read Expr) → ℕ → Expr → ℕ → Terminal → Read Expr
  left_by calls go i t j (terminals.Punct puncts.Dot) =
      if is_name (terminal_at ts (suc j)) then node (d.room i)
      (tree.dot t (text_at ts (suc j)) (span ts i (suc (suc j))))
      (suc (suc j)) go else None
  left_by calls go i t j (terminals.Punct puncts.LeftBracket) = d.expression false (suc j) >>= λ x.
      if is_close_bracket (terminal_at ts x.1) then node (d.room i) (tree.index t x.0 (span ts i (suc x.1))) (suc x.1)
      go
      else None
  left_by true go i t j (terminals.Punct puncts.LeftParen) = arguments_at (suc j) >>= λ x.
      node (d.room i) (tree.call t x.0 (span ts i x.1)) x.1 go
  left_by calls go i t j _ = Some (t, j)

  -- goes on with a left-hand side that began at i, with at most n more parts
  unfoldable pub left_from : Bool → ℕ → ℕ → Expr → ℕ → Read Expr
  left_from calls zero i t j = if continues_left calls (terminal_at ts j) then None else Some (t, j)
  left_from calls (suc n) i t j = left_by calls (left_from calls n i) i t j (terminal_at ts j)

  unfoldable pub left_at : Bool → ℕ → ℕ → Read Expr
  left_at calls n i = start_at i >>= λ x. left_from calls n i x.0 x.1

  unfoldable pub postfix_by : ℕ → Expr → ℕ → Option Bool → Bool → Read Expr
  postfix_by i t j (Some up) false =
      target_of t >>= λ g. node (d.room i) (tree.update up false g (span ts i (suc j))) (suc j) succeed
  postfix_by i t j _ _ = Some (t, j)

  unfoldable pub postfix_at : ℕ → ℕ → Read Expr
  postfix_at n i =
      left_at true n i >>= λ x. postfix_by i x.0 x.1 (update_operator (terminal_at ts x.1)) (line_at ts x.1)

  unfoldable pub unary_by : ℕ → ℕ → Option UnOp → Option Bool → Read Expr
  unary_by n i (Some op) up = d.unary (suc i) >>= λ x. node (d.room i) (tree.unary op x.0 (span ts i x.1)) x.1 succeed
  unary_by n i None (Some up) =
      left_at true n (suc i) >>= λ x. target_of x.0 >>= λ g. node (d.room i) (tree.update up true g (span ts i x.1))
      x.1 succeed
  unary_by n i None None = postfix_at n i

  unfoldable pub unary_at : ℕ → ℕ → Read Expr
  unary_at n i = unary_by n i (unary_operator (terminal_at ts i)) (update_operator (terminal_at ts i))

  unfoldable pub binary_by : Bool → (Expr → ℕ → Read Expr) → ℕ → ℕ → Expr → ℕ → Option InfixOperator → Read Expr
  binary_by no_in go m i t j None = Some (t, j)
  binary_by no_in go m i t j (Some op) =
      if nat_le (infix_precedence op) m
      then (d.binary no_in (pred (infix_precedence op)) (suc j) >>= λ x.
      node (d.room i) (infix_node op t x.0 (span ts i x.1)) x.1 go)
      else Some (t, j)

  -- goes on with infix operators as loose as m, with at most n more operands
  unfoldable pub binary_from : Bool → ℕ → ℕ → ℕ → Expr → ℕ → Read Expr
  binary_from no_in zero m i t j = if continues no_in m (terminal_at ts j) then None else Some (t, j)
  binary_from no_in (suc n) m i t j =
      binary_by no_in (binary_from no_in n m i) m i t j (infix_operator no_in (terminal_at ts j))

  unfoldable pub binary_at : Bool → ℕ → ℕ → ℕ → Read Expr
  binary_at no_in n m i = unary_at n i >>= λ x. binary_from no_in n m i x.0 x.1

  unfoldable pub conditional_from : Bool → ℕ → Expr × ℕ → Read Expr
  conditional_from no_in i x =
      if is_question (terminal_at ts x.1)
      then (d.assignment false (suc x.1) >>= λ a.
      if is_colon (terminal_at ts a.1)
      then (d.assignment no_in (suc a.1) >>= λ b. node (d.room i) (tree.conditional x.0 a.0 b.0 (span ts i b.1)) b.1
      succeed)
      else None)
      else Some x

  unfoldable pub conditional_at : Bool → ℕ → ℕ → Read Expr
  conditional_at no_in n i = binary_at no_in n 10 i >>= conditional_from no_in i

  unfoldable pub assignment_by : Bool → ℕ → Expr → ℕ → Option (Option BinOp) → Read Expr
  assignment_by no_in i t j None = Some (t, j)
  assignment_by no_in i t j (Some op) =
      target_of t >>= λ g. d.assignment no_in (suc j) >>= λ v. node (d.room i) (tree.assign op g v.0 (span ts i v.1))
      v.1 succeed

  unfoldable pub assignment_at : Bool → ℕ → ℕ → Read Expr
  assignment_at no_in n i = conditional_at no_in n i >>= λ x.
      assignment_by no_in i x.0 x.1 (assign_operator (terminal_at ts x.1))

  -- goes on with commas, at most n of them
  unfoldable pub comma_from : Bool → ℕ → ℕ → Expr → ℕ → Read Expr
  comma_from no_in zero i t j = if is_comma (terminal_at ts j) then None else Some (t, j)
  comma_from no_in (suc n) i t j =
      if is_comma (terminal_at ts j)
      then (d.assignment no_in (suc j) >>= λ x.
      node (d.room i) (tree.comma t x.0 (span ts i x.1)) x.1 (comma_from no_in n i))
      else Some (t, j)

  unfoldable pub expression_at : Bool → ℕ → ℕ → Read Expr
  expression_at no_in n i = assignment_at no_in n i >>= λ x. comma_from no_in n i x.0 x.1

  unfoldable pub head_at : ℕ → Read Expr
  head_at i = if is_open_paren (terminal_at ts i) then (d.expression false (suc i) >>= then_close_paren) else None

  unfoldable pub sub_at : ℕ → Read Stmts
  sub_at i = if is_open_brace (terminal_at ts i) then block_at i else
      (d.statement i >>= λ x. Some (tree.more x.0 tree.end, x.1))

  unfoldable pub declaration_at : Bool → ℕ → Read (Tree Span tree.decl)
  declaration_at no_in i =
      if is_identifier (terminal_at ts i)
      then (if is_equals (terminal_at ts (suc i))
      then (d.assignment no_in (suc (suc i)) >>= λ x. Some (tree.declarator (ident_at ts i) (tree.present x.0), x.1))
      else Some (tree.declarator (ident_at ts i) tree.absent, suc i))
      else None

  -- at most n declarations
  unfoldable pub declarations_from : Bool → ℕ → ℕ → Read (Forest Span tree.decl)
  declarations_from no_in zero i = None
  declarations_from no_in (suc n) i = declaration_at no_in i >>= λ x.
      if is_comma (terminal_at ts x.1)
      then (declarations_from no_in n (suc x.1) >>= λ r. Some (tree.more x.0 r.0, r.1))
      else Some (tree.more x.0 tree.end, x.1)

  unfoldable pub var_at : ℕ → Read Stmt
  var_at i = declarations_from false (length ts) (suc i) >>= λ x. ends_at ts x.1 >>= λ k.
      node (d.room i) (tree.var x.0 (span ts i k)) k succeed

  unfoldable pub express_at : ℕ → Read Stmt
  express_at i =
      d.expression false i >>= λ x. ends_at ts x.1 >>= λ k.
      node (d.room i) (tree.expression x.0 (span ts i k)) k succeed

  unfoldable pub else_from : ℕ → Expr → Stmts × ℕ → Read Stmt
  else_from i t x =
      if is_else (terminal_at ts x.1)
      then (sub_at (suc x.1) >>= λ y. node (d.room i)
      (tree.if_else t x.0 (tree.present (tree.branch_of y.0)) (span ts i y.1)) y.1 succeed)
      else node (d.room i) (tree.if_else t x.0 tree.absent (span ts i x.1)) x.1 succeed

  unfoldable pub if_at : ℕ → Read Stmt
  if_at i = head_at (suc i) >>= λ t. sub_at t.1 >>= else_from i t.0

  unfoldable pub do_at : ℕ → Read Stmt
  do_at i = sub_at (suc i) >>= λ x.
      if is_while (terminal_at ts x.1)
      then (head_at (suc x.1) >>= λ t. ends_at ts t.1 >>= λ k. node (d.room i) (tree.do_while x.0 t.0 (span ts i k)) k
      succeed)
      else None

  unfoldable pub while_at : ℕ → Read Stmt
  while_at i =
      head_at (suc i) >>= λ t. sub_at t.1 >>= λ x. node (d.room i) (tree.while t.0 x.0 (span ts i x.1)) x.1 succeed

  -- an expression, or none before a token that passes the test
  unfoldable pub optional_at : (Terminal → Bool) → ℕ → Read (OptionalTree Span tree.expr)
  optional_at ends i = if ends (terminal_at ts i) then Some (tree.absent, i) else
      (d.expression false i >>= λ x. Some (tree.present x.0, x.1))

  -- a `for` from its first semicolon on
  unfoldable pub for_from : ℕ → Tree Span tree.init × ℕ → Read Stmt
  for_from i a =
      if is_semicolon (terminal_at ts a.1)
      then (optional_at is_semicolon (suc a.1) >>= λ b. if is_semicolon (terminal_at ts b.1)
      then (optional_at is_close_paren (suc b.1) >>= λ c. if is_close_paren (terminal_at ts c.1)
      then (sub_at (suc c.1) >>= λ x. node (d.room i) (tree.for a.0 b.0 c.0 x.0 (span ts i x.1)) x.1 succeed)
      else None)
      else None)
      else None

  -- a `for` after its `in`
  unfoldable pub for_in_from : ℕ → Bool → Ident Span → ℕ → Read Stmt
  for_in_from i is_var x j = d.expression false j >>= λ t. if is_close_paren (terminal_at ts t.1)
      then (sub_at (suc t.1) >>= λ w. node (d.room i) (tree.for_in is_var x t.0 w.0 (span ts i w.1)) w.1 succeed)
      else None

  unfoldable pub for_var_at : ℕ → Read Stmt
  for_var_at i =
      if is_identifier (terminal_at ts (suc (suc (suc i)))) && is_in (terminal_at ts (suc (suc (suc (suc i)))))
      then for_in_from i true (ident_at ts (suc (suc (suc i)))) (suc (suc (suc (suc (suc i)))))
      else (declarations_from true (length ts) (suc (suc (suc i))) >>= λ x. for_from i (tree.init_var x.0, x.1))

  unfoldable pub for_expression_at : ℕ → Read Stmt
  for_expression_at i = d.expression true (suc (suc i)) >>= λ x. if is_in (terminal_at ts x.1)
      then (name_of x.0 >>= λ n. for_in_from i false n (suc x.1))
      else for_from i (tree.init_expression x.0, x.1)

  unfoldable pub for_at : ℕ → Read Stmt
  for_at i =
      if is_open_paren (terminal_at ts (suc i))
      then (if is_semicolon (terminal_at ts (suc (suc i)))
      then for_from i (tree.nothing, suc (suc i))
      else (if is_var (terminal_at ts (suc (suc i))) then for_var_at i else for_expression_at i))
      else None

  unfoldable pub continue_at : ℕ → Read Stmt
  continue_at i = label_at ts (suc i) >>= λ x. Some (tree.continue x.0 (span ts i x.1), x.1)

  unfoldable pub break_at : ℕ → Read Stmt
  break_at i = label_at ts (suc i) >>= λ x. Some (tree.break x.0 (span ts i x.1), x.1)

  unfoldable pub return_by : ℕ → Option ℕ → Read Stmt
  return_by i (Some k) = Some (tree.return tree.absent (span ts i k), k)
  return_by i None = d.expression false (suc i) >>= λ x. ends_at ts x.1 >>= λ k.
      node (d.room i) (tree.return (tree.present x.0) (span ts i k)) k succeed

  unfoldable pub return_at : ℕ → Read Stmt
  return_at i = return_by i (ends_at ts (suc i))

  unfoldable pub throw_at : ℕ → Read Stmt
  throw_at i =
      if line_at ts (suc i)
      then None
      else (d.expression false (suc i) >>= λ x. ends_at ts x.1 >>= λ k.
      node (d.room i) (tree.throw x.0 (span ts i k)) k succeed)

  -- at most n clauses of a `switch`, with one default or, with false, none
  unfoldable pub clauses_from : ℕ → Bool → ℕ → Read (Forest Span tree.clause)
  clauses_from zero fresh i = if is_close_brace (terminal_at ts i) then Some (tree.end, i) else None
  clauses_from (suc n) fresh i =
      if is_close_brace (terminal_at ts i)
      then Some (tree.end, i)
      else (if is_case (terminal_at ts i)
      then (d.expression false (suc i) >>= λ t. if is_colon (terminal_at ts t.1)
      then (statements_from (length ts) (suc t.1) >>= λ x. clauses_from n fresh x.1 >>= λ r.
      Some (tree.more (tree.case (tree.present t.0) x.0) r.0, r.1))
      else None)
      else (if is_default (terminal_at ts i) && (fresh && is_colon (terminal_at ts (suc i)))
      then (statements_from (length ts) (suc (suc i)) >>= λ x. clauses_from n false x.1 >>= λ r.
      Some (tree.more (tree.case tree.absent x.0) r.0, r.1))
      else None))

  unfoldable pub switch_at : ℕ → Read Stmt
  switch_at i = head_at (suc i) >>= λ t. if is_open_brace (terminal_at ts t.1)
      then (clauses_from (length ts) true (suc t.1) >>= λ c.
      if is_close_brace (terminal_at ts c.1) then node (d.room i) (tree.switch t.0 c.0 (span ts i (suc c.1)))
      (suc c.1) succeed else None)
      else None

  unfoldable pub catch_at : ℕ → Read (Tree Span tree.handler)
  catch_at i =
      if is_open_paren (terminal_at ts (suc i)) &&
      (is_identifier (terminal_at ts (suc (suc i))) && is_close_paren (terminal_at ts (suc (suc (suc i)))))
      then (block_at (suc (suc (suc (suc i)))) >>= λ x. Some (tree.catch (ident_at ts (suc (suc i))) x.0, x.1))
      else None

  unfoldable pub finally_from : ℕ → Stmts → Tree Span tree.handler × ℕ → Read Stmt
  finally_from i ws h =
      if is_finally (terminal_at ts h.1)
      then (block_at (suc h.1) >>= λ u. node (d.room i)
      (tree.try ws (tree.present h.0) (tree.present (tree.branch_of u.0)) (span ts i u.1)) u.1 succeed)
      else node (d.room i) (tree.try ws (tree.present h.0) tree.absent (span ts i h.1)) h.1 succeed

  unfoldable pub try_at : ℕ → Read Stmt
  try_at i = block_at (suc i) >>= λ x. if is_catch (terminal_at ts x.1)
      then (catch_at x.1 >>= finally_from i x.0)
      else (if is_finally (terminal_at ts x.1)
      then (block_at (suc x.1) >>= λ u. node (d.room i)
      (tree.try x.0 tree.absent (tree.present (tree.branch_of u.0)) (span ts i u.1)) u.1 succeed)
      else None)

  -- a statement that begins with an identifier
  unfoldable pub named_at : ℕ → Read Stmt
  named_at i =
      if is_colon (terminal_at ts (suc i))
      then (d.statement (suc (suc i)) >>= λ w. node (d.room i) (tree.labelled (ident_at ts i) w.0 (span ts i w.1)) w.1
      succeed)
      else express_at i

  unfoldable pub statement_by : ℕ → Terminal → Read Stmt
  statement_by i (terminals.Punct puncts.LeftBrace) =
      block_at i >>= λ x. node (d.room i) (tree.block x.0 (span ts i x.1)) x.1 succeed
  statement_by i (terminals.Word words.Var) = var_at i
  statement_by i (terminals.Punct puncts.Semicolon) = Some (tree.empty (span ts i (suc i)), suc i)
  statement_by i (terminals.Word words.If) = if_at i
  statement_by i (terminals.Word words.Do) = do_at i
  statement_by i (terminals.Word words.While) = while_at i
  statement_by i (terminals.Word words.For) = for_at i
  statement_by i (terminals.Word words.Continue) = continue_at i
  statement_by i (terminals.Word words.Break) = break_at i
  statement_by i (terminals.Word words.Return) = return_at i
  statement_by i (terminals.Word words.Switch) = switch_at i
  statement_by i (terminals.Word words.Throw) = throw_at i
  statement_by i (terminals.Word words.Try) = try_at i
  statement_by i (terminals.Word words.Debugger) = ends_at ts (suc i) >>= λ k. Some (tree.debugger (span ts i k), k)
  statement_by i (terminals.Word words.Function) = None
  statement_by i terminals.Identifier = named_at i
  statement_by i terminals.Get = named_at i
  statement_by i terminals.Set = named_at i
  statement_by i _ = express_at i

  unfoldable pub statement_at : ℕ → Read Stmt
  statement_at i = statement_by i (terminal_at ts i)
