-- What the reader does at each production of expressions and functions.
use Rattle.std.proofs.Common.{◌≡◌, ℕ, zero, suc, pred, Bool, true, false, not, ◌&&◌, ◌≤◌, refl, ap, ◌∙◌, length, []}
use Rattle.std.proofs.Common.{◌∷◌}
use Rattle.std.proofs.lemmas.Bool.{le-leb}
use Rattle.std.specs.Prelude.{◌-◌, List, Option, Some, None, nat_le, is_some}
use Rattle.jl_ast.specs.declared.ops.BinOp.{BinOp}
use Rattle.jl_ast.specs.declared.ops.BinOp.TheVariants as ops
use Rattle.jl_ast.specs.declared.ops.UnOp.{UnOp}
use Rattle.jl_ast.specs.Height.{height}
use Rattle.jl_ast.specs.Tree.{Ident, Tree, Forest, OptionalTree}
use Rattle.jl_ast.specs.Tree as tree
use Rattle.jl_text.specs.declared.span.Span.{Span}
use Rattle.jl_token.specs.declared.punct.Punct.TheVariants as puncts
use Rattle.jl_token.specs.declared.token.Token.{Token}
use Rattle.jl_grammar.specs.declared.terminal.Terminal.{Terminal}
use Rattle.jl_grammar.specs.declared.terminal.Terminal.TheVariants as terminals
use Rattle.jl_grammar.specs.declared.word.Word.TheVariants as words
use Rattle.jl_grammar.specs.Next.{open_paren, close_paren, open_bracket, close_bracket, open_brace, close_brace}
use Rattle.jl_grammar.specs.Next.{dot_terminal, comma, colon, question, keyword, is_identifier, is_name, is_key}
use Rattle.jl_grammar.specs.Next.{is_open_paren, is_comma, is_colon, is_question, continues_left, updates_at}
use Rattle.jl_grammar.specs.Operators.{InfixOperator, plain, both, either, level, infix_operator, infix_node}
use Rattle.jl_grammar.specs.Operators.{infix_precedence, infix_precedence_of}
use Rattle.jl_grammar.specs.Operators.{continues, assign_operator, assigns, unary_operator, update_operator}
use Rattle.jl_grammar.specs.Reads.{Expr, Exprs, Code, JoinsAt, AssignsAt, PrefixAt, UpdateAt, IsTarget}
use Rattle.jl_grammar.specs.Tokens.{At, Is, terminal_at, line_at, text_at, number_at, span, ident_at, key_ident_at}
use Rattle.jl_grammar.specs.Reader.{is_close_paren, is_close_bracket, is_close_brace, is_new, names_from, parameters_at}
use Rattle.jl_grammar.specs.Reader.{then_close_paren, body_from, rest_at, function_at, items_from, value_at, getter_by}
use Rattle.jl_grammar.specs.Reader.{setter_by, accessor_at, entry_by, entry_at, entries_from, primary_by, primary_at}
use Rattle.jl_grammar.specs.Reader.{arguments_from, arguments_at, new_at, start_at, left_by, left_from, left_at}
use Rattle.jl_grammar.specs.Reader.{postfix_by, postfix_at, unary_by, unary_at, binary_by, binary_from, binary_at}
use Rattle.jl_grammar.specs.Reader.{conditional_from, conditional_at, assignment_by, assignment_at, comma_from}
use Rattle.jl_grammar.specs.Reader.{expression_at, node, Read, Deeper}

-- a infix operator has a looseness, and so at least 1
pub some_looseness : (o : Option InfixOperator) → nat_le 1 (infix_precedence_of o) ≡ is_some o
some_looseness None = refl
some_looseness (Some (plain op)) = plain_looseness op
  where
    plain_looseness : (op : BinOp) → nat_le 1 (9 - level op) ≡ true
    plain_looseness ops.Mul = refl
    plain_looseness _ = refl
some_looseness (Some both) = refl
some_looseness (Some either) = refl

-- a node that is low enough is made
pub fitting : {x : tree.Sort} {B : Type 0} (most : ℕ) (t : Tree Span x) (j : ℕ) (go : Tree Span x → ℕ → Option B)
    → height t ≤ suc most → node most t j go ≡ go t j
unfolding node
fitting most t j go h = rw (le-leb _ _ h, node)

module _ (ts : List Token) where
  pub last_name_step : (n i : ℕ) → Is is_identifier ts i → At ts (suc i) close_paren
      → names_from ts (suc n) i ≡ Some (ident_at ts i ∷ [], suc (suc i))
  unfolding names_from
  last_name_step n i e f = rw (e.is, f.is, names_from)

  pub more_names_step : (n i j : ℕ) (ps : List (Ident Span)) → Is is_identifier ts i → At ts (suc i) comma
      → names_from ts n (suc (suc i)) ≡ Some (ps, j) → names_from ts (suc n) i ≡ Some (ident_at ts i ∷ ps, j)
  unfolding names_from
  more_names_step n i j ps e f h = rw (e.is, f.is, h, names_from)

  pub no_parameters_step : (i : ℕ) → At ts i close_paren → parameters_at ts i ≡ Some ([], suc i)
  unfolding parameters_at
  no_parameters_step i e = rw (e.is, parameters_at)

  pub parameters_step : (i : ℕ) → is_close_paren (terminal_at ts i) ≡ false
      → parameters_at ts i ≡ names_from ts (length ts) i
  unfolding parameters_at
  parameters_step i e = rw (e, parameters_at)

module _ (ts : List Token) (d : Deeper) where
  pub this_step : (i : ℕ) → At ts i (keyword words.This)
      → primary_at ts d i ≡ Some (tree.this (span ts i (suc i)), suc i)
  unfolding primary_at primary_by
  this_step i e = rw (e.is, primary_at)

  name_by : (i : ℕ) (k : Terminal) → is_identifier k ≡ true
      → primary_by ts d i k ≡ Some (tree.name (text_at ts i) (span ts i (suc i)), suc i)
  unfolding primary_by
  name_by i terminals.Identifier h = refl
  name_by i terminals.Get h = refl
  name_by i terminals.Set h = refl
  name_by i _ h = cc

  pub name_step : (i : ℕ) → Is is_identifier ts i
      → primary_at ts d i ≡ Some (tree.name (text_at ts i) (span ts i (suc i)), suc i)
  unfolding primary_at
  name_step i e = name_by i (terminal_at ts i) e.is

  pub null_step : (i : ℕ) → At ts i (keyword words.Null)
      → primary_at ts d i ≡ Some (tree.null (span ts i (suc i)), suc i)
  unfolding primary_at primary_by
  null_step i e = rw (e.is, primary_at)

  pub true_step : (i : ℕ) → At ts i (keyword words.True)
      → primary_at ts d i ≡ Some (tree.boolean true (span ts i (suc i)), suc i)
  unfolding primary_at primary_by
  true_step i e = rw (e.is, primary_at)

  pub false_step : (i : ℕ) → At ts i (keyword words.False)
      → primary_at ts d i ≡ Some (tree.boolean false (span ts i (suc i)), suc i)
  unfolding primary_at primary_by
  false_step i e = rw (e.is, primary_at)

  pub number_step : (i : ℕ) → At ts i terminals.Number
      → primary_at ts d i ≡ Some (tree.number (number_at ts i) (span ts i (suc i)), suc i)
  unfolding primary_at primary_by
  number_step i e = rw (e.is, primary_at)

  pub string_step : (i : ℕ) → At ts i terminals.Str
      → primary_at ts d i ≡ Some (tree.string (text_at ts i) (span ts i (suc i)), suc i)
  unfolding primary_at primary_by
  string_step i e = rw (e.is, primary_at)

  pub array_step : (i j : ℕ) (xs : Forest Span tree.item) → At ts i open_bracket
      → items_from ts d (length ts) (suc i) ≡ Some (xs, j) → height (tree.array xs (span ts i j)) ≤ suc (d.room i)
      → primary_at ts d i ≡ Some (tree.array xs (span ts i j), j)
  unfolding primary_at primary_by
  array_step i j xs e h fits = rw (e.is, h, primary_at) (fitting _ _ _ _ fits)

  pub object_step : (i j : ℕ) (xs : Forest Span tree.entry) → At ts i open_brace
      → entries_from ts d (length ts) (suc i) ≡ Some (xs, j)
      → height (tree.object xs (span ts i j)) ≤ suc (d.room i)
      → primary_at ts d i ≡ Some (tree.object xs (span ts i j), j)
  unfolding primary_at primary_by
  object_step i j xs e h fits = rw (e.is, h, primary_at) (fitting _ _ _ _ fits)

  pub parens_step : (i j : ℕ) (t : Expr) → At ts i open_paren → d.expression false (suc i) ≡ Some (t, j)
      → At ts j close_paren → primary_at ts d i ≡ Some (t, suc j)
  unfolding primary_at primary_by then_close_paren
  parens_step i j t e h f = rw (e.is, h, f.is, primary_at)

  pub function_step : (i j : ℕ) (ps : List (Ident Span)) (c : Code) → At ts i (keyword words.Function)
      → is_identifier (terminal_at ts (suc i)) ≡ false → rest_at ts d (suc i) ≡ Some ((ps, c), j)
      → height (tree.function_expression (tree.function 0 None ps c (span ts i j)) (span ts i j)) ≤ suc (d.room i)
      → primary_at ts d i ≡ Some (tree.function_expression (tree.function 0 None ps c (span ts i j)) (span ts i j), j)
  unfolding primary_at primary_by function_at
  function_step i j ps c e f h fits = rw (e.is, primary_at) (rw (f, h, function_at) (fitting _ _ _ _ fits))

  pub named_function_step : (i j : ℕ) (ps : List (Ident Span)) (c : Code) → At ts i (keyword words.Function)
      → Is is_identifier ts (suc i) → rest_at ts d (suc (suc i)) ≡ Some ((ps, c), j)
      → height (tree.function_expression (tree.function 0 (Some (ident_at ts (suc i))) ps c (span ts i j))
      (span ts i j)) ≤ suc (d.room i)
      → primary_at ts d i ≡ Some (
        tree.function_expression
            (tree.function 0 (Some (ident_at ts (suc i))) ps c (span ts i j)) (span ts i j),
        j,
      )
  unfolding primary_at primary_by function_at
  named_function_step i j ps c e f h fits = rw (e.is, primary_at) (rw (f.is, h, function_at) (fitting _ _ _ _ fits))

  pub no_items_step : (n i : ℕ) → At ts i close_bracket → items_from ts d n i ≡ Some (tree.end, suc i)
  unfolding items_from
  no_items_step zero i e = rw (e.is, items_from)
  no_items_step (suc n) i e = rw (e.is, items_from)

  pub hole_step : (n i j : ℕ) (xs : Forest Span tree.item) → At ts i comma → items_from ts d n (suc i) ≡ Some (xs, j)
      → items_from ts d (suc n) i ≡ Some (tree.more tree.hole xs, j)
  unfolding items_from
  hole_step n i j xs e h = rw (e.is, h, items_from)

  pub last_item_step : (n i j : ℕ) (t : Expr) → is_close_bracket (terminal_at ts i) ≡ false
      → is_comma (terminal_at ts i) ≡ false → d.assignment false i ≡ Some (t, j) → At ts j close_bracket
      → items_from ts d (suc n) i ≡ Some (tree.more (tree.filled t) tree.end, suc j)
  unfolding items_from
  last_item_step n i j t a b h e = rw (a, b, h, e.is, items_from)

  pub more_items_step : (n i j k : ℕ) (t : Expr) (xs : Forest Span tree.item) → is_close_bracket (terminal_at ts i)
      ≡ false
      → is_comma (terminal_at ts i) ≡ false → d.assignment false i ≡ Some (t, j) → At ts j comma
      → items_from ts d n (suc j) ≡ Some (xs, k) → items_from ts d (suc n) i ≡ Some (tree.more (tree.filled t) xs, k)
  unfolding items_from
  more_items_step n i j k t xs a b h e g = rw (a, b, h, e.is, g, items_from)

  pub no_entries_step : (n i : ℕ) → At ts i close_brace → entries_from ts d n i ≡ Some (tree.end, suc i)
  unfolding entries_from
  no_entries_step zero i e = rw (e.is, entries_from)
  no_entries_step (suc n) i e = rw (e.is, entries_from)

  pub last_entry_step : (n i j : ℕ) (t : Tree Span tree.entry) → is_close_brace (terminal_at ts i) ≡ false
      → entry_at ts d i ≡ Some (t, j) → At ts j close_brace
      → entries_from ts d (suc n) i ≡ Some (tree.more t tree.end, suc j)
  unfolding entries_from
  last_entry_step n i j t a h e = rw (a, h, e.is, entries_from)

  pub more_entries_step : (n i j k : ℕ) (t : Tree Span tree.entry) (xs : Forest Span tree.entry)
      → is_close_brace (terminal_at ts i) ≡ false → entry_at ts d i ≡ Some (t, j) → At ts j comma
      → entries_from ts d n (suc j) ≡ Some (xs, k) → entries_from ts d (suc n) i ≡ Some (tree.more t xs, k)
  unfolding entries_from
  more_entries_step n i j k t xs a h e g = rw (a, h, e.is, g, entries_from)

  value_by : (i : ℕ) (k : Terminal) → is_colon (terminal_at ts (suc i)) ≡ true → entry_by ts d i k ≡ value_at ts d i
  unfolding entry_by accessor_at
  value_by i terminals.Get h = rw (h, entry_by)
  value_by i terminals.Set h = rw (h, entry_by)
  value_by i _ h = refl

  pub value_step : (i j : ℕ) (t : Expr) → Is is_key ts i → At ts (suc i) colon
      → d.assignment false (suc (suc i)) ≡ Some (t, j) → entry_at ts d i ≡ Some (tree.value (key_ident_at ts i) t, j)
  unfolding entry_at value_at
  value_step i j t e f h = value_by i (terminal_at ts i) (ap is_colon f.is) ∙ rw (e.is, f.is, h, value_at)

  pub getter_step : (i j : ℕ) (c : Code) → At ts i terminals.Get → is_colon (terminal_at ts (suc i)) ≡ false
      → Is is_key ts (suc i) → rest_at ts d (suc (suc i)) ≡ Some (([], c), j)
      → height (tree.function 0 None [] c (span ts i j)) ≤ suc (d.room i)
      → entry_at ts d i ≡ Some (tree.getter (key_ident_at ts (suc i)) (tree.function 0 None [] c (span ts i j)), j)
  unfolding entry_at entry_by accessor_at getter_by
  getter_step i j c e a f h fits = rw (e.is, entry_at) (rw (a, f.is, h, accessor_at) (fitting _ _ _ _ fits))

  pub setter_step : (i j : ℕ) (p : Ident Span) (c : Code) → At ts i terminals.Set → is_colon (terminal_at ts (suc i))
      ≡ false
      → Is is_key ts (suc i) → rest_at ts d (suc (suc i)) ≡ Some ((p ∷ [], c), j)
      → height (tree.function 0 None (p ∷ []) c (span ts i j)) ≤ suc (d.room i)
      → entry_at ts d i ≡ Some (
        tree.setter (key_ident_at ts (suc i)) (tree.function 0 None (p ∷ []) c (span ts i j)),
        j,
      )
  unfolding entry_at entry_by accessor_at setter_by
  setter_step i j p c e a f h fits = rw (e.is, entry_at) (rw (a, f.is, h, accessor_at) (fitting _ _ _ _ fits))

  pub rest_step : (i j k : ℕ) (ps : List (Ident Span)) (c : Code) → At ts i open_paren
      → parameters_at ts (suc i) ≡ Some (ps, j) → At ts j open_brace
      → body_from ts d (length ts) (suc j) ≡ Some (c, k) → At ts k close_brace
      → rest_at ts d i ≡ Some ((ps, c), suc k)
  unfolding rest_at
  rest_step i j k ps c e h f g q = rw (e.is, h, f.is, g, q.is, rest_at)

  pub new_start_step : (i j k : ℕ) (t : Expr) (us : Exprs) → At ts i (keyword words.New)
      → d.member (suc i) ≡ Some (t, j) → At ts j open_paren → arguments_at ts d (suc j) ≡ Some (us, k)
      → height (tree.new t us (span ts i k)) ≤ suc (d.room i)
      → start_at ts d i ≡ Some (tree.new t us (span ts i k), k)
  unfolding start_at new_at
  new_start_step i j k t us e h f g fits = rw (e.is, start_at) (rw (h, f.is, g, new_at) (fitting _ _ _ _ fits))

  pub bare_new_start_step : (i j : ℕ) (t : Expr) → At ts i (keyword words.New) → d.member (suc i) ≡ Some (t, j)
      → is_open_paren (terminal_at ts j) ≡ false → height (tree.new t tree.end (span ts i j)) ≤ suc (d.room i)
      → start_at ts d i ≡ Some (tree.new t tree.end (span ts i j), j)
  unfolding start_at new_at
  bare_new_start_step i j t e h f fits = rw (e.is, start_at) (rw (h, f, new_at) (fitting _ _ _ _ fits))

  pub primary_start_step : (i : ℕ) → is_new (terminal_at ts i) ≡ false → start_at ts d i ≡ primary_at ts d i
  unfolding start_at
  primary_start_step i h = rw (h, start_at)

  pub left_step : (calls : Bool) (n i j : ℕ) (t : Expr) → start_at ts d i ≡ Some (t, j)
      → left_at ts d calls n i ≡ left_from ts d calls n i t j
  unfolding left_at
  left_step calls n i j t h = rw (h, left_at)

  pub dot_step : (calls : Bool) (n i j : ℕ) (t : Expr) → At ts j dot_terminal → Is is_name ts (suc j)
      → height (tree.dot t (text_at ts (suc j)) (span ts i (suc (suc j)))) ≤ suc (d.room i)
      → left_from ts d calls (suc n) i t j ≡ left_from ts d calls n i
      (tree.dot t (text_at ts (suc j)) (span ts i (suc (suc j)))) (suc (suc j))
  unfolding left_from left_by
  dot_step true n i j t e f fits = rw (e.is, f.is, left_from) (fitting _ _ _ _ fits)
  dot_step false n i j t e f fits = rw (e.is, f.is, left_from) (fitting _ _ _ _ fits)

  pub index_step : (calls : Bool) (n i j k : ℕ) (t u : Expr) → At ts j open_bracket
      → d.expression false (suc j) ≡ Some (u, k) → At ts k close_bracket
      → height (tree.index t u (span ts i (suc k))) ≤ suc (d.room i)
      → left_from ts d calls (suc n) i t j ≡ left_from ts d calls n i (tree.index t u (span ts i (suc k))) (suc k)
  unfolding left_from left_by
  index_step true n i j k t u e h f fits = rw (e.is, h, f.is, left_from) (fitting _ _ _ _ fits)
  index_step false n i j k t u e h f fits = rw (e.is, h, f.is, left_from) (fitting _ _ _ _ fits)

  pub call_step : (n i j k : ℕ) (t : Expr) (us : Exprs) → At ts j open_paren
      → arguments_at ts d (suc j) ≡ Some (us, k) → height (tree.call t us (span ts i k)) ≤ suc (d.room i)
      → left_from ts d true (suc n) i t j ≡ left_from ts d true n i (tree.call t us (span ts i k)) k
  unfolding left_from left_by
  call_step n i j k t us e h fits = rw (e.is, h, left_from) (fitting _ _ _ _ fits)

  left_by_stop : (calls : Bool) (go : Expr → ℕ → Read Expr) (i j : ℕ) (t : Expr) (k : Terminal)
      → continues_left calls k ≡ false → left_by ts d calls go i t j k ≡ Some (t, j)
  unfolding left_by
  left_by_stop true go i j t (terminals.Punct puncts.Dot) h = cc
  left_by_stop true go i j t (terminals.Punct puncts.LeftBracket) h = cc
  left_by_stop true go i j t (terminals.Punct puncts.LeftParen) h = cc
  left_by_stop false go i j t (terminals.Punct puncts.Dot) h = cc
  left_by_stop false go i j t (terminals.Punct puncts.LeftBracket) h = cc
  left_by_stop _ go i j t _ h = refl

  pub left_stop : (calls : Bool) (n i j : ℕ) (t : Expr) → continues_left calls (terminal_at ts j) ≡ false
      → left_from ts d calls n i t j ≡ Some (t, j)
  unfolding left_from
  left_stop calls zero i j t h = rw (h, left_from)
  left_stop calls (suc n) i j t h = left_by_stop calls (left_from ts d calls n i) i j t (terminal_at ts j) h

  pub no_arguments_step : (i : ℕ) → At ts i close_paren → arguments_at ts d i ≡ Some (tree.end, suc i)
  unfolding arguments_at
  no_arguments_step i e = rw (e.is, arguments_at)

  pub arguments_step : (i : ℕ) → is_close_paren (terminal_at ts i) ≡ false
      → arguments_at ts d i ≡ arguments_from ts d (length ts) i
  unfolding arguments_at
  arguments_step i e = rw (e, arguments_at)

  pub last_argument_step : (n i j : ℕ) (t : Expr) → d.assignment false i ≡ Some (t, j) → At ts j close_paren
      → arguments_from ts d (suc n) i ≡ Some (tree.more t tree.end, suc j)
  unfolding arguments_from
  last_argument_step n i j t h e = rw (h, e.is, arguments_from)

  pub more_arguments_step : (n i j k : ℕ) (t : Expr) (us : Exprs) → d.assignment false i ≡ Some (t, j) → At ts j comma
      → arguments_from ts d n (suc j) ≡ Some (us, k) → arguments_from ts d (suc n) i ≡ Some (tree.more t us, k)
  unfolding arguments_from
  more_arguments_step n i j k t us h e g = rw (h, e.is, g, arguments_from)

  no_postfix_by : (i j : ℕ) (t : Expr) (o : Option Bool) (b : Bool) → (is_some o && not b) ≡ false
      → postfix_by ts d i t j o b ≡ Some (t, j)
  unfolding postfix_by
  no_postfix_by i j t (Some up) false h = cc
  no_postfix_by i j t (Some up) true h = refl
  no_postfix_by i j t None b h = refl

  pub no_postfix_step : (n i j : ℕ) (t : Expr) → left_at ts d true n i ≡ Some (t, j) → updates_at ts j ≡ false
      → postfix_at ts d n i ≡ Some (t, j)
  unfolding postfix_at
  no_postfix_step n i j t h e = rw (h, postfix_at)
      (no_postfix_by i j t (update_operator (terminal_at ts j)) (line_at ts j) e)

  pub postfix_step : (n i j : ℕ) (t : Expr) (g : Tree Span tree.target) (up : Bool)
      → left_at ts d true n i ≡ Some (t, j) → IsTarget t g → UpdateAt ts j up → line_at ts j ≡ false
      → height (tree.update up false g (span ts i (suc j))) ≤ suc (d.room i)
      → postfix_at ts d n i ≡ Some (tree.update up false g (span ts i (suc j)), suc j)
  unfolding postfix_at postfix_by
  postfix_step n i j t g up h q e f fits = rw (h, e.is, f, q.is, postfix_at) (fitting _ _ _ _ fits)

  pub no_prefix_step : (n i j : ℕ) (t : Expr) → unary_operator (terminal_at ts i) ≡ None
      → update_operator (terminal_at ts i) ≡ None → postfix_at ts d n i ≡ Some (t, j) → unary_at ts d n i ≡ Some (t, j)
  unfolding unary_at unary_by
  no_prefix_step n i j t e f h = rw (e, f, h, unary_at)

  pub prefix_step : (n i j : ℕ) (t : Expr) (op : UnOp) → PrefixAt ts i op → d.unary (suc i) ≡ Some (t, j)
      → height (tree.unary op t (span ts i j)) ≤ suc (d.room i)
      → unary_at ts d n i ≡ Some (tree.unary op t (span ts i j), j)
  unfolding unary_at unary_by
  prefix_step n i j t op e h fits = rw (e.is, h, unary_at) (fitting _ _ _ _ fits)

  pub update_step : (n i j : ℕ) (t : Expr) (g : Tree Span tree.target) (up : Bool)
      → unary_operator (terminal_at ts i) ≡ None → UpdateAt ts i up → left_at ts d true n (suc i) ≡ Some (t, j)
      → IsTarget t g → height (tree.update up true g (span ts i j)) ≤ suc (d.room i)
      → unary_at ts d n i ≡ Some (tree.update up true g (span ts i j), j)
  unfolding unary_at unary_by
  update_step n i j t g up a e h q fits = rw (a, e.is, h, q.is, unary_at) (fitting _ _ _ _ fits)

  pub binary_step : (no_in : Bool) (n m i j : ℕ) (t : Expr) → unary_at ts d n i ≡ Some (t, j)
      → binary_at ts d no_in n m i ≡ binary_from ts d no_in n m i t j
  unfolding binary_at
  binary_step no_in n m i j t h = rw (h, binary_at)

  pub infix_operator_step : (no_in : Bool) (n m i j k : ℕ) (a b : Expr) (op : InfixOperator) → JoinsAt ts no_in j op
      → infix_precedence op ≤ m
      → d.binary no_in (pred (infix_precedence op)) (suc j) ≡ Some (b, k)
      → height (infix_node op a b (span ts i k)) ≤ suc (d.room i)
      → binary_from ts d no_in (suc n) m i a j ≡ binary_from ts d no_in n m i (infix_node op a b (span ts i k)) k
  unfolding binary_from binary_by
  infix_operator_step no_in n m i j k a b op e l h fits =
      rw (e.is, le-leb _ _ l, h, binary_from) (fitting _ _ _ _ fits)

  binary_by_stop : (no_in : Bool) (go : Expr → ℕ → Read Expr) (m i j : ℕ) (t : Expr) (o : Option InfixOperator)
      → (nat_le 1 (infix_precedence_of o) && nat_le (infix_precedence_of o) m) ≡ false
      → nat_le 1 (infix_precedence_of o) ≡ is_some o
      → binary_by ts d no_in go m i t j o ≡ Some (t, j)
  unfolding binary_by
  binary_by_stop no_in go m i j t None h q = refl
  binary_by_stop no_in go m i j t (Some op) h q =
      rw (binary_by_false (nat_le 1 (infix_precedence op)) (nat_le (infix_precedence op) m) h q, binary_by)
    where
      binary_by_false : (a b : Bool) → (a && b) ≡ false → a ≡ true → b ≡ false
      binary_by_false true b h q = h
      binary_by_false false b h q = cc

  pub binary_stop : (no_in : Bool) (n m i j : ℕ) (t : Expr) → continues no_in m (terminal_at ts j) ≡ false
      → binary_from ts d no_in n m i t j ≡ Some (t, j)
  unfolding binary_from
  binary_stop no_in zero m i j t h = rw (h, binary_from)
  binary_stop no_in (suc n) m i j t h = binary_by_stop no_in (binary_from ts d no_in n m i) m i j t
      (infix_operator no_in (terminal_at ts j)) h (some_looseness (infix_operator no_in (terminal_at ts j)))

  pub no_question_step : (no_in : Bool) (n i j : ℕ) (t : Expr) → binary_at ts d no_in n 10 i ≡ Some (t, j)
      → is_question (terminal_at ts j) ≡ false → conditional_at ts d no_in n i ≡ Some (t, j)
  unfolding conditional_at conditional_from
  no_question_step no_in n i j t h e = rw (h, e, conditional_at)

  pub question_step : (no_in : Bool) (n i j k m : ℕ) (c a b : Expr) → binary_at ts d no_in n 10 i ≡ Some (c, j)
      → At ts j question → d.assignment false (suc j) ≡ Some (a, k) → At ts k colon
      → d.assignment no_in (suc k) ≡ Some (b, m)
      → height (tree.conditional c a b (span ts i m)) ≤ suc (d.room i)
      → conditional_at ts d no_in n i ≡ Some (tree.conditional c a b (span ts i m), m)
  unfolding conditional_at conditional_from
  question_step no_in n i j k m c a b h e g f q fits = rw (h, e.is, g, f.is, q, conditional_at) (fitting _ _ _ _ fits)

  no_assignment_by : (no_in : Bool) (i j : ℕ) (t : Expr) (o : Option (Option BinOp)) → is_some o ≡ false
      → assignment_by ts d no_in i t j o ≡ Some (t, j)
  unfolding assignment_by
  no_assignment_by no_in i j t None h = refl
  no_assignment_by no_in i j t (Some op) h = cc

  pub no_assign_step : (no_in : Bool) (n i j : ℕ) (t : Expr) → conditional_at ts d no_in n i ≡ Some (t, j)
      → assigns (terminal_at ts j) ≡ false → assignment_at ts d no_in n i ≡ Some (t, j)
  unfolding assignment_at
  no_assign_step no_in n i j t h e = rw (h, assignment_at)
      (no_assignment_by no_in i j t (assign_operator (terminal_at ts j)) e)

  pub assign_step : (no_in : Bool) (n i j k : ℕ) (t v : Expr) (g : Tree Span tree.target) (op : Option BinOp)
      → conditional_at ts d no_in n i ≡ Some (t, j) → IsTarget t g → AssignsAt ts j op
      → d.assignment no_in (suc j) ≡ Some (v, k)
      → height (tree.assign op g v (span ts i k)) ≤ suc (d.room i)
      → assignment_at ts d no_in n i ≡ Some (tree.assign op g v (span ts i k), k)
  unfolding assignment_at assignment_by
  assign_step no_in n i j k t v g op h q e f fits = rw (h, e.is, q.is, f, assignment_at) (fitting _ _ _ _ fits)

  pub expression_step : (no_in : Bool) (n i j : ℕ) (t : Expr) → assignment_at ts d no_in n i ≡ Some (t, j)
      → expression_at ts d no_in n i ≡ comma_from ts d no_in n i t j
  unfolding expression_at
  expression_step no_in n i j t h = rw (h, expression_at)

  pub comma_step : (no_in : Bool) (n i j k : ℕ) (a b : Expr) → At ts j comma
      → d.assignment no_in (suc j) ≡ Some (b, k) → height (tree.comma a b (span ts i k)) ≤ suc (d.room i)
      → comma_from ts d no_in (suc n) i a j ≡ comma_from ts d no_in n i (tree.comma a b (span ts i k)) k
  unfolding comma_from
  comma_step no_in n i j k a b e h fits = rw (e.is, h, comma_from) (fitting _ _ _ _ fits)

  pub comma_stop : (no_in : Bool) (n i j : ℕ) (t : Expr) → is_comma (terminal_at ts j) ≡ false
      → comma_from ts d no_in n i t j ≡ Some (t, j)
  unfolding comma_from
  comma_stop no_in zero i j t h = rw (h, comma_from)
  comma_stop no_in (suc n) i j t h = rw (h, comma_from)
