-- What the reader reads of expressions and functions is in the grammar.
use Rattle.std.proofs.Common.{◌≡◌, ℕ, zero, suc, pred, ◌+◌, ◌-◌, ◌≤◌, ◌<◌, Bool, true, false, not, ◌&&◌, ◌||◌, refl}
use Rattle.std.proofs.Common.{ap, ap₂, sym, subst, arith, length, [], ◌∷◌}
use Rattle.std.specs.Prelude.{List, Option, Some, None, is_some, nat_le, if◌then◌else◌}
use Rattle.std.proofs.lemmas.Bool.Decides.{leb_tells}
use Rattle.std.proofs.lemmas.Bool.{leb-true, leb-false}
use Rattle.jl_ast.specs.declared.ops.BinOp.{BinOp}
use Rattle.jl_ast.specs.declared.ops.UnOp.{UnOp}
use Rattle.jl_token.specs.declared.punct.Punct.TheVariants as puncts
use Rattle.jl_grammar.specs.declared.terminal.Terminal.TheVariants as terminals
use Rattle.jl_grammar.specs.declared.word.Word.TheVariants as words
use Rattle.jl_ast.specs.Height.{height}
use Rattle.jl_ast.specs.Tree.{Ident, Tree, Forest, OptionalTree}
use Rattle.jl_ast.specs.Tree as tree
use Rattle.jl_text.specs.declared.span.Span.{Span}
use Rattle.jl_token.specs.declared.token.Token.{Token}
use Rattle.jl_grammar.specs.declared.terminal.Terminal.{Terminal}
use Rattle.jl_grammar.specs.Reads.{Expr, Stmt, Code, EndsAt, there, inserted, ReadsNames, last_name, more_names}
use Rattle.jl_grammar.specs.Reads.{ReadsParameters, no_parameters, parameters, ReadsPrimary, a_this, a_name, a_null}
use Rattle.jl_grammar.specs.Reads.{a_true, a_false, a_number, a_string, an_array, an_object, in_parens, a_function}
use Rattle.jl_grammar.specs.Reads.{a_named_function, ReadsItems, no_items, a_hole, last_item, more_items}
use Rattle.jl_grammar.specs.Reads.{ReadsEntries, no_entries, last_entry, more_entries, ReadsEntry, a_value}
use Rattle.jl_grammar.specs.Reads.{a_getter, a_setter, ReadsRest, a_rest, BeginsLeft, primary, a_dot, an_index}
use Rattle.jl_grammar.specs.Reads.{a_call, a_new, a_bare_new, ReadsLeft, whole_left, ReadsArguments, no_arguments}
use Rattle.jl_grammar.specs.Reads.{arguments, ReadsArgumentList, last_argument, more_arguments, ReadsPostfix, left}
use Rattle.jl_grammar.specs.Reads.{a_postfix, ReadsUnary, postfix, a_prefix, an_update, BeginsBinary, operand}
use Rattle.jl_grammar.specs.Reads.{tighter, an_infix_operator, ReadsBinary, whole_binary, ReadsConditional, operands}
use Rattle.jl_grammar.specs.Reads.{a_conditional, ReadsAssignment, conditional, an_assignment, BeginsExpression}
use Rattle.jl_grammar.specs.Reads.{assignment, a_comma, ReadsExpression, whole_expression, ReadsStatement}
use Rattle.jl_grammar.specs.Reads.{ReadsBlock, in_braces, ReadsStatements, no_statements, more_statements}
use Rattle.jl_grammar.specs.Reads.{ReadsElements, no_elements, a_declaration, a_statement, a_declared_function}
use Rattle.jl_grammar.specs.Reads.{ReadsBody, a_directive, no_directive}
use Rattle.jl_grammar.specs.Next.{keyword, is_identifier, is_name, is_key, is_open_paren, is_open_brace, is_string}
use Rattle.jl_grammar.specs.Next.{is_semicolon, is_comma, is_colon, is_question, ends_statement, ends_list}
use Rattle.jl_grammar.specs.Next.{continues_at, continues_left, is_directive, target_of}
use Rattle.jl_grammar.specs.Operators.{InfixOperator, plain, both, either, infix_operator, infix_node}
use Rattle.jl_grammar.specs.Operators.{infix_precedence, infix_precedence_of}
use Rattle.jl_grammar.specs.Operators.{continues, assign_operator, unary_operator, update_operator}
use Rattle.jl_grammar.specs.Reader.{is_close_paren, is_close_bracket, is_close_brace, is_function, is_new, name_of}
use Rattle.jl_grammar.specs.Reader.{with_directive, ends_at, names_from, parameters_at, then_close_paren}
use Rattle.jl_grammar.specs.Reader.{statements_from, block_at, elements_from, body_from, rest_at, function_at}
use Rattle.jl_grammar.specs.Reader.{items_from, value_at, getter_by, setter_by, accessor_at, entry_by, entry_at}
use Rattle.jl_grammar.specs.Reader.{entries_from, primary_by, primary_at, arguments_from, arguments_at, new_at}
use Rattle.jl_grammar.specs.Reader.{start_at, left_by, left_from, left_at, postfix_by, postfix_at, unary_by, unary_at}
use Rattle.jl_grammar.specs.Reader.{binary_by, binary_from, binary_at, conditional_from, conditional_at, assignment_by}
use Rattle.jl_grammar.specs.Reader.{assignment_at, comma_from, expression_at, node, Read, Deeper}
use Rattle.jl_grammar.specs.Tokens.{At, Is, terminal_at, line_at, strict_at, span}
use Rattle.jl_grammar.proofs.Expressions.{some_looseness}
use Rattle.jl_grammar.proofs.Holds.{Holds, nothing, just, after, weaken, test, when_true, both_true, told}
use Rattle.jl_grammar.proofs.Holds.{close_paren_terminal, close_bracket_terminal, close_brace_terminal}
use Rattle.jl_grammar.proofs.Holds.{open_paren_terminal}
use Rattle.jl_grammar.proofs.Holds.{open_brace_terminal, semicolon_terminal, comma_terminal, colon_terminal}
use Rattle.jl_grammar.proofs.Holds.{question_terminal}
use Rattle.jl_grammar.proofs.Holds.{function_terminal, new_terminal, string_terminal, not_true}

-- what holds of what a node comes to, if it is made
pub fits : {x : tree.Sort} {A : Type 0} {P : A → Type 0} (most : ℕ) (t : Tree Span x) (j : ℕ)
    (go : Tree Span x → ℕ → Option A) → Holds (go t j) P → Holds (node most t j go) P
unfolding node
fits most t j go h = when_true (nat_le (height t) (suc most)) _ (λ l. h)

-- the infix operators read so far may stop a tighter reading
pub tighter_stops : (s x y : ℕ) → x ≤ y → (nat_le 1 s && nat_le s y) ≡ false → (nat_le 1 s && nat_le s x) ≡ false
tighter_stops s x y l h = grind (arith, leb_tells)

pub looser_stops : (s x : ℕ) → x < s → (nat_le 1 s && nat_le s x) ≡ false
looser_stops s x l = grind (arith, leb_tells)

-- a infix operator that does not go on at once is as loose as it can be
tight : (s x : ℕ) → 1 ≤ s → (nat_le 1 s && nat_le s (pred x)) ≡ false → x ≤ s
tight s x p h = grind (arith, leb_tells)

no_tighter : (s : ℕ) → (nat_le 1 s && nat_le s 0) ≡ false
no_tighter s = grind (arith, leb_tells)

looseness_pos : (op : InfixOperator) → 1 ≤ infix_precedence op
looseness_pos op = leb-true _ _ (some_looseness (Some op))

suc_pred : (n : ℕ) → 1 ≤ n → suc (pred n) ≡ n
suc_pred zero h = absurd (omega arith)
suc_pred (suc n) h = refl

-- a left-hand side that stands as an operand alone
left_of_unary : {ts : List Token} {i j : ℕ} {t : Expr} {g : Tree Span tree.target} → ReadsUnary ts i t j
    → target_of t ≡ Some g → ReadsLeft ts true i t j
left_of_unary (postfix (left a b)) h = a
left_of_unary (postfix (a_postfix a b c d)) h = cc
left_of_unary (a_prefix a b) h = cc
left_of_unary (an_update a b c) h = cc

joined_is_no_target : (op : InfixOperator) (a b : Expr) (s : Span) (g : Tree Span tree.target)
    → target_of (infix_node op a b s) ≡ Some g → ⊥
joined_is_no_target (plain op) a b s g h = cc
joined_is_no_target both a b s g h = cc
joined_is_no_target either a b s g h = cc

mutual
  left_of_begins : {ts : List Token} {no_in : Bool} {l i j : ℕ} {t : Expr} {g : Tree Span tree.target}
      → BeginsBinary ts no_in l i t j → target_of t ≡ Some g → ReadsLeft ts true i t j
  left_of_begins (operand a) h = left_of_unary a h
  left_of_begins (tighter a) h = left_of_binary a h
  left_of_begins {g = g} (an_infix_operator {a = a} {b = b} {op = op} p q r s) h = absurd
      (joined_is_no_target op a b _ g h)

  left_of_binary : {ts : List Token} {no_in : Bool} {l i j : ℕ} {t : Expr} {g : Tree Span tree.target}
      → ReadsBinary ts no_in l i t j → target_of t ≡ Some g → ReadsLeft ts true i t j
  left_of_binary (whole_binary a b) h = left_of_begins a h

left_of_conditional : {ts : List Token} {no_in : Bool} {i j : ℕ} {t : Expr} {g : Tree Span tree.target}
    → ReadsConditional ts no_in i t j → target_of t ≡ Some g → ReadsLeft ts true i t j
left_of_conditional (operands a b) h = left_of_binary a h
left_of_conditional (a_conditional a b c d e) h = cc

pub left_of_expression : {ts : List Token} {no_in : Bool} {i j : ℕ} {t : Expr} {g : Tree Span tree.target}
    → ReadsExpression ts no_in i t j → target_of t ≡ Some g → ReadsLeft ts true i t j
left_of_expression (whole_expression (assignment (conditional a b)) c) h = left_of_conditional a h
left_of_expression (whole_expression (assignment (an_assignment a b c d)) e) h = cc
left_of_expression (whole_expression (a_comma a b c) d) h = cc

-- a name in the head of a `for`
pub record Named (t : Expr) (x : Ident Span) : Type 0 where
  pub is : t ≡ tree.name x.text x.at

pub named : (t : Expr) → Holds (name_of t) (λ x. Named t x)
named (tree.name x s) = just (record { is = refl })
named _ = nothing

-- What is read with a level less is in the grammar.
pub record Sound (ts : List Token) (d : Deeper) : Type 0 where
  pub expression : (no_in : Bool) (i : ℕ) → Holds (d.expression no_in i) (λ x. ReadsExpression ts no_in i x.0 x.1)
  pub assignment : (no_in : Bool) (i : ℕ) → Holds (d.assignment no_in i) (λ x. ReadsAssignment ts no_in i x.0 x.1)
  pub unary : (i : ℕ) → Holds (d.unary i) (λ x. ReadsUnary ts i x.0 x.1)
  pub binary : (no_in : Bool) (m i : ℕ) → Holds (d.binary no_in m i) (λ x. ReadsBinary ts no_in m i x.0 x.1)
  pub member : (i : ℕ) → Holds (d.member i) (λ x. ReadsLeft ts false i x.0 x.1)
  pub statement : (i : ℕ) → Holds (d.statement i) (λ x. ReadsStatement ts i x.0 x.1)
  pub rest : (i : ℕ) → Holds (d.rest i) (λ x. ReadsRest ts i x.0.0 x.0.1 x.1)

-- The operands read so far, before a token that is no tighter infix operator.
record Stands (ts : List Token) (no_in : Bool) (m i : ℕ) (t : Expr) (j : ℕ) : Type 0 where
  level : ℕ
  in_reach : level ≤ m
  begins : BeginsBinary ts no_in level i t j
  stops : continues no_in (pred level) (terminal_at ts j) ≡ false

-- operands are also looser ones, where nothing tighter follows
lift : (ts : List Token) (no_in : Bool) (n l i : ℕ) (t : Expr) (j : ℕ) → BeginsBinary ts no_in l i t j
    → continues no_in (pred (n + l)) (terminal_at ts j) ≡ false → BeginsBinary ts no_in (n + l) i t j
lift ts no_in zero l i t j r h = subst (λ x. BeginsBinary ts no_in x i t j) (omega arith) r
lift ts no_in (suc n) l i t j r h =
    let s : continues no_in (n + l) (terminal_at ts j) ≡ false =
    subst (λ x. continues no_in x (terminal_at ts j) ≡ false) (omega arith) h in
    subst (λ x. BeginsBinary ts no_in x i t j) (omega arith)
    (tighter (whole_binary (lift ts no_in n l i t j r
    (tighter_stops (infix_precedence_of (infix_operator no_in (terminal_at ts j))) (pred (n + l)) (n + l) (omega arith)
    s)) s))

pub lift_to : (ts : List Token) (no_in : Bool) (l m i : ℕ) (t : Expr) (j : ℕ) → l ≤ m → BeginsBinary ts no_in l i t j
    → continues no_in (pred m) (terminal_at ts j) ≡ false → BeginsBinary ts no_in m i t j
lift_to ts no_in l m i t j h r s =
    let e : (m - l) + l ≡ m = omega arith in
    subst (λ x. BeginsBinary ts no_in x i t j) e
    (lift ts no_in (m - l) l i t j r (subst (λ x. continues no_in (pred x) (terminal_at ts j) ≡ false) (sym e) s))

whole : (ts : List Token) (no_in : Bool) (m i : ℕ) (t : Expr) (j : ℕ) → Stands ts no_in m i t j
    → continues no_in m (terminal_at ts j) ≡ false → ReadsBinary ts no_in m i t j
whole ts no_in m i t j s h = whole_binary
    (lift_to ts no_in s.level m i t j s.in_reach s.begins
    (tighter_stops (infix_precedence_of (infix_operator no_in (terminal_at ts j))) (pred m) m (omega arith) h)) h

-- where no statement ends, no line ends
pub no_line : (a b c : Bool) (x y : ℕ) → (if a then Some x else (if b || c then Some y else None)) ≡ None → c ≡ false
no_line true b c x y h = cc
no_line false true c x y h = cc
no_line false false true x y h = cc
no_line false false false x y h = refl

pub ends_sound : (ts : List Token) (i : ℕ) → Holds (ends_at ts i) (λ j. EndsAt ts i j)
unfolding ends_at
ends_sound ts i = test (is_semicolon (terminal_at ts i)) _ _
    (λ h. just (there (record { is = semicolon_terminal _ h })))
    (λ h. when_true (ends_statement (terminal_at ts i) || line_at ts i) _ (λ g. just (inserted h g)))

names_sound : (ts : List Token) (n i : ℕ) → Holds (names_from ts n i) (λ x. ReadsNames ts i x.0 x.1)
unfolding names_from
names_sound ts zero i = nothing
names_sound ts (suc n) i = when_true (is_identifier (terminal_at ts i)) _
    (λ h. test (is_close_paren (terminal_at ts (suc i))) _ _
    (λ g. just (last_name (record { is = h }) (record { is = close_paren_terminal _ g })))
    (λ g. when_true (is_comma (terminal_at ts (suc i))) _
    (λ k. after _ _ (names_sound ts n (suc (suc i)))
    (λ x r. just (more_names (record { is = h }) (record { is = comma_terminal _ k }) r)))))

parameters_sound : (ts : List Token) (i : ℕ) → Holds (parameters_at ts i) (λ x. ReadsParameters ts i x.0 x.1)
unfolding parameters_at
parameters_sound ts i = test (is_close_paren (terminal_at ts i)) _ _
    (λ h. just (no_parameters (record { is = close_paren_terminal _ h })))
    (λ h. weaken _ (names_sound ts (length ts) i) (λ x r. parameters r))

module _ (ts : List Token) (d : Deeper) (sound : Sound ts d) where
  pub statements_sound : (n i : ℕ) → Holds (statements_from ts d n i) (λ x. ReadsStatements ts i x.0 x.1)
  unfolding statements_from
  statements_sound zero i = when_true (ends_list (terminal_at ts i)) _ (λ h. just (no_statements h))
  statements_sound (suc n) i = test (ends_list (terminal_at ts i)) _ _ (λ h. just (no_statements h))
      (λ h. after _ _ (sound.statement i) (λ x r.
      after _ _ (statements_sound n x.1) (λ y q. just (more_statements r q))))

  pub block_sound : (i : ℕ) → Holds (block_at ts d i) (λ x. ReadsBlock ts i x.0 x.1)
  unfolding block_at
  block_sound i = when_true (is_open_brace (terminal_at ts i)) _
      (λ h. after _ _ (statements_sound (length ts) (suc i)) (λ x r.
      when_true (is_close_brace (terminal_at ts x.1)) _
      (λ g. just (in_braces (record { is = open_brace_terminal _ h }) r (record { is = close_brace_terminal _ g })))))

  elements_sound : (n i : ℕ) → Holds (elements_from ts d n i) (λ x. ReadsElements ts i x.0.0 x.0.1 x.1)
  unfolding elements_from
  elements_sound zero i = when_true (ends_list (terminal_at ts i)) _ (λ h. just (no_elements h))
  elements_sound (suc n) i = test (ends_list (terminal_at ts i)) _ _ (λ h. just (no_elements h)) (λ h.
      test (is_function (terminal_at ts i)) _ _
      (λ g. when_true (is_identifier (terminal_at ts (suc i))) _
      (λ k. after _ _ (sound.rest (suc (suc i))) (λ x r. fits _ _ _ _ (after _ _ (elements_sound n x.1) (λ y q.
      just (a_declaration (a_declared_function (record { is = function_terminal _ g }) (record { is = k }) r) q))))))
      (λ g. after _ _ (sound.statement i) (λ x r.
      after _ _ (elements_sound n x.1) (λ y q. just (a_statement r q)))))

  with_directive_sound : (i j : ℕ) (c : Code) (k : ℕ) → is_directive ts i ≡ true → EndsAt ts (suc i) j
      → ReadsBody ts j c k → ReadsBody ts i (with_directive (strict_at ts i) c) k
  with_directive_sound i j (tree.body s fs ws) k h r q =
      let b = both_true (is_string (terminal_at ts i)) (not (continues_at ts (suc i))) h in
      a_directive (record { is = string_terminal _ b.0 }) (not_true _ b.1) r q

  pub body_sound : (n i : ℕ) → Holds (body_from ts d n i) (λ x. ReadsBody ts i x.0 x.1)
  unfolding body_from
  body_sound zero i = test (is_directive ts i) _ _ (λ h. nothing)
      (λ h. after _ _ (elements_sound (length ts) i) (λ x r. just (no_directive h r)))
  body_sound (suc n) i = test (is_directive ts i) _ _
      (λ h. after _ _ (ends_sound ts (suc i)) (λ j r.
      after _ _ (body_sound n j) (λ y q. just (with_directive_sound i j y.0 y.1 h r q))))
      (λ h. after _ _ (elements_sound (length ts) i) (λ x r. just (no_directive h r)))

  pub rest_sound : (i : ℕ) → Holds (rest_at ts d i) (λ x. ReadsRest ts i x.0.0 x.0.1 x.1)
  unfolding rest_at
  rest_sound i = when_true (is_open_paren (terminal_at ts i)) _ (λ h. after _ _ (parameters_sound ts (suc i)) (λ p r.
      when_true (is_open_brace (terminal_at ts p.1)) _ (λ g. after _ _ (body_sound (length ts) (suc p.1)) (λ c q.
      when_true (is_close_brace (terminal_at ts c.1)) _
      (λ k. just (a_rest (record { is = open_paren_terminal _ h }) r (record { is = open_brace_terminal _ g }) q
      (record { is = close_brace_terminal _ k })))))))

  function_sound : (i : ℕ) → At ts i (keyword words.Function)
      → Holds (function_at ts d i) (λ x. ReadsPrimary ts i x.0 x.1)
  unfolding function_at
  function_sound i e = test (is_identifier (terminal_at ts (suc i))) _ _
      (λ h. after _ _ (rest_sound (suc (suc i)))
      (λ x r. fits _ _ _ _ (just (a_named_function e (record { is = h }) r))))
      (λ h. after _ _ (rest_sound (suc i)) (λ x r. fits _ _ _ _ (just (a_function e r))))

  items_sound : (n i : ℕ) → Holds (items_from ts d n i) (λ x. ReadsItems ts i x.0 x.1)
  unfolding items_from
  items_sound zero i = when_true (is_close_bracket (terminal_at ts i)) _
      (λ h. just (no_items (record { is = close_bracket_terminal _ h })))
  items_sound (suc n) i = test (is_close_bracket (terminal_at ts i)) _ _
      (λ h. just (no_items (record { is = close_bracket_terminal _ h }))) (λ h.
      test (is_comma (terminal_at ts i)) _ _ (λ g.
      after _ _ (items_sound n (suc i)) (λ x r. just (a_hole (record { is = comma_terminal _ g }) r))) (λ g.
      after _ _ (sound.assignment false i) (λ x r.
      test (is_close_bracket (terminal_at ts x.1)) _ _
      (λ k. just (last_item r (record { is = close_bracket_terminal _ k }))) (λ k.
      when_true (is_comma (terminal_at ts x.1)) _ (λ m.
      after _ _ (items_sound n (suc x.1)) (λ y q. just (more_items r (record { is = comma_terminal _ m }) q)))))))

  value_sound : (i : ℕ) → Holds (value_at ts d i) (λ x. ReadsEntry ts i x.0 x.1)
  unfolding value_at
  value_sound i = when_true (is_key (terminal_at ts i) && is_colon (terminal_at ts (suc i))) _ (λ h.
      let b = both_true (is_key (terminal_at ts i)) (is_colon (terminal_at ts (suc i))) h in
      after _ _ (sound.assignment false (suc (suc i)))
      (λ x r. just (a_value (record { is = b.0 }) (record { is = colon_terminal _ b.1 }) r)))

  getter_sound : (i : ℕ) (ps : List (Ident Span)) (c : Code) (j : ℕ) → At ts i terminals.Get → Is is_key ts (suc i)
      → ReadsRest ts (suc (suc i)) ps c j → Holds (getter_by ts d i ps c j) (λ x. ReadsEntry ts i x.0 x.1)
  unfolding getter_by
  getter_sound i [] c j e h r = fits _ _ _ _ (just (a_getter e h r))
  getter_sound i (p ∷ ps) c j e h r = nothing

  setter_sound : (i : ℕ) (ps : List (Ident Span)) (c : Code) (j : ℕ) → At ts i terminals.Set → Is is_key ts (suc i)
      → ReadsRest ts (suc (suc i)) ps c j → Holds (setter_by ts d i ps c j) (λ x. ReadsEntry ts i x.0 x.1)
  unfolding setter_by
  setter_sound i [] c j e h r = nothing
  setter_sound i (p ∷ []) c j e h r = fits _ _ _ _ (just (a_setter e h r))
  setter_sound i (p ∷ q ∷ ps) c j e h r = nothing

  entry_by_sound : (i : ℕ) (k : Terminal) → terminal_at ts i ≡ k
      → Holds (entry_by ts d i k) (λ x. ReadsEntry ts i x.0 x.1)
  unfolding entry_by accessor_at
  entry_by_sound i terminals.Get e = test (is_colon (terminal_at ts (suc i))) _ _ (λ h. value_sound i)
      (λ h. when_true (is_key (terminal_at ts (suc i))) _
      (λ g. after _ _ (rest_sound (suc (suc i)))
      (λ x r. getter_sound i x.0.0 x.0.1 x.1 (record { is = e }) (record { is = g }) r)))
  entry_by_sound i terminals.Set e = test (is_colon (terminal_at ts (suc i))) _ _ (λ h. value_sound i)
      (λ h. when_true (is_key (terminal_at ts (suc i))) _
      (λ g. after _ _ (rest_sound (suc (suc i)))
      (λ x r. setter_sound i x.0.0 x.0.1 x.1 (record { is = e }) (record { is = g }) r)))
  entry_by_sound i _ e = value_sound i

  entry_sound : (i : ℕ) → Holds (entry_at ts d i) (λ x. ReadsEntry ts i x.0 x.1)
  unfolding entry_at
  entry_sound i = entry_by_sound i (terminal_at ts i) refl

  entries_sound : (n i : ℕ) → Holds (entries_from ts d n i) (λ x. ReadsEntries ts i x.0 x.1)
  unfolding entries_from
  entries_sound zero i = when_true (is_close_brace (terminal_at ts i)) _
      (λ h. just (no_entries (record { is = close_brace_terminal _ h })))
  entries_sound (suc n) i = test (is_close_brace (terminal_at ts i)) _ _
      (λ h. just (no_entries (record { is = close_brace_terminal _ h }))) (λ h.
      after _ _ (entry_sound i) (λ x r. test (is_close_brace (terminal_at ts x.1)) _ _
      (λ k. just (last_entry r (record { is = close_brace_terminal _ k }))) (λ k.
      when_true (is_comma (terminal_at ts x.1)) _ (λ m.
      after _ _ (entries_sound n (suc x.1)) (λ y q.
      just (more_entries r (record { is = comma_terminal _ m }) q))))))

  primary_by_sound : (i : ℕ) (k : Terminal) → terminal_at ts i ≡ k
      → Holds (primary_by ts d i k) (λ x. ReadsPrimary ts i x.0 x.1)
  unfolding primary_by then_close_paren
  primary_by_sound i (terminals.Word words.This) e = just (a_this (record { is = e }))
  primary_by_sound i terminals.Identifier e = just (a_name (record { is = ap is_identifier e }))
  primary_by_sound i terminals.Get e = just (a_name (record { is = ap is_identifier e }))
  primary_by_sound i terminals.Set e = just (a_name (record { is = ap is_identifier e }))
  primary_by_sound i (terminals.Word words.Null) e = just (a_null (record { is = e }))
  primary_by_sound i (terminals.Word words.True) e = just (a_true (record { is = e }))
  primary_by_sound i (terminals.Word words.False) e = just (a_false (record { is = e }))
  primary_by_sound i terminals.Number e = just (a_number (record { is = e }))
  primary_by_sound i terminals.Str e = just (a_string (record { is = e }))
  primary_by_sound i (terminals.Punct puncts.LeftBracket) e =
      after _ _ (items_sound (length ts) (suc i)) (λ x r. fits _ _ _ _ (just (an_array (record { is = e }) r)))
  primary_by_sound i (terminals.Punct puncts.LeftBrace) e =
      after _ _ (entries_sound (length ts) (suc i)) (λ x r. fits _ _ _ _ (just (an_object (record { is = e }) r)))
  primary_by_sound i (terminals.Punct puncts.LeftParen) e =
      after (then_close_paren ts d) _ (sound.expression false (suc i)) (λ x r.
      when_true (is_close_paren (terminal_at ts x.1)) _
      (λ h. just (in_parens (record { is = e }) r (record { is = close_paren_terminal _ h }))))
  primary_by_sound i (terminals.Word words.Function) e = function_sound i (record { is = e })
  primary_by_sound i _ e = nothing

  primary_sound : (i : ℕ) → Holds (primary_at ts d i) (λ x. ReadsPrimary ts i x.0 x.1)
  unfolding primary_at
  primary_sound i = primary_by_sound i (terminal_at ts i) refl

  argument_list_sound : (n i : ℕ) → Holds (arguments_from ts d n i) (λ x. ReadsArgumentList ts i x.0 x.1)
  unfolding arguments_from
  argument_list_sound zero i = nothing
  argument_list_sound (suc n) i = after _ _ (sound.assignment false i)
      (λ x r. test (is_close_paren (terminal_at ts x.1)) _ _
      (λ h. just (last_argument r (record { is = close_paren_terminal _ h })))
      (λ h. when_true (is_comma (terminal_at ts x.1)) _
      (λ g. after _ _ (argument_list_sound n (suc x.1))
      (λ y q. just (more_arguments r (record { is = comma_terminal _ g }) q)))))

  arguments_sound : (i : ℕ) → Holds (arguments_at ts d i) (λ x. ReadsArguments ts i x.0 x.1)
  unfolding arguments_at
  arguments_sound i = test (is_close_paren (terminal_at ts i)) _ _
      (λ h. just (no_arguments (record { is = close_paren_terminal _ h })))
      (λ h. weaken _ (argument_list_sound (length ts) i) (λ x r. arguments r))

  new_sound : (calls : Bool) (i : ℕ) → At ts i (keyword words.New)
      → Holds (new_at ts d i) (λ x. BeginsLeft ts calls i x.0 x.1)
  unfolding new_at
  new_sound calls i e = after _ _ (sound.member (suc i)) (λ x r. test (is_open_paren (terminal_at ts x.1)) _ _
      (λ h. after _ _ (arguments_sound (suc x.1))
      (λ y q. fits _ _ _ _ (just (a_new e r (record { is = open_paren_terminal _ h }) q))))
      (λ h. fits _ _ _ _ (just (a_bare_new e r h))))

  start_sound : (calls : Bool) (i : ℕ) → Holds (start_at ts d i) (λ x. BeginsLeft ts calls i x.0 x.1)
  unfolding start_at
  start_sound calls i = test (is_new (terminal_at ts i)) _ _ (λ h. new_sound calls i (record { is = new_terminal _ h }))
      (λ h. weaken _ (primary_sound i) (λ x r. primary r))

  left_by_sound : (calls : Bool) (go : Expr → ℕ → Read Expr) (i : ℕ) (t : Expr) (j : ℕ) (k : Terminal)
      → terminal_at ts j ≡ k
      → BeginsLeft ts calls i t j
      → ((u : Expr) (m : ℕ) → BeginsLeft ts calls i u m → Holds (go u m) (λ x. ReadsLeft ts calls i x.0 x.1))
      → Holds (left_by ts d calls go i t j k) (λ x. ReadsLeft ts calls i x.0 x.1)
  unfolding left_by
  left_by_sound true go i t j (terminals.Punct puncts.Dot) e r g =
      when_true (is_name (terminal_at ts (suc j))) _
      (λ h. fits _ _ _ _ (g _ _ (a_dot r (record { is = e }) (record { is = h }))))
  left_by_sound false go i t j (terminals.Punct puncts.Dot) e r g =
      when_true (is_name (terminal_at ts (suc j))) _
      (λ h. fits _ _ _ _ (g _ _ (a_dot r (record { is = e }) (record { is = h }))))
  left_by_sound true go i t j (terminals.Punct puncts.LeftBracket) e r g =
      after _ _ (sound.expression false (suc j)) (λ x q.
      when_true (is_close_bracket (terminal_at ts x.1)) _
      (λ h. fits _ _ _ _ (g _ _ (an_index r (record { is = e }) q (record { is = close_bracket_terminal _ h })))))
  left_by_sound false go i t j (terminals.Punct puncts.LeftBracket) e r g =
      after _ _ (sound.expression false (suc j)) (λ x q.
      when_true (is_close_bracket (terminal_at ts x.1)) _
      (λ h. fits _ _ _ _ (g _ _ (an_index r (record { is = e }) q (record { is = close_bracket_terminal _ h })))))
  left_by_sound true go i t j (terminals.Punct puncts.LeftParen) e r g =
      after _ _ (arguments_sound (suc j)) (λ x q. fits _ _ _ _ (g _ _ (a_call r (record { is = e }) q)))
  left_by_sound true go i t j _ e r g = just (whole_left r (ap (continues_left true) e))
  left_by_sound false go i t j _ e r g = just (whole_left r (ap (continues_left false) e))

  left_from_sound : (calls : Bool) (n i : ℕ) (t : Expr) (j : ℕ) → BeginsLeft ts calls i t j
      → Holds (left_from ts d calls n i t j) (λ x. ReadsLeft ts calls i x.0 x.1)
  unfolding left_from
  left_from_sound calls zero i t j r = test (continues_left calls (terminal_at ts j)) _ _ (λ h. nothing)
      (λ h. just (whole_left r h))
  left_from_sound calls (suc n) i t j r = left_by_sound calls (left_from ts d calls n i) i t j (terminal_at ts j) refl r
      (λ u m q. left_from_sound calls n i u m q)

  pub left_sound : (calls : Bool) (n i : ℕ) → Holds (left_at ts d calls n i) (λ x. ReadsLeft ts calls i x.0 x.1)
  unfolding left_at
  left_sound calls n i = after _ _ (start_sound calls i) (λ x r. left_from_sound calls n i x.0 x.1 r)

  postfix_by_sound : (i : ℕ) (t : Expr) (j : ℕ) (o : Option Bool) (b : Bool) → update_operator (terminal_at ts j) ≡ o
      → line_at ts j ≡ b → ReadsLeft ts true i t j
      → Holds (postfix_by ts d i t j o b) (λ x. ReadsPostfix ts i x.0 x.1)
  unfolding postfix_by
  postfix_by_sound i t j (Some up) false e l r =
      after _ _ (told (target_of t))
      (λ g h. fits _ _ _ _ (just (a_postfix r (record { is = h }) (record { is = e }) l)))
  postfix_by_sound i t j (Some up) true e l r =
      just (left r (ap₂ (λ (x : Option Bool) (y : Bool). is_some x && not y) e l))
  postfix_by_sound i t j None b e l r = just (left r (ap (λ (x : Option Bool). is_some x && not (line_at ts j)) e))

  postfix_sound : (n i : ℕ) → Holds (postfix_at ts d n i) (λ x. ReadsPostfix ts i x.0 x.1)
  unfolding postfix_at
  postfix_sound n i = after _ _ (left_sound true n i)
      (λ x r. postfix_by_sound i x.0 x.1 (update_operator (terminal_at ts x.1)) (line_at ts x.1) refl refl r)

  unary_by_sound : (n i : ℕ) (o : Option UnOp) (u : Option Bool) → unary_operator (terminal_at ts i) ≡ o
      → update_operator (terminal_at ts i) ≡ u → Holds (unary_by ts d n i o u) (λ x. ReadsUnary ts i x.0 x.1)
  unfolding unary_by
  unary_by_sound n i (Some op) u e f =
      after _ _ (sound.unary (suc i)) (λ x r. fits _ _ _ _ (just (a_prefix (record { is = e }) r)))
  unary_by_sound n i None (Some up) e f = after _ _ (left_sound true n (suc i))
      (λ x r. after _ _ (told (target_of x.0))
      (λ g h. fits _ _ _ _ (just (an_update (record { is = f }) r (record { is = h })))))
  unary_by_sound n i None None e f = weaken _ (postfix_sound n i) (λ x r. postfix r)

  pub unary_sound : (n i : ℕ) → Holds (unary_at ts d n i) (λ x. ReadsUnary ts i x.0 x.1)
  unfolding unary_at
  unary_sound n i = unary_by_sound n i (unary_operator (terminal_at ts i)) (update_operator (terminal_at ts i)) refl
      refl

  more_infix_operators : (no_in : Bool) (m i : ℕ) (t : Expr) (j : ℕ) (op : InfixOperator) → Stands ts no_in m i t j
      → infix_operator no_in (terminal_at ts j) ≡ Some op → infix_precedence op ≤ m → (b : Expr) (n : ℕ)
      → ReadsBinary ts no_in (pred (infix_precedence op)) (suc j) b n
      → Stands ts no_in m i (infix_node op t b (span ts i n)) n
  more_infix_operators no_in m i t j op s e h b n (whole_binary r stop) =
      let l : infix_precedence_of (infix_operator no_in (terminal_at ts j)) ≡ infix_precedence op =
      ap infix_precedence_of e in
      let y = looseness_pos op in
      let p = suc_pred (infix_precedence op) y in
      let q : continues no_in (pred (infix_precedence op)) (terminal_at ts j) ≡ false =
      looser_stops (infix_precedence_of (infix_operator no_in (terminal_at ts j))) (pred (infix_precedence op))
      (omega arith) in
      let f = tight (infix_precedence_of (infix_operator no_in (terminal_at ts j))) s.level (omega arith) s.stops in
      record {
        level = suc (pred (infix_precedence op));
        in_reach = omega arith;
        begins = an_infix_operator (lift_to ts no_in s.level (suc (pred (infix_precedence op))) i t j (omega arith)
            s.begins q)
            (record { is = e }) (sym p) (whole_binary r stop);
        stops = stop;
      }

  binary_by_sound : (no_in : Bool) (go : Expr → ℕ → Read Expr) (m i : ℕ) (t : Expr) (j : ℕ) (o : Option InfixOperator)
      → infix_operator no_in (terminal_at ts j) ≡ o → Stands ts no_in m i t j
      → ((u : Expr) (k : ℕ) → Stands ts no_in m i u k → Holds (go u k) (λ x. ReadsBinary ts no_in m i x.0 x.1))
      → Holds (binary_by ts d no_in go m i t j o) (λ x. ReadsBinary ts no_in m i x.0 x.1)
  unfolding binary_by
  binary_by_sound no_in go m i t j None e s g =
      just (whole ts no_in m i t j s (ap (λ o. nat_le 1 (infix_precedence_of o) && nat_le (infix_precedence_of o) m) e))
  binary_by_sound no_in go m i t j (Some op) e s g =
      let l : infix_precedence_of (infix_operator no_in (terminal_at ts j)) ≡ infix_precedence op =
      ap infix_precedence_of e in
      test (nat_le (infix_precedence op) m) _ _
      (λ h. after _ _ (sound.binary no_in (pred (infix_precedence op)) (suc j))
      (λ x r. fits _ _ _ _ (g _ _ (more_infix_operators no_in m i t j op s e (leb-true _ _ h) x.0 x.1 r))))
      (λ h. just (whole ts no_in m i t j s (looser_stops (infix_precedence_of (infix_operator no_in (terminal_at ts j)))
      m
      (subst (λ y. m < y) (sym l) (leb-false _ _ h)))))

  binary_from_sound : (no_in : Bool) (n m i : ℕ) (t : Expr) (j : ℕ) → Stands ts no_in m i t j
      → Holds (binary_from ts d no_in n m i t j) (λ x. ReadsBinary ts no_in m i x.0 x.1)
  unfolding binary_from
  binary_from_sound no_in zero m i t j s =
      test (continues no_in m (terminal_at ts j)) _ _ (λ h. nothing) (λ h. just (whole ts no_in m i t j s h))
  binary_from_sound no_in (suc n) m i t j s =
      binary_by_sound no_in (binary_from ts d no_in n m i) m i t j (infix_operator no_in (terminal_at ts j)) refl s
      (λ u k q. binary_from_sound no_in n m i u k q)

  pub binary_sound : (no_in : Bool) (n m i : ℕ)
      → Holds (binary_at ts d no_in n m i) (λ x. ReadsBinary ts no_in m i x.0 x.1)
  unfolding binary_at
  binary_sound no_in n m i = after _ _ (unary_sound n i)
      (λ x r. binary_from_sound no_in n m i x.0 x.1
      (record {
        level = 0;
        in_reach = omega arith;
        begins = operand r;
        stops = no_tighter (infix_precedence_of (infix_operator no_in (terminal_at ts x.1)));
      }))

  conditional_sound : (no_in : Bool) (n i : ℕ)
      → Holds (conditional_at ts d no_in n i) (λ x. ReadsConditional ts no_in i x.0 x.1)
  unfolding conditional_at conditional_from
  conditional_sound no_in n i = after (conditional_from ts d no_in i) _ (binary_sound no_in n 10 i)
      (λ x r. test (is_question (terminal_at ts x.1)) _ _
      (λ h. after _ _ (sound.assignment false (suc x.1)) (λ a p. when_true (is_colon (terminal_at ts a.1)) _
      (λ g. after _ _ (sound.assignment no_in (suc a.1))
      (λ b q. fits _ _ _ _ (just (a_conditional r (record { is = question_terminal _ h }) p
      (record { is = colon_terminal _ g }) q))))))
      (λ h. just (operands r h)))

  assignment_by_sound : (no_in : Bool) (i : ℕ) (t : Expr) (j : ℕ) (o : Option (Option BinOp))
      → assign_operator (terminal_at ts j) ≡ o → ReadsConditional ts no_in i t j
      → Holds (assignment_by ts d no_in i t j o) (λ x. ReadsAssignment ts no_in i x.0 x.1)
  unfolding assignment_by
  assignment_by_sound no_in i t j None e r = just (conditional r (ap (λ (o : Option (Option BinOp)). is_some o) e))
  assignment_by_sound no_in i t j (Some op) e r =
      after _ _ (told (target_of t)) (λ g h. after _ _ (sound.assignment no_in (suc j)) (λ v q.
      fits _ _ _ _ (just (an_assignment (left_of_conditional r h) (record { is = h }) (record { is = e }) q))))

  pub assignment_sound : (no_in : Bool) (n i : ℕ)
      → Holds (assignment_at ts d no_in n i) (λ x. ReadsAssignment ts no_in i x.0 x.1)
  unfolding assignment_at
  assignment_sound no_in n i = after _ _ (conditional_sound no_in n i)
      (λ x r. assignment_by_sound no_in i x.0 x.1 (assign_operator (terminal_at ts x.1)) refl r)

  comma_from_sound : (no_in : Bool) (n i : ℕ) (t : Expr) (j : ℕ) → BeginsExpression ts no_in i t j
      → Holds (comma_from ts d no_in n i t j) (λ x. ReadsExpression ts no_in i x.0 x.1)
  unfolding comma_from
  comma_from_sound no_in zero i t j r = test (is_comma (terminal_at ts j)) _ _ (λ h. nothing)
      (λ h. just (whole_expression r h))
  comma_from_sound no_in (suc n) i t j r = test (is_comma (terminal_at ts j)) _ _
      (λ h. after _ _ (sound.assignment no_in (suc j))
      (λ x q. fits _ _ _ _ (comma_from_sound no_in n i (tree.comma t x.0 (span ts i x.1)) x.1
      (a_comma r (record { is = comma_terminal _ h }) q))))
      (λ h. just (whole_expression r h))

  pub expression_sound : (no_in : Bool) (n i : ℕ)
      → Holds (expression_at ts d no_in n i) (λ x. ReadsExpression ts no_in i x.0 x.1)
  unfolding expression_at
  expression_sound no_in n i = after _ _ (assignment_sound no_in n i)
      (λ x r. comma_from_sound no_in n i x.0 x.1 (assignment r))
