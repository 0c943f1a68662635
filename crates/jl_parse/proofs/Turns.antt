-- A turn of each loop of the parser, in the words of its code.
use Rattle.std.proofs.Common.{◌≡◌, ◌≢◌, ℕ, zero, suc, pred, ◌-◌, ◌<◌, ◌≤◌, Bool, true, false, ◌&&◌, refl, arith}
use Rattle.std.proofs.Common.{ap, ◌∙◌, List, [], ◌∷◌, ◌++◌}
use Rattle.std.specs.Prelude.{nat_le, Option, Some, None, if◌then◌else◌}
use Rattle.std.proofs.lemmas.Bool.Decides.{leb_tells}
use Rattle.std.proofs.lemmas.Bool.{le-leb, lt-leb}
use Rattle.jl_text.specs.declared.span.Span.{Span}
use Rattle.jl_token.specs.declared.token.Token.{Token}
use Rattle.jl_token.specs.declared.punct.Punct.TheVariants as puncts
use Rattle.jl_ast.specs.declared.tree.Expr.{Expr as CodeExpr}
use Rattle.jl_ast.specs.Tree.{Tree, Forest}
use Rattle.jl_ast.specs.Tree as tree
use Rattle.jl_ast.specs.View.{view_expression, view_expressions, view_items}
use Rattle.jl_grammar.specs.declared.terminal.Terminal.{Terminal}
use Rattle.jl_grammar.specs.declared.terminal.Terminal.TheVariants as terminals
use Rattle.jl_grammar.specs.Next.{is_comma, is_name, continues_left}
use Rattle.jl_grammar.specs.Operators.{InfixOperator, infix_operator, infix_node, infix_precedence}
use Rattle.jl_grammar.specs.Operators.{infix_precedence_of, continues}
use Rattle.jl_grammar.specs.Reader.{Read, Deeper, ◌>>=◌, succeed, node, is_close_paren, is_close_bracket, comma_from}
use Rattle.jl_grammar.specs.Reader.{binary_from}
use Rattle.jl_grammar.specs.Reader.{binary_by, left_from, left_by, items_from, arguments_at, arguments_from}
use Rattle.jl_grammar.specs.Reads.{Expr, Exprs}
use Rattle.jl_grammar.specs.Tokens.{terminal_at, text_at, span}
use Rattle.jl_grammar.proofs.SoundExpressions.{looser_stops}
use Rattle.jl_parse.specs.inner.Steps.{append}
use Rattle.jl_parse.proofs.Rows.{with_forest, append_end, with_end, regroup, made_none, made_on, made_some, then_on}

pub expressions_push : (l : List CodeExpr) (e : CodeExpr)
    → view_expressions (l ++ (e ∷ [])) ≡ append (view_expressions l) (tree.more (view_expression e) tree.end)
expressions_push [] e = refl
expressions_push (x ∷ l) e = ap (tree.more (view_expression x)) (expressions_push l e)

pub hole_push : (l : List (Option CodeExpr)) → view_items (l ++ (None ∷ []))
    ≡ append (view_items l) (tree.more tree.hole tree.end)
hole_push [] = refl
hole_push (None ∷ l) = ap (tree.more tree.hole) (hole_push l)
hole_push (Some x ∷ l) = ap (tree.more (tree.filled (view_expression x))) (hole_push l)

pub item_push : (l : List (Option CodeExpr)) (e : CodeExpr) → view_items (l ++ (Some e ∷ []))
    ≡ append (view_items l) (tree.more (tree.filled (view_expression e)) tree.end)
item_push [] e = refl
item_push (None ∷ l) e = ap (tree.more tree.hole) (item_push l e)
item_push (Some x ∷ l) e = ap (tree.more (tree.filled (view_expression x))) (item_push l e)

if_made : (b : Bool) (most : ℕ) (u : Expr) (k : ℕ) (go : Expr → ℕ → Read Expr)
    → (if b then node most u k go else None) ≡ then_on (if b then node most u k succeed else None) go
if_made true most u k go = made_on most u k go
if_made false most u k go = refl

bind_test : {A : Type 0} (o : Option A) (b : A → Bool) (most : ℕ) (u : A → Expr) (k : A → ℕ) (go : Expr → ℕ → Read Expr)
    → (o >>= λ x. if b x then node most (u x) (k x) go else None)
    ≡ then_on (o >>= λ x. if b x then node most (u x) (k x) succeed else None) go
bind_test None b most u k go = refl
bind_test (Some x) b most u k go = if_made (b x) most (u x) (k x) go

bind_made : {A : Type 0} (o : Option A) (most : ℕ) (u : A → Expr) (k : A → ℕ) (go : Expr → ℕ → Read Expr)
    → (o >>= λ x. node most (u x) (k x) go) ≡ then_on (o >>= λ x. node most (u x) (k x) succeed) go
bind_made None most u k go = refl
bind_made (Some x) most u k go = made_on most (u x) (k x) go

tight : (s x : ℕ) → 1 ≤ s → s ≤ x → (nat_le 1 s && nat_le s x) ≡ true
tight s x p l = grind (arith, leb_tells)

too_loose : (no_in : Bool) (k : Terminal) (m : ℕ) (op : InfixOperator) → infix_operator no_in k ≡ Some op
    → m < infix_precedence op
    → continues no_in m k ≡ false
too_loose no_in k m op h l = let e = ap infix_precedence_of h in
    looser_stops (infix_precedence_of (infix_operator no_in k)) m (omega arith)

no_infix_operator : (no_in : Bool) (k : Terminal) (m : ℕ) → infix_operator no_in k ≡ None → continues no_in m k ≡ false
no_infix_operator no_in k m h = beyond_none (infix_precedence_of (infix_operator no_in k)) m (ap infix_precedence_of h)
  where
    beyond_none : (s x : ℕ) → s ≡ 0 → (nat_le 1 s && nat_le s x) ≡ false
    beyond_none s x l = grind (arith, leb_tells)

module _ (ts : List Token) (d : Deeper) where
  -- commas

  pub comma_ends : (no_in : Bool) (n i : ℕ) (t : Expr) (j : ℕ) → is_comma (terminal_at ts j) ≡ false
      → comma_from ts d no_in n i t j ≡ Some (t, j)
  unfolding comma_from
  comma_ends no_in zero i t j h = rw (h, comma_from)
  comma_ends no_in (suc n) i t j h = rw (h, comma_from)

  pub comma_none : (no_in : Bool) (n i : ℕ) (t : Expr) (j : ℕ) → n ≡ 0 → is_comma (terminal_at ts j) ≡ true
      → comma_from ts d no_in n i t j ≡ None
  unfolding comma_from
  comma_none no_in zero i t j e h = rw (h, comma_from)
  comma_none no_in (suc n) i t j e h = absurd (omega arith)

  pub comma_fails : (no_in : Bool) (n i : ℕ) (t : Expr) (j : ℕ) → n ≢ 0 → is_comma (terminal_at ts j) ≡ true
      → d.assignment no_in (suc j) ≡ None → comma_from ts d no_in n i t j ≡ None
  unfolding comma_from
  comma_fails no_in zero i t j e h q = absurd (e refl)
  comma_fails no_in (suc n) i t j e h q = rw (h, q, comma_from)

  pub comma_more : (no_in : Bool) (n i : ℕ) (t : Expr) (j : ℕ) (b : Expr) (k : ℕ) (u : Expr) (m : ℕ) → n ≢ 0
      → is_comma (terminal_at ts j) ≡ true → d.assignment no_in (suc j) ≡ Some (b, k)
      → node (d.room i) (tree.comma t b (span ts i k)) k succeed ≡ Some (u, m)
      → comma_from ts d no_in n i t j ≡ comma_from ts d no_in (n - 1) i u m
  unfolding comma_from
  comma_more no_in zero i t j b k u m h e q f = absurd (h refl)
  comma_more no_in (suc n) i t j b k u m h e q f =
      let g : suc n - 1 ≡ n = omega arith in
      rw (g, e, q, comma_from) (made_some (d.room i) (tree.comma t b (span ts i k)) k (comma_from ts d no_in n i) u m f)

  pub comma_high : (no_in : Bool) (n i : ℕ) (t : Expr) (j : ℕ) (b : Expr) (k : ℕ) → n ≢ 0
      → is_comma (terminal_at ts j) ≡ true → d.assignment no_in (suc j) ≡ Some (b, k)
      → node (d.room i) (tree.comma t b (span ts i k)) k succeed ≡ None → comma_from ts d no_in n i t j ≡ None
  unfolding comma_from
  comma_high no_in zero i t j b k h e q f = absurd (h refl)
  comma_high no_in (suc n) i t j b k h e q f =
      rw (e, q, comma_from) (made_none (d.room i) (tree.comma t b (span ts i k)) k (comma_from ts d no_in n i) f)

  -- infix operators

  pub binary_ends : (no_in : Bool) (n m i : ℕ) (t : Expr) (j : ℕ) → infix_operator no_in (terminal_at ts j) ≡ None
      → binary_from ts d no_in n m i t j ≡ Some (t, j)
  unfolding binary_from binary_by
  binary_ends no_in zero m i t j h = rw (no_infix_operator no_in (terminal_at ts j) m h, binary_from)
  binary_ends no_in (suc n) m i t j h = rw (h, binary_from)

  pub binary_none : (no_in : Bool) (n m i : ℕ) (t : Expr) (j : ℕ) (op : InfixOperator) → n ≡ 0
      → infix_operator no_in (terminal_at ts j) ≡ Some op → 1 ≤ infix_precedence op → infix_precedence op ≤ m
      → binary_from ts d no_in n m i t j ≡ None
  unfolding binary_from
  binary_none no_in zero m i t j op e h p l =
      let q = ap infix_precedence_of h in
      rw (
        tight (infix_precedence_of (infix_operator no_in (terminal_at ts j))) m (omega arith) (omega arith),
        binary_from,
      )
  binary_none no_in (suc n) m i t j op e h p l = absurd (omega arith)

  pub binary_looser : (no_in : Bool) (n m i : ℕ) (t : Expr) (j : ℕ) (op : InfixOperator)
      → infix_operator no_in (terminal_at ts j) ≡ Some op
      → m < infix_precedence op → binary_from ts d no_in n m i t j ≡ Some (t, j)
  unfolding binary_from binary_by
  binary_looser no_in zero m i t j op h l = rw (too_loose no_in (terminal_at ts j) m op h l, binary_from)
  binary_looser no_in (suc n) m i t j op h l = rw (h, lt-leb (infix_precedence op) m l, binary_from)

  pub binary_fails : (no_in : Bool) (n m i : ℕ) (t : Expr) (j : ℕ) (op : InfixOperator) → n ≢ 0
      → infix_operator no_in (terminal_at ts j) ≡ Some op → infix_precedence op ≤ m
      → d.binary no_in (infix_precedence op - 1) (suc j) ≡ None
      → binary_from ts d no_in n m i t j ≡ None
  unfolding binary_from binary_by
  binary_fails no_in zero m i t j op h e l q = absurd (h refl)
  binary_fails no_in (suc n) m i t j op h e l q =
      let g : pred (infix_precedence op) ≡ infix_precedence op - 1 = omega arith in
      rw (e, le-leb (infix_precedence op) m l, g, q, binary_from)

  pub binary_more : (no_in : Bool) (n m i : ℕ) (t : Expr) (j : ℕ) (op : InfixOperator) (b : Expr) (k : ℕ) (u : Expr)
      (l : ℕ) → n ≢ 0
      → infix_operator no_in (terminal_at ts j) ≡ Some op → infix_precedence op ≤ m
      → d.binary no_in (infix_precedence op - 1) (suc j) ≡ Some (b, k)
      → node (d.room i) (infix_node op t b (span ts i k)) k succeed ≡ Some (u, l)
      → binary_from ts d no_in n m i t j ≡ binary_from ts d no_in (n - 1) m i u l
  unfolding binary_from binary_by
  binary_more no_in zero m i t j op b k u l h e r q f = absurd (h refl)
  binary_more no_in (suc n) m i t j op b k u l h e r q f =
      let g : suc n - 1 ≡ n = omega arith in let p : pred (infix_precedence op)
      ≡ infix_precedence op - 1 = omega arith in
      rw (g, e, le-leb (infix_precedence op) m r, p, q, binary_from)
      (made_some (d.room i) (infix_node op t b (span ts i k)) k (binary_from ts d no_in n m i) u l f)

  pub binary_high : (no_in : Bool) (n m i : ℕ) (t : Expr) (j : ℕ) (op : InfixOperator) (b : Expr) (k : ℕ) → n ≢ 0
      → infix_operator no_in (terminal_at ts j) ≡ Some op → infix_precedence op ≤ m
      → d.binary no_in (infix_precedence op - 1) (suc j) ≡ Some (b, k)
      → node (d.room i) (infix_node op t b (span ts i k)) k succeed ≡ None → binary_from ts d no_in n m i t j ≡ None
  unfolding binary_from binary_by
  binary_high no_in zero m i t j op b k h e r q f = absurd (h refl)
  binary_high no_in (suc n) m i t j op b k h e r q f =
      let p : pred (infix_precedence op) ≡ infix_precedence op - 1 = omega arith in
      rw (e, le-leb (infix_precedence op) m r, p, q, binary_from)
      (made_none (d.room i) (infix_node op t b (span ts i k)) k (binary_from ts d no_in n m i) f)

  -- members and calls

  ends_left : (calls : Bool) (go : Expr → ℕ → Read Expr) (i : ℕ) (t : Expr) (j : ℕ) (k : Terminal)
      → continues_left calls k ≡ false → left_by ts d calls go i t j k ≡ Some (t, j)
  unfolding left_by
  ends_left calls go i t j (terminals.Punct puncts.Dot) h = cc
  ends_left calls go i t j (terminals.Punct puncts.LeftBracket) h = cc
  ends_left true go i t j (terminals.Punct puncts.LeftParen) h = cc
  ends_left false go i t j (terminals.Punct puncts.LeftParen) h = refl
  ends_left true go i t j _ h = refl
  ends_left false go i t j _ h = refl

  pub left_ends : (calls : Bool) (n i : ℕ) (t : Expr) (j : ℕ) → continues_left calls (terminal_at ts j) ≡ false
      → left_from ts d calls n i t j ≡ Some (t, j)
  unfolding left_from
  left_ends calls zero i t j h = rw (h, left_from)
  left_ends calls (suc n) i t j h = ends_left calls (left_from ts d calls n i) i t j (terminal_at ts j) h

  pub left_none : (calls : Bool) (n i : ℕ) (t : Expr) (j : ℕ) → n ≡ 0 → continues_left calls (terminal_at ts j) ≡ true
      → left_from ts d calls n i t j ≡ None
  unfolding left_from
  left_none calls zero i t j e h = rw (h, left_from)
  left_none calls (suc n) i t j e h = absurd (omega arith)

  stepwise : (calls : Bool) (go : Expr → ℕ → Read Expr) (i : ℕ) (t : Expr) (j : ℕ) (k : Terminal)
      → continues_left calls k ≡ true → left_by ts d calls go i t j k ≡ then_on (left_by ts d true succeed i t j k) go
  unfolding left_by
  stepwise calls go i t j (terminals.Punct puncts.Dot) h =
      if_made (is_name (terminal_at ts (suc j))) (d.room i) (tree.dot t (text_at ts (suc j)) (span ts i (suc (suc j))))
      (suc (suc j)) go
  stepwise calls go i t j (terminals.Punct puncts.LeftBracket) h =
      bind_test (d.expression false (suc j)) (λ x. is_close_bracket (terminal_at ts x.1)) (d.room i)
      (λ x. tree.index t x.0 (span ts i (suc x.1))) (λ x. suc x.1) go
  stepwise true go i t j (terminals.Punct puncts.LeftParen) h =
      bind_made (arguments_at ts d (suc j)) (d.room i) (λ x. tree.call t x.0 (span ts i x.1)) (λ x. x.1) go
  stepwise false go i t j (terminals.Punct puncts.LeftParen) h = cc
  stepwise true go i t j _ h = cc
  stepwise false go i t j _ h = cc

  pub left_more : (calls : Bool) (n i : ℕ) (t : Expr) (j : ℕ) (u : Expr) (k : ℕ) → n ≢ 0
      → continues_left calls (terminal_at ts j) ≡ true
      → left_by ts d true succeed i t j (terminal_at ts j) ≡ Some (u, k)
      → left_from ts d calls n i t j ≡ left_from ts d calls (n - 1) i u k
  unfolding left_from
  left_more calls zero i t j u k h e q = absurd (h refl)
  left_more calls (suc n) i t j u k h e q =
      let m : suc n - 1 ≡ n = omega arith in
      rw m (stepwise calls (left_from ts d calls n i) i t j (terminal_at ts j) e
      ∙ ap (λ o. then_on o (left_from ts d calls n i)) q)

  pub left_fails : (calls : Bool) (n i : ℕ) (t : Expr) (j : ℕ) → n ≢ 0
      → continues_left calls (terminal_at ts j) ≡ true
      → left_by ts d true succeed i t j (terminal_at ts j) ≡ None
      → left_from ts d calls n i t j ≡ None
  unfolding left_from
  left_fails calls zero i t j h e q = absurd (h refl)
  left_fails calls (suc n) i t j h e q =
      stepwise calls (left_from ts d calls n i) i t j (terminal_at ts j) e
      ∙ ap (λ o. then_on o (left_from ts d calls n i)) q

  -- the arguments of a call

  pub arguments_close : (ls : Exprs) (n i : ℕ) (t : Expr) (j : ℕ) → n ≢ 0 → d.assignment false i ≡ Some (t, j)
      → is_close_paren (terminal_at ts j) ≡ true
      → with_forest ls (arguments_from ts d n i) ≡ Some (append ls (tree.more t tree.end), suc j)
  unfolding arguments_from
  arguments_close ls zero i t j h q e = absurd (h refl)
  arguments_close ls (suc n) i t j h q e = rw (q, e, arguments_from)

  pub arguments_more : (ls : Exprs) (n i : ℕ) (t : Expr) (j : ℕ) → n ≢ 0 → d.assignment false i ≡ Some (t, j)
      → is_close_paren (terminal_at ts j) ≡ false → is_comma (terminal_at ts j) ≡ true
      → with_forest ls (arguments_from ts d n i)
      ≡ with_forest (append ls (tree.more t tree.end)) (arguments_from ts d (n - 1) (suc j))
  unfolding arguments_from
  arguments_more ls zero i t j h q f e = absurd (h refl)
  arguments_more ls (suc n) i t j h q f e =
      let g : suc n - 1 ≡ n = omega arith in
      rw (g, q, f, e, arguments_from) (regroup ls t (arguments_from ts d n (suc j)))

  pub arguments_end : (ls : Exprs) (n i : ℕ) (t : Expr) (j : ℕ) → d.assignment false i ≡ Some (t, j)
      → is_close_paren (terminal_at ts j) ≡ false → is_comma (terminal_at ts j) ≡ false
      → with_forest ls (arguments_from ts d n i) ≡ None
  unfolding arguments_from
  arguments_end ls zero i t j q h g = refl
  arguments_end ls (suc n) i t j q h g = rw (q, h, g, arguments_from)

  pub arguments_fails : (ls : Exprs) (n i : ℕ) → d.assignment false i ≡ None
      → with_forest ls (arguments_from ts d n i) ≡ None
  unfolding arguments_from
  arguments_fails ls zero i q = refl
  arguments_fails ls (suc n) i q = rw (q, arguments_from)

  pub arguments_none : (ls : Exprs) (n i : ℕ) → n ≡ 0 → with_forest ls (arguments_from ts d n i) ≡ None
  unfolding arguments_from
  arguments_none ls zero i q = refl
  arguments_none ls (suc n) i q = absurd (omega arith)

  -- the items of an array

  pub items_close : (ls : Forest Span tree.item) (n i : ℕ) → is_close_bracket (terminal_at ts i) ≡ true
      → with_forest ls (items_from ts d n i) ≡ Some (ls, suc i)
  unfolding items_from
  items_close ls zero i e = rw (e, items_from) (ap (λ (a : Forest Span tree.item). Some (a, suc i)) (append_end ls))
  items_close ls (suc n) i e = rw (e, items_from) (ap (λ (a : Forest Span tree.item). Some (a, suc i)) (append_end ls))

  pub items_none : (ls : Forest Span tree.item) (n i : ℕ) → n ≡ 0 → is_close_bracket (terminal_at ts i) ≡ false
      → with_forest ls (items_from ts d n i) ≡ None
  unfolding items_from
  items_none ls zero i q e = rw (e, items_from)
  items_none ls (suc n) i q e = absurd (omega arith)

  pub items_hole : (ls : Forest Span tree.item) (n i : ℕ) → n ≢ 0 → is_close_bracket (terminal_at ts i) ≡ false
      → is_comma (terminal_at ts i) ≡ true
      → with_forest ls (items_from ts d n i)
      ≡ with_forest (append ls (tree.more tree.hole tree.end)) (items_from ts d (n - 1) (suc i))
  unfolding items_from
  items_hole ls zero i h f e = absurd (h refl)
  items_hole ls (suc n) i h f e =
      let g : suc n - 1 ≡ n = omega arith in
      rw (g, f, e, items_from) (regroup ls tree.hole (items_from ts d n (suc i)))

  pub items_fails : (ls : Forest Span tree.item) (n i : ℕ) → is_close_bracket (terminal_at ts i) ≡ false
      → is_comma (terminal_at ts i) ≡ false → d.assignment false i ≡ None → with_forest ls (items_from ts d n i) ≡ None
  unfolding items_from
  items_fails ls zero i f e q = rw (f, items_from)
  items_fails ls (suc n) i f e q = rw (f, e, q, items_from)

  pub items_last : (ls : Forest Span tree.item) (n i : ℕ) (t : Expr) (j : ℕ) → n ≢ 0
      → is_close_bracket (terminal_at ts i) ≡ false → is_comma (terminal_at ts i) ≡ false
      → d.assignment false i ≡ Some (t, j) → is_close_bracket (terminal_at ts j) ≡ true
      → with_forest ls (items_from ts d n i) ≡ Some (append ls (tree.more (tree.filled t) tree.end), suc j)
  unfolding items_from
  items_last ls zero i t j h f e q g = absurd (h refl)
  items_last ls (suc n) i t j h f e q g = rw (f, e, q, g, items_from)

  pub items_more : (ls : Forest Span tree.item) (n i : ℕ) (t : Expr) (j : ℕ) → n ≢ 0
      → is_close_bracket (terminal_at ts i) ≡ false → is_comma (terminal_at ts i) ≡ false
      → d.assignment false i ≡ Some (t, j) → is_close_bracket (terminal_at ts j) ≡ false → is_comma (terminal_at ts j)
      ≡ true
      → with_forest ls (items_from ts d n i)
      ≡ with_forest (append ls (tree.more (tree.filled t) tree.end)) (items_from ts d (n - 1) (suc j))
  unfolding items_from
  items_more ls zero i t j h f e q c k = absurd (h refl)
  items_more ls (suc n) i t j h f e q c k =
      let g : suc n - 1 ≡ n = omega arith in
      rw (g, f, e, q, c, k, items_from) (regroup ls (tree.filled t) (items_from ts d n (suc j)))

  pub items_end : (ls : Forest Span tree.item) (n i : ℕ) (t : Expr) (j : ℕ)
      → is_close_bracket (terminal_at ts i) ≡ false → is_comma (terminal_at ts i) ≡ false
      → d.assignment false i ≡ Some (t, j) → is_close_bracket (terminal_at ts j) ≡ false → is_comma (terminal_at ts j)
      ≡ false
      → with_forest ls (items_from ts d n i) ≡ None
  unfolding items_from
  items_end ls zero i t j f e q c k = rw (f, items_from)
  items_end ls (suc n) i t j f e q c k = rw (f, e, q, c, k, items_from)

pub ruleset comma_loop = (comma_ends, comma_none, comma_fails, comma_more, comma_high)

pub ruleset binary_loop = (binary_ends, binary_looser, binary_fails, binary_more, binary_high)

pub ruleset left_loop = (left_ends, left_none, left_more, left_fails)

pub ruleset arguments_loop = (
  with_end,
  expressions_push,
  arguments_close,
  arguments_more,
  arguments_end,
  arguments_fails,
  arguments_none,
)

pub ruleset items_loop = (
  with_end,
  hole_push,
  item_push,
  items_close,
  items_none,
  items_hole,
  items_fails,
  items_last,
  items_more,
  items_end,
)
