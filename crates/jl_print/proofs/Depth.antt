-- What is written closes what it opens, and opens no more than twice as many brackets as the tree is high.
use Rattle.std.proofs.Common.{◌≡◌, ℕ, suc, ◌+◌, ◌-◌, ◌*◌, ◌≤◌, max, Bool, true, false, not, refl, ap, ◌∙◌}
use Rattle.std.proofs.Common.{List, [], ◌∷◌, ◌++◌, arith}
use Rattle.std.specs.Prelude.{Option, Some, None, codes, if◌then◌else◌}
use Rattle.jl_ast.specs.declared.ops.BinOp.{BinOp}
use Rattle.jl_ast.specs.declared.ops.BinOp.TheVariants as ops
use Rattle.jl_ast.specs.declared.ops.UnOp.{UnOp}
use Rattle.jl_ast.specs.declared.ops.UnOp.TheVariants as prefixes
use Rattle.jl_ast.specs.Height.{height, forest_height, optional_height}
use Rattle.jl_ast.specs.Tree.{Ident, Sort, Tree, Forest, OptionalTree, Text, is_name}
use Rattle.jl_ast.specs.Tree as tree
use Rattle.jl_token.specs.declared.punct.Punct.TheVariants as puncts
use Rattle.jl_token.specs.declared.token.TokenKind.{TokenKind}
use Rattle.jl_grammar.specs.declared.terminal.Terminal.TheVariants as terminals
use Rattle.jl_grammar.specs.declared.word.Word.{Word}
use Rattle.jl_grammar.specs.Brackets.{bracket}
use Rattle.jl_grammar.specs.Terminals.{terminal_of, name_terminal}
use Rattle.jl_grammar.specs.Words.{same_text, word_of}
use Rattle.jl_print.specs.Pieces.{name, punct, string, key, is_bare_key, operator, prefix_operator, update_operator}
use Rattle.jl_print.specs.Pieces.{assign_punct, in_parens, in_parens_unless}
use Rattle.jl_print.specs.Precedence.{fits, is_in, operator_precedence}
use Rattle.jl_print.specs.CanonicalTokens.{tokens_of_node, tokens_of_all, tokens_of_optional, tokens_after}
use Rattle.jl_print.specs.CanonicalTokens.{tokens_of_arguments}
use Rattle.jl_print.specs.CanonicalTokens.{further_arguments, tokens_of_entries, tokens_of_declarators, further}
use Rattle.jl_print.specs.CanonicalTokens.{tokens_of_items}
use Rattle.jl_print.specs.CanonicalTokens.{items_after, parameters, further_names, optional_name, directive}
use Rattle.jl_print.specs.CanonicalTokens.{last_item}

-- how many are open after these tokens, where n were open before
abbrev pub left_open : ℕ → List TokenKind → ℕ
left_open n [] = n
left_open n (k ∷ ks) = left_open (bracket (terminal_of k) n) ks

-- the most that are open anywhere in them
abbrev pub most_open : ℕ → List TokenKind → ℕ
most_open n [] = n
most_open n (k ∷ ks) = max n (most_open (bracket (terminal_of k) n) ks)

left_append : (n : ℕ) (a b : List TokenKind) → left_open n (a ++ b) ≡ left_open (left_open n a) b
left_append n [] b = refl
left_append n (k ∷ a) b = left_append (bracket (terminal_of k) n) a b

most_append : (n : ℕ) (a b : List TokenKind) → most_open n (a ++ b) ≤ max (most_open n a) (most_open (left_open n a) b)
most_append n [] b = omega arith
most_append n (k ∷ a) b = let h = most_append (bracket (terminal_of k) n) a b in omega arith

-- what opens no more than m at once, and closes what it opens
pub record Tame (m : ℕ) (ks : List TokenKind) : Type 0 where
  pub closes : (n : ℕ) → left_open n ks ≡ n
  pub most : (n : ℕ) → most_open n ks ≤ n + m

none : (m : ℕ) → Tame m []
none m = record { closes = λ n. refl; most = λ n. omega arith }

infix_node : (m : ℕ) (a b : List TokenKind) → Tame m a → Tame m b → Tame m (a ++ b)
infix_node m a b p q = record {
  closes = λ n. left_append n a b ∙ ap (λ x. left_open x b) (p.closes n) ∙ q.closes n;
  most = λ n. let h = most_append n a b in let x = p.most n in let y = q.most n in
      let e : most_open (left_open n a) b ≡ most_open n b = ap (λ x. most_open x b) (p.closes n) in omega arith;
}

weaker : (m o : ℕ) (ks : List TokenKind) → m ≤ o → Tame m ks → Tame o ks
weaker m o ks h p = record { closes = p.closes; most = λ n. let x = p.most n in omega arith }

-- a token that is no bracket
pub record Flat (k : TokenKind) : Type 0 where
  pub is : (n : ℕ) → bracket (terminal_of k) n ≡ n

token : (m : ℕ) (k : TokenKind) (ks : List TokenKind) → Flat k → Tame m ks → Tame m (k ∷ ks)
token m k ks h p = record {
  closes = λ n. ap (λ x. left_open x ks) (h.is n) ∙ p.closes n;
  most = λ n. let x = p.most n in
      let e : most_open (bracket (terminal_of k) n) ks ≡ most_open n ks = ap (λ x. most_open x ks) (h.is n) in
      omega arith;
}

-- between two brackets one more is open
record Pair (o c : TokenKind) : Type 0 where
  opens : (n : ℕ) → bracket (terminal_of o) n ≡ suc n
  closes : (n : ℕ) → bracket (terminal_of c) (suc n) ≡ n

parens : Pair (punct puncts.LeftParen) (punct puncts.RightParen)
parens = record { opens = λ n. refl; closes = λ n. omega arith }

squares : Pair (punct puncts.LeftBracket) (punct puncts.RightBracket)
squares = record { opens = λ n. refl; closes = λ n. omega arith }

braces : Pair (punct puncts.LeftBrace) (punct puncts.RightBrace)
braces = record { opens = λ n. refl; closes = λ n. omega arith }

between : {o c : TokenKind} (m : ℕ) (ks : List TokenKind) → Pair o c → Tame m ks → Tame (suc m) (o ∷ (ks ++ c ∷ []))
between {o} {c} m ks b p = record {
  closes = λ n. ap (λ x. left_open x (ks ++ c ∷ [])) (b.opens n) ∙ left_append (suc n) ks (c ∷ []) ∙
      ap (λ x. left_open x (c ∷ [])) (p.closes (suc n)) ∙ b.closes n;
  most = λ n. let h = most_append (suc n) ks (c ∷ []) in let x = p.most (suc n) in
      let e : most_open (bracket (terminal_of o) n) (ks ++ c ∷ []) ≡ most_open (suc n) (ks ++ c ∷ []) =
      ap (λ x. most_open x (ks ++ c ∷ [])) (b.opens n) in
      let f : most_open (left_open (suc n) ks) (c ∷ []) ≡ most_open (suc n) (c ∷ []) =
      ap (λ x. most_open x (c ∷ [])) (p.closes (suc n)) in
      let g = b.closes n in omega arith;
}

fitting : (m : ℕ) (b : Bool) (ks : List TokenKind) → Tame m ks → Tame (suc m) (in_parens_unless b ks)
fitting m true ks p = weaker m (suc m) ks (omega arith) p
fitting m false ks p = between m ks parens p

-- names, strings, numbers and operators are no brackets
unreserved_flat : (a b : Bool) (n : ℕ)
    → bracket (if a then terminals.Get else if b then terminals.Set else terminals.Identifier) n ≡ n
unreserved_flat true b n = refl
unreserved_flat false true n = refl
unreserved_flat false false n = refl

name_flat : (t : Text) → Flat (name t)
name_flat t = record { is = λ n. go n (word_of t) refl }
  where
    go : (n : ℕ) (o : Option Word) → word_of t ≡ o → bracket (name_terminal t false) n ≡ n
    go n (Some w) e = rw e refl
    go n None e = rw e (unreserved_flat (same_text (codes "get") t) (same_text (codes "set") t) n)

string_flat : (t : Text) → Flat (string t)
string_flat t = record { is = λ n. refl }

key_flat : (t : Text) → Flat (key t)
key_flat t = go (is_bare_key t)
  where
    go : (b : Bool) → Flat (if b then name t else string t)
    go true = name_flat t
    go false = string_flat t

operator_flat : (op : BinOp) → Flat (operator op)
operator_flat ops.InstanceOf = record { is = λ n. refl }
operator_flat _ = record { is = λ n. refl }

prefix_flat : (op : UnOp) → Flat (prefix_operator op)
prefix_flat prefixes.Minus = record { is = λ n. refl }
prefix_flat _ = record { is = λ n. refl }

update_flat : (up : Bool) → Flat (update_operator up)
update_flat true = record { is = λ n. refl }
update_flat false = record { is = λ n. refl }

assign_flat : (op : BinOp) → Flat (punct (assign_punct op))
assign_flat ops.Mul = record { is = λ n. refl }
assign_flat _ = record { is = λ n. refl }

comma_flat : Flat (punct puncts.Comma)
comma_flat = record { is = λ n. refl }

semicolon_flat : Flat (punct puncts.Semicolon)
semicolon_flat = record { is = λ n. refl }

colon_flat : Flat (punct puncts.Colon)
colon_flat = record { is = λ n. refl }

names_tame : (m : ℕ) {S : Type 0} (ps : List (Ident S)) → Tame m (further_names ps)
names_tame m [] = none m
names_tame m (p ∷ ps) = token m _ _ comma_flat (token m _ _ (name_flat p.text) (names_tame m ps))

parameters_tame : {S : Type 0} (ps : List (Ident S)) → Tame 1 (parameters ps)
parameters_tame [] = between 0 [] parens (none 0)
parameters_tame (p ∷ ps) = between 0 (name p.text ∷ further_names ps) parens
    (token 0 _ _ (name_flat p.text) (names_tame 0 ps))

optional_name_tame : (m : ℕ) {S : Type 0} (x : Option (Ident S)) → Tame m (optional_name x)
optional_name_tame m None = none m
optional_name_tame m (Some x) = token m _ _ (name_flat x.text) (none m)

directive_tame : (m : ℕ) (strict : Bool) → Tame m (directive strict)
directive_tame m true = token m _ _ (string_flat (codes "use strict")) (token m _ _ semicolon_flat (none m))
directive_tame m false = none m

-- the most that parts of a sort open, by their height: what stands in a place may have brackets of its own
abbrev pub cap : Sort → ℕ → ℕ
cap tree.item h = 2 * h
cap tree.entry h = 2 * h
cap tree.init h = 2 * h
cap tree.decl h = 2 * h
cap tree.branch h = 2 * h + 1
cap tree.handler h = 2 * h + 1
cap _ h = 2 * h - 1

cap_grows : (x : Sort) (h k : ℕ) → h ≤ k → cap x h ≤ cap x k
cap_grows tree.item h k l = omega arith
cap_grows tree.branch h k l = omega arith
cap_grows _ h k l = omega arith

pos : {S : Type 0} (t : Tree S tree.expr) → 1 ≤ height t
pos (tree.this s) = omega arith
pos (tree.function_expression (tree.function n x ps c s) u) = omega arith
pos _ = omega arith

callee_tame : (m : ℕ) (b : Bool) (ks : List TokenKind) → Tame m ks → Tame (suc m) (if b then ks else in_parens ks)
callee_tame m true ks p = weaker m (suc m) ks (omega arith) p
callee_tame m false ks p = between m ks parens p

last_item_tame : (m : ℕ) {S : Type 0} (t : Tree S tree.item) → Tame m (last_item t)
last_item_tame m tree.hole = token m _ _ comma_flat (none m)
last_item_tame m (tree.filled a) = none m

-- an expression in its place
placed : {S : Type 0} (m r : ℕ) (t : Tree S tree.expr) → 2 * height t ≤ m → Tame (2 * height t - 1) (tokens_of_node t)
    → Tame m (in_parens_unless (fits t r) (tokens_of_node t))
placed m r t h p = let q = pos t in weaker _ m _ (omega arith) (fitting _ (fits t r) _ p)

module _ {S : Type 0} where
  mutual
    unfolding tokens_of_node

    pub tame : {x : Sort} (t : Tree S x) → Tame (cap x (height t)) (tokens_of_node t)
    tame (tree.this s) = token 1 _ _ (name_flat (codes "this")) (none 1)
    tame (tree.name t s) = token 1 _ _ (name_flat t) (none 1)
    tame (tree.number n s) = token 1 _ _ (record { is = λ n. refl }) (none 1)
    tame (tree.string t s) = token 1 _ _ (string_flat t) (none 1)
    tame (tree.boolean true s) = token 1 _ _ (name_flat (codes "true")) (none 1)
    tame (tree.boolean false s) = token 1 _ _ (name_flat (codes "false")) (none 1)
    tame (tree.null s) = token 1 _ _ (name_flat (codes "null")) (none 1)
    tame (tree.array a s) = weaker _ _ _ (omega arith) (between _ _ squares (tame_items a))
    tame (tree.object a s) = weaker _ _ _ (omega arith) (between _ _ braces (tame_entries a))
    tame (tree.function_expression f s) = tame f
    tame (tree.dot a t s) = let m = 2 * (height a + 1) - 1 in
        infix_node m _ _ (placed m 0 a (omega arith) (tame a)) (token m _ _ (record { is = λ n. refl })
        (token m _ _ (name_flat t) (none m)))
    tame (tree.index a b s) = let m = 2 * (max (height a) (height b) + 1) - 1 in let p = pos b in
        infix_node m _ _ (placed m 0 a (omega arith) (tame a))
        (weaker _ m _ (omega arith) (between _ _ squares (tame b)))
    tame (tree.call a b s) = let m = 2 * (max (height a) (forest_height b) + 1) - 1 in
        infix_node m _ _ (placed m 0 a (omega arith) (tame a))
        (weaker _ m _ (omega arith) (between _ _ parens (tame_arguments b)))
    tame (tree.new a b s) = let m = 2 * (max (height a) (forest_height b) + 1) - 1 in let p = pos a in
        token m _ _ (name_flat (codes "new")) (infix_node m _ _
        (weaker _ m _ (omega arith) (callee_tame _ (is_name a) _ (tame a)))
        (weaker _ m _ (omega arith) (between _ _ parens (tame_arguments b))))
    tame (tree.unary op a s) = let m = 2 * (height a + 1) - 1 in
        token m _ _ (prefix_flat op) (placed m 2 a (omega arith) (tame a))
    tame (tree.update up true g s) = let m = 2 * (height g + 1) - 1 in
        token m _ _ (update_flat up) (weaker _ m _ (omega arith) (tame g))
    tame (tree.update up false g s) = let m = 2 * (height g + 1) - 1 in
        infix_node m _ _ (weaker _ m _ (omega arith) (tame g)) (token m _ _ (update_flat up) (none m))
    tame (tree.binary op a b s) = let m = 2 * max (height a) (height b) in
        weaker _ _ _ (omega arith) (fitting m (not (is_in op)) _ (infix_node m _ _
        (placed m (operator_precedence op) a (omega arith) (tame a))
        (token m _ _ (operator_flat op) (placed m _ b (omega arith) (tame b)))))
    tame (tree.and a b s) = let m = 2 * (max (height a) (height b) + 1) - 1 in
        infix_node m _ _ (placed m 11 a (omega arith) (tame a))
        (token m _ _ (record { is = λ n. refl }) (placed m 10 b (omega arith) (tame b)))
    tame (tree.or a b s) = let m = 2 * (max (height a) (height b) + 1) - 1 in
        infix_node m _ _ (placed m 12 a (omega arith) (tame a))
        (token m _ _ (record { is = λ n. refl }) (placed m 11 b (omega arith) (tame b)))
    tame (tree.conditional a b c s) = let m = 2 * (max (max (height a) (height b)) (height c) + 1) - 1 in
        infix_node m _ _ (placed m 12 a (omega arith) (tame a)) (token m _ _ (record { is = λ n. refl })
        (infix_node m _ _ (placed m 13 b (omega arith) (tame b))
        (token m _ _ colon_flat (placed m 13 c (omega arith) (tame c)))))
    tame (tree.assign None g a s) = let m = 2 * (max (height g) (height a) + 1) - 1 in
        infix_node m _ _ (weaker _ m _ (omega arith) (tame g))
        (token m _ _ (record { is = λ n. refl }) (placed m 13 a (omega arith) (tame a)))
    tame (tree.assign (Some op) g a s) = let m = 2 * (max (height g) (height a) + 1) - 1 in
        infix_node m _ _ (weaker _ m _ (omega arith) (tame g))
        (token m _ _ (assign_flat op) (placed m 13 a (omega arith) (tame a)))
    tame (tree.comma a b s) = let m = 2 * (max (height a) (height b) + 1) - 1 in
        infix_node m _ _ (weaker _ m _ (omega arith) (tame a))
        (token m _ _ comma_flat (placed m 13 b (omega arith) (tame b)))
    tame (tree.to_name x) = token 0 _ _ (name_flat x.text) (none 0)
    tame (tree.to_dot a t s) = let m = 2 * (height a + 1) - 1 in
        infix_node m _ _ (placed m 0 a (omega arith) (tame a)) (token m _ _ (record { is = λ n. refl })
        (token m _ _ (name_flat t) (none m)))
    tame (tree.to_index a b s) = let m = 2 * (max (height a) (height b) + 1) - 1 in let p = pos b in
        infix_node m _ _ (placed m 0 a (omega arith) (tame a))
        (weaker _ m _ (omega arith) (between _ _ squares (tame b)))
    tame tree.hole = none 0
    tame (tree.filled a) = placed (2 * height a) 13 a (omega arith) (tame a)
    tame (tree.value k a) = let m = 2 * height a in
        token m _ _ (key_flat k.text) (token m _ _ colon_flat (placed m 13 a (omega arith) (tame a)))
    tame (tree.getter k (tree.function n x ps c s)) = let m = 2 * (height c + 1) in
        token m _ _ (name_flat (codes "get")) (token m _ _ (key_flat k.text) (infix_node m _ _
        (weaker _ m _ (omega arith) (parameters_tame ps)) (weaker _ m _ (omega arith) (between _ _ braces (tame c)))))
    tame (tree.setter k (tree.function n x ps c s)) = let m = 2 * (height c + 1) in
        token m _ _ (name_flat (codes "set")) (token m _ _ (key_flat k.text) (infix_node m _ _
        (weaker _ m _ (omega arith) (parameters_tame ps)) (weaker _ m _ (omega arith) (between _ _ braces (tame c)))))
    tame (tree.function n x ps c s) = let m = 2 * (height c + 1) - 1 in
        token m _ _ (name_flat (codes "function")) (infix_node m _ _ (optional_name_tame m x) (infix_node m _ _
        (weaker _ m _ (omega arith) (parameters_tame ps)) (weaker _ m _ (omega arith) (between _ _ braces (tame c)))))
    tame (tree.body strict fs ws) = let m = 2 * max (forest_height fs) (forest_height ws) - 1 in
        infix_node m _ _ (directive_tame m strict) (infix_node m _ _ (weaker _ m _ (omega arith) (tame_all fs))
        (weaker _ m _ (omega arith) (tame_all ws)))
    tame (tree.var ds s) = let m = 2 * (forest_height ds + 1) - 1 in
        token m _ _ (name_flat (codes "var")) (infix_node m _ _ (weaker _ m _ (omega arith) (tame_declarators ds))
        (token m _ _ semicolon_flat (none m)))
    tame (tree.empty s) = token 1 _ _ semicolon_flat (none 1)
    tame (tree.expression a s) = let m = 2 * (height a + 1) - 1 in let p = pos a in
        infix_node m _ _ (weaker _ m _ (omega arith) (fitting _ _ _ (tame a))) (token m _ _ semicolon_flat (none m))
    tame (tree.block ws s) = weaker _ _ _ (omega arith) (between _ _ braces (tame_all ws))
    tame (tree.if_else a ws b s) =
        let m = 2 * (max (max (height a) (forest_height ws)) (optional_height b) + 1) - 1 in let p = pos a in
        token m _ _ (name_flat (codes "if"))
        (infix_node m _ _ (weaker _ m _ (omega arith) (between _ _ parens (tame a)))
        (infix_node m _ _ (weaker _ m _ (omega arith) (between _ _ braces (tame_all ws)))
        (weaker _ m _ (omega arith) (tame_after (codes "else") b))))
    tame (tree.do_while ws a s) = let m = 2 * (max (forest_height ws) (height a) + 1) - 1 in let p = pos a in
        token m _ _ (name_flat (codes "do"))
        (infix_node m _ _ (weaker _ m _ (omega arith) (between _ _ braces (tame_all ws)))
        (token m _ _ (name_flat (codes "while")) (infix_node m _ _
        (weaker _ m _ (omega arith) (between _ _ parens (tame a))) (token m _ _ semicolon_flat (none m)))))
    tame (tree.while a ws s) = let m = 2 * (max (height a) (forest_height ws) + 1) - 1 in let p = pos a in
        token m _ _ (name_flat (codes "while")) (infix_node m _ _
        (weaker _ m _ (omega arith) (between _ _ parens (tame a)))
        (weaker _ m _ (omega arith) (between _ _ braces (tame_all ws))))
    tame (tree.for i a b ws s) =
        let n = max (max (max (height i) (optional_height a)) (optional_height b)) (forest_height ws) in
        let m = 2 * n in let o = 2 * (n + 1) - 1 in
        token o _ _ (name_flat (codes "for")) (infix_node o _ _ (weaker _ o _ (omega arith) (between m _ parens
        (infix_node m _ _ (weaker _ m _ (omega arith) (tame i)) (token m _ _ semicolon_flat
        (infix_node m _ _ (weaker _ m _ (omega arith) (tame_optional a)) (token m _ _ semicolon_flat
        (weaker _ m _ (omega arith) (tame_optional b))))))))
        (weaker _ o _ (omega arith) (between _ _ braces (tame_all ws))))
    tame (tree.for_in true x a ws s) =
        let n = max (height a) (forest_height ws) in let m = 2 * n in let o = 2 * (n + 1) - 1 in
        token o _ _ (name_flat (codes "for")) (infix_node o _ _ (weaker _ o _ (omega arith) (between m _ parens
        (token m _ _ (name_flat (codes "var")) (token m _ _ (name_flat x.text) (token m _ _ (name_flat (codes "in"))
        (weaker _ m _ (omega arith) (tame a))))))) (weaker _ o _ (omega arith) (between _ _ braces (tame_all ws))))
    tame (tree.for_in false x a ws s) =
        let n = max (height a) (forest_height ws) in let m = 2 * n in let o = 2 * (n + 1) - 1 in
        token o _ _ (name_flat (codes "for")) (infix_node o _ _ (weaker _ o _ (omega arith) (between m _ parens
        (token m _ _ (name_flat x.text) (token m _ _ (name_flat (codes "in"))
        (weaker _ m _ (omega arith) (tame a)))))) (weaker _ o _ (omega arith) (between _ _ braces (tame_all ws))))
    tame (tree.continue x s) = token 1 _ _ (name_flat (codes "continue"))
        (infix_node 1 _ _ (optional_name_tame 1 x) (token 1 _ _ semicolon_flat (none 1)))
    tame (tree.break x s) = token 1 _ _ (name_flat (codes "break"))
        (infix_node 1 _ _ (optional_name_tame 1 x) (token 1 _ _ semicolon_flat (none 1)))
    tame (tree.return a s) = let m = 2 * (optional_height a + 1) - 1 in
        token m _ _ (name_flat (codes "return")) (infix_node m _ _ (weaker _ m _ (omega arith) (tame_optional a))
        (token m _ _ semicolon_flat (none m)))
    tame (tree.labelled x w s) = let m = 2 * (height w + 1) - 1 in
        token m _ _ (name_flat x.text) (token m _ _ colon_flat (weaker _ m _ (omega arith) (tame w)))
    tame (tree.switch a cs s) = let m = 2 * (max (height a) (forest_height cs) + 1) - 1 in let p = pos a in
        token m _ _ (name_flat (codes "switch")) (infix_node m _ _
        (weaker _ m _ (omega arith) (between _ _ parens (tame a)))
        (weaker _ m _ (omega arith) (between _ _ braces (tame_all cs))))
    tame (tree.throw a s) = let m = 2 * (height a + 1) - 1 in
        token m _ _ (name_flat (codes "throw")) (infix_node m _ _ (weaker _ m _ (omega arith) (tame a))
        (token m _ _ semicolon_flat (none m)))
    tame (tree.try ws h b s) =
        let m = 2 * (max (max (forest_height ws) (optional_height h)) (optional_height b) + 1) - 1 in
        token m _ _ (name_flat (codes "try"))
        (infix_node m _ _ (weaker _ m _ (omega arith) (between _ _ braces (tame_all ws)))
        (infix_node m _ _ (weaker _ m _ (omega arith) (tame_optional h))
        (weaker _ m _ (omega arith) (tame_after (codes "finally") b))))
    tame (tree.debugger s) = token 1 _ _ (name_flat (codes "debugger")) (token 1 _ _ semicolon_flat (none 1))
    tame tree.nothing = none 0
    tame (tree.init_expression a) = weaker _ _ _ (omega arith) (tame a)
    tame (tree.init_var ds) = token _ _ _ (name_flat (codes "var")) (tame_declarators ds)
    tame (tree.declarator x tree.absent) = token 0 _ _ (name_flat x.text) (none 0)
    tame (tree.declarator x (tree.present a)) = let m = 2 * height a in
        token m _ _ (name_flat x.text) (token m _ _ (record { is = λ n. refl }) (placed m 13 a (omega arith) (tame a)))
    tame (tree.case tree.absent ws) = let m = 2 * forest_height ws - 1 in
        weaker m _ _ (omega arith) (token m _ _ (name_flat (codes "default")) (token m _ _ colon_flat (tame_all ws)))
    tame (tree.case (tree.present a) ws) = let m = 2 * max (height a) (forest_height ws) - 1 in
        token m _ _ (name_flat (codes "case")) (infix_node m _ _ (weaker _ m _ (omega arith) (tame a))
        (token m _ _ colon_flat (weaker _ m _ (omega arith) (tame_all ws))))
    tame (tree.branch_of ws) = weaker _ _ _ (omega arith) (between _ _ braces (tame_all ws))
    tame (tree.catch x ws) = let m = 2 * forest_height ws + 1 in
        token m _ _ (name_flat (codes "catch")) (infix_node m (in_parens (name x.text ∷ [])) _
        (weaker _ m _ (omega arith) (between 0 _ parens (token 0 _ _ (name_flat x.text) (none 0))))
        (weaker _ m _ (omega arith) (between _ _ braces (tame_all ws))))

    tame_all : {x : Sort} (r : Forest S x) → Tame (cap x (forest_height r)) (tokens_of_all r)
    tame_all {x} tree.end = none _
    tame_all {x} (tree.more t r) = let m = cap x (max (height t) (forest_height r)) in
        infix_node m _ _ (weaker _ m _ (cap_grows x _ _ (omega arith)) (tame t))
        (weaker _ m _ (cap_grows x _ _ (omega arith)) (tame_all r))

    tame_optional : {x : Sort} (t : OptionalTree S x) → Tame (cap x (optional_height t)) (tokens_of_optional t)
    tame_optional tree.absent = none _
    tame_optional (tree.present t) = tame t

    tame_after : {x : Sort} (w : Text) (t : OptionalTree S x) → Tame (cap x (optional_height t)) (tokens_after w t)
    tame_after w tree.absent = none _
    tame_after w (tree.present t) = token _ _ _ (name_flat w) (tame t)

    tame_arguments : (r : Forest S tree.expr) → Tame (2 * forest_height r) (tokens_of_arguments r)
    tame_arguments tree.end = none 0
    tame_arguments (tree.more t r) = let m = 2 * max (height t) (forest_height r) in
        infix_node m _ _ (placed m 13 t (omega arith) (tame t)) (weaker _ m _ (omega arith) (tame_further_arguments r))

    tame_further_arguments : (r : Forest S tree.expr) → Tame (2 * forest_height r) (further_arguments r)
    tame_further_arguments tree.end = none 0
    tame_further_arguments (tree.more t r) = let m = 2 * max (height t) (forest_height r) in
        token m _ _ comma_flat (infix_node m _ _ (placed m 13 t (omega arith) (tame t))
        (weaker _ m _ (omega arith) (tame_further_arguments r)))

    tame_entries : (r : Forest S tree.entry) → Tame (2 * forest_height r) (tokens_of_entries r)
    tame_entries tree.end = none 0
    tame_entries (tree.more t r) = let m = 2 * max (height t) (forest_height r) in
        infix_node m _ _ (weaker _ m _ (omega arith) (tame t)) (weaker _ m _ (omega arith) (tame_further r))

    tame_declarators : (r : Forest S tree.decl) → Tame (2 * forest_height r) (tokens_of_declarators r)
    tame_declarators tree.end = none 0
    tame_declarators (tree.more t r) = let m = 2 * max (height t) (forest_height r) in
        infix_node m _ _ (weaker _ m _ (omega arith) (tame t)) (weaker _ m _ (omega arith) (tame_further r))

    tame_further : {x : Sort} (r : Forest S x) → Tame (cap x (forest_height r)) (further r)
    tame_further tree.end = none _
    tame_further {x} (tree.more t r) = let m = cap x (max (height t) (forest_height r)) in
        token m _ _ comma_flat (infix_node m _ _ (weaker _ m _ (cap_grows x _ _ (omega arith)) (tame t))
        (weaker _ m _ (cap_grows x _ _ (omega arith)) (tame_further r)))

    tame_items : (r : Forest S tree.item) → Tame (2 * forest_height r) (tokens_of_items r)
    tame_items tree.end = none 0
    tame_items (tree.more t r) = let m = 2 * max (height t) (forest_height r) in
        infix_node m _ _ (weaker _ m _ (omega arith) (tame t)) (weaker _ m _ (omega arith) (tame_items_after t r))

    tame_items_after : (t : Tree S tree.item) (r : Forest S tree.item) → Tame (2 * forest_height r) (items_after t r)
    tame_items_after t tree.end = last_item_tame 0 t
    tame_items_after t (tree.more u r) = let m = 2 * max (height u) (forest_height r) in
        token m _ _ comma_flat (infix_node m _ _ (weaker _ m _ (omega arith) (tame u))
        (weaker _ m _ (omega arith) (tame_items_after u r)))
