-- An expression in its place: as it is where it fits, and else in brackets.
use Rattle.std.proofs.Common.{◌≡◌, ℕ, suc, ◌≤◌, ◌-◌, Bool, true, false, refl, ap, subst, List, []}
use Rattle.std.proofs.Common.{◌∷◌, arith}
use Rattle.std.specs.Prelude.{if◌then◌else◌}
use Rattle.std.proofs.lemmas.Bool.{leb-true}
use Rattle.jl_ast.specs.declared.ops.BinOp.{BinOp}
use Rattle.jl_ast.specs.Tree as tree
use Rattle.jl_token.specs.declared.punct.Punct.TheVariants as puncts
use Rattle.jl_token.specs.declared.token.Token.{Token}
use Rattle.jl_token.specs.declared.token.TokenKind.{TokenKind}
use Rattle.jl_grammar.specs.Next.{is_comma}
use Rattle.jl_grammar.specs.Operators.{level}
use Rattle.jl_grammar.specs.Reads as reads
use Rattle.jl_grammar.specs.Reads.{Expr, ReadsPrimary, ReadsExpression}
use Rattle.jl_grammar.specs.Tokens.{terminal_at}
use Rattle.jl_print.specs.Pieces.{punct, in_parens, in_parens_unless}
use Rattle.jl_print.specs.Precedence.{precedence_of, fits, is_in, operator_precedence}
use Rattle.jl_print.specs.CanonicalTokens.{tokens_of_node}
use Rattle.jl_print.proofs.Fronts.{Front, of_left, to_expression, as_loose, Quiet, quiet_less, quiet_stop, stops}
use Rattle.jl_print.proofs.Skeleton.{skeleton}
use Rattle.jl_print.proofs.Spells.{Spells, parts, at}

-- an expression that is read, and is t but for places and numbers
pub record Back (ts : List Token) (no_in : Bool) (r i : ℕ) (t : Expr) (j : ℕ) : Type 0 where
  pub tree : Expr
  pub same : skeleton tree ≡ skeleton t
  pub is : Front ts no_in i tree j r

-- the same, up to another place that is the same
pub up_to : {ts : List Token} {no_in : Bool} {r i m j : ℕ} {t : Expr} → Back ts no_in r i t m → m ≡ j
    → Back ts no_in r i t j
up_to {ts} {no_in} {r} {i} {m} {j} {t} b e = subst (λ x. Back ts no_in r i t x) e b

operator_low : (op : BinOp) → operator_precedence op ≤ 14
operator_low op = let h = low (level op) in omega arith
  where
    low : (n : ℕ) → 9 - n ≤ 9
    low n = omega arith

pub rank_top : (t : Expr) → precedence_of t ≤ 14
rank_top (tree.binary op a b s) = go (is_in op)
  where
    go : (x : Bool) → (if x then 0 else operator_precedence op) ≤ 14
    go true = omega arith
    go false = operator_low op
rank_top (tree.update up true g s) = omega arith
rank_top (tree.update up false g s) = omega arith
rank_top _ = omega arith

-- how an expression is read where it is written alone
abbrev pub Alone : List Token → Expr → Type 0
Alone ts t = (no_in : Bool) (i j : ℕ) (line : Bool) → Spells ts i line (tokens_of_node t) j
    → Quiet no_in (precedence_of t) ts j
    → Back ts no_in (precedence_of t) i t j

-- a whole expression, up to a token that ends it
pub record BackWhole (ts : List Token) (no_in : Bool) (i : ℕ) (t : Expr) (j : ℕ) : Type 0 where
  pub tree : Expr
  pub same : skeleton tree ≡ skeleton t
  pub is : ReadsExpression ts no_in i tree j

pub whole : {ts : List Token} (t : Expr) → Alone ts t → (no_in : Bool) (i j : ℕ) (line : Bool)
    → Spells ts i line (tokens_of_node t) j → stops (terminal_at ts j) ≡ true → is_comma (terminal_at ts j) ≡ false
    → BackWhole ts no_in i t j
whole {ts} t alone no_in i j line s h c =
    let a = alone no_in i j line s (quiet_stop no_in (precedence_of t) h) in
    let f = as_loose (precedence_of t) 14 (rank_top t) (omega arith) a.is (quiet_stop no_in 14 h) in
    record { tree = a.tree; same = a.same; is = reads.whole_expression (to_expression f) c }

-- in brackets
pub record BackPrimary (ts : List Token) (i : ℕ) (t : Expr) (j : ℕ) : Type 0 where
  pub tree : Expr
  pub same : skeleton tree ≡ skeleton t
  pub is : ReadsPrimary ts i tree j

pub enclosed : {ts : List Token} (t : Expr) (ks : List TokenKind) → ((i j : ℕ) (line : Bool)
    → Spells ts i line ks j → stops (terminal_at ts j) ≡ true → is_comma (terminal_at ts j) ≡ false
    → BackWhole ts false i t j) → (i j : ℕ) (line : Bool) → Spells ts i line (in_parens ks) j → BackPrimary ts i t j
enclosed {ts} t ks inside i j line s =
    let p = parts ts (suc i) false ks (punct puncts.RightParen ∷ []) j s.1 in
    let c = at p.second.0 in
    let a = inside (suc i) p.middle false p.first (ap stops c.is) (ap is_comma c.is) in
    record {
      tree = a.tree;
      same = a.same;
      is = subst (λ x. ReadsPrimary ts i a.tree x) p.second.1 (reads.in_parens (at s.0) a.is c);
    }

pub bracketed : {ts : List Token} (t : Expr) → Alone ts t → (i j : ℕ) (line : Bool)
    → Spells ts i line (in_parens (tokens_of_node t)) j → BackPrimary ts i t j
bracketed t alone = enclosed t (tokens_of_node t) (λ i j line. whole t alone false i j line)

-- what is written in its place, from what is written alone
pub in_place : {ts : List Token} (t : Expr) (r : ℕ) → r ≤ 14 → Alone ts t → (no_in : Bool) (i j : ℕ) (line : Bool)
    → Spells ts i line (in_parens_unless (fits t r) (tokens_of_node t)) j → Quiet no_in r ts j → Back ts no_in r i t j
in_place {ts} t r top alone no_in i j line = go (fits t r) refl
  where
    go : (b : Bool) → fits t r ≡ b → Spells ts i line (in_parens_unless b (tokens_of_node t)) j → Quiet no_in r ts j
        → Back ts no_in r i t j
    go true e s q =
        let h = leb-true _ _ e in
        let a = alone no_in i j line s (quiet_less (precedence_of t) r h q) in
        record { tree = a.tree; same = a.same; is = as_loose (precedence_of t) r h top a.is q }
    go false e s q =
        let a = bracketed t alone i j line s in
        record { tree = a.tree; same = a.same; is = as_loose 0 r (omega arith) top (of_left (reads.primary a.is)) q }
