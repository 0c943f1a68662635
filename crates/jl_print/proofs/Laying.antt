-- Pieces laid out one by one.
use Rattle.std.proofs.Common.{◌≡◌, ℕ, Bool, true, false, List, [], ◌∷◌, ◌++◌, refl, if◌then◌else◌, suc, ◌+◌, ◌<◌, map}
use Rattle.std.proofs.Common.{drop, length, get_or}
use Rattle.std.proofs.lemmas.List.{take_all}
use Rattle.std.proofs.Common.{take, length-drop, ◌-◌, append_assoc, ap, sym, ◌∙◌, drop-cons, arith}
use Rattle.jl_ast.specs.Tree.{Text}
use Rattle.jl_token.specs.declared.token.TokenKind.{TokenKind}
use Rattle.jl_token.specs.Spelling.{spelling_of}
use Rattle.jl_print.specs.inner.Kinds.{after, kind_of}
use Rattle.jl_print.specs.declared.piece.Piece.{Piece}
use Rattle.jl_print.specs.Layout.{layout_of, ends_line, is_dot, is_number, joins_left, joins_right}
use Rattle.jl_print.specs.Pieces.{is_bare_key, key, name, string}

pub laid_next : (k : TokenKind) (ks : List TokenKind)
    → layout_of (k ∷ ks) ≡ spelling_of k ++ (after k ks ++ layout_of ks)
laid_next k [] = refl
laid_next k (l ∷ ks) = refl

pub next_piece : (o : List ℕ) (ps : List Piece) (i : ℕ) (p : Piece) → i < length ps → p ≡ get_or ps i p →
    ((o ++ spelling_of (kind_of p)) ++ after (kind_of p) (map kind_of (drop (i + 1) ps)))
    ++ layout_of (map kind_of (drop (i + 1) ps)) ≡ o ++ layout_of (map kind_of (drop i ps))
next_piece o ps i p h g =
    let q : i + 1 ≡ suc i = omega arith in
    let e : drop i ps ≡ p ∷ drop (suc i) ps = drop-cons ps i p h ∙ ap (λ x. x ∷ drop (suc i) ps) (sym g) in
    rw (q, e) (append_assoc (o ++ spelling_of (kind_of p)) _ _ ∙ append_assoc o (spelling_of (kind_of p)) _
    ∙ ap (λ x. o ++ x) (sym (laid_next (kind_of p) (map kind_of (drop (suc i) ps)))))

-- what a slice from n on holds
pub rest_is : (n : ℕ) (ps : List Piece) → take (length ps - n) (drop n ps) ≡ drop n ps
rest_is n ps = take_all (length ps - n) (drop n ps) (omega (arith, length-drop n ps))

-- a key is neither a number nor a punctuator
pub key_ends_line : (t : Text) → ends_line (key t) ≡ false
key_ends_line t = go (is_bare_key t)
  where
    go : (b : Bool) → ends_line (if b then name t else string t) ≡ false
    go true = refl
    go false = refl

pub key_is_number : (t : Text) → is_number (key t) ≡ false
key_is_number t = go (is_bare_key t)
  where
    go : (b : Bool) → is_number (if b then name t else string t) ≡ false
    go true = refl
    go false = refl

pub key_is_dot : (t : Text) → is_dot (key t) ≡ false
key_is_dot t = go (is_bare_key t)
  where
    go : (b : Bool) → is_dot (if b then name t else string t) ≡ false
    go true = refl
    go false = refl

pub key_joins_left : (t : Text) → joins_left (key t) ≡ false
key_joins_left t = go (is_bare_key t)
  where
    go : (b : Bool) → joins_left (if b then name t else string t) ≡ false
    go true = refl
    go false = refl

pub key_joins_right : (t : Text) → joins_right (key t) ≡ false
key_joins_right t = go (is_bare_key t)
  where
    go : (b : Bool) → joins_right (if b then name t else string t) ≡ false
    go true = refl
    go false = refl

pub ruleset pieces = (
  laid_next,
  key_ends_line,
  key_is_number,
  key_is_dot,
  key_joins_left,
  key_joins_right,
)
