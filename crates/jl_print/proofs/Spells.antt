-- Tokens that are of given kinds, one after the other.
use Rattle.std.proofs.Common.{◌≡◌, ℕ, zero, suc, Bool, true, false, refl, ap, ◌∙◌, List, [], ◌∷◌, ◌++◌}
use Rattle.std.specs.Prelude.{Option, Some, None, codes, if◌then◌else◌}
use Rattle.std.proofs.lemmas.Option.{same_Some, none-some}
use Rattle.jl_ast.specs.Tree.{Text}
use Rattle.jl_token.specs.declared.token.Token.{Token}
use Rattle.jl_token.specs.declared.token.TokenKind.{TokenKind}
use Rattle.jl_grammar.specs.declared.terminal.Terminal.TheVariants as terminals
use Rattle.jl_grammar.specs.declared.word.Word.{Word}
use Rattle.jl_grammar.specs.Next.{is_identifier, is_name, is_key}
use Rattle.jl_grammar.specs.Terminals.{terminal_of, name_terminal}
use Rattle.jl_grammar.specs.Words.{same_text, word_of}
use Rattle.jl_grammar.specs.Tokens.{At, Is, terminal_at, line_at, text_at, number_at, key_at, strict_at}
use Rattle.jl_print.specs.Layout.{ends_line}
use Rattle.jl_print.specs.Pieces.{name, string, key, is_bare_key}
use Rattle.jl_print.specs.WellFormed.{IsIdentifier}

-- the kind of the i-th token, if there is one
abbrev pub kind_at : List Token → ℕ → Option TokenKind
kind_at [] i = None
kind_at (t ∷ ts) zero = Some t.kind
kind_at (t ∷ ts) (suc i) = kind_at ts i

-- the i-th token is of this kind, and a line ends before it or not
pub record Spelled (ts : List Token) (i : ℕ) (below : Bool) (k : TokenKind) : Type 0 where
  pub kind : kind_at ts i ≡ Some k
  pub line : line_at ts i ≡ below

-- the tokens from i to j are of these kinds, each on a new line where the one before it ends one
abbrev pub Spells : List Token → ℕ → Bool → List TokenKind → ℕ → Type 0
Spells ts i line [] j = i ≡ j
Spells ts i line (k ∷ ks) j = Spelled ts i line k × Spells ts (suc i) (ends_line k) ks j

-- whether a line ends after tokens of these kinds
abbrev pub line_after : Bool → List TokenKind → Bool
line_after line [] = line
line_after line (k ∷ ks) = line_after (ends_line k) ks

pub line_append : (line : Bool) (a b : List TokenKind) → line_after line (a ++ b) ≡ line_after (line_after line a) b
line_append line [] b = refl
line_append line (k ∷ a) b = line_append (ends_line k) a b

-- the two parts of what is spelled
pub record Parts (ts : List Token) (i : ℕ) (line : Bool) (a b : List TokenKind) (j : ℕ) : Type 0 where
  pub middle : ℕ
  pub first : Spells ts i line a middle
  pub second : Spells ts middle (line_after line a) b j

pub parts : (ts : List Token) (i : ℕ) (line : Bool) (a b : List TokenKind) (j : ℕ) → Spells ts i line (a ++ b) j
    → Parts ts i line a b j
parts ts i line [] b j h = record { middle = i; first = refl; second = h }
parts ts i line (k ∷ a) b j h =
    let p = parts ts (suc i) (ends_line k) a b j h.1 in
    record { middle = p.middle; first = (h.0, p.first); second = p.second }

-- what the grammar sees of such a token
pub terminal_spelled : (ts : List Token) (i : ℕ) (k : TokenKind) → kind_at ts i ≡ Some k
    → terminal_at ts i ≡ terminal_of k
terminal_spelled [] i k e = absurd (none-some _ e)
terminal_spelled (t ∷ ts) zero k e = ap terminal_of (same_Some _ _ e)
terminal_spelled (t ∷ ts) (suc i) k e = terminal_spelled ts i k e

-- one token of a kind
abbrev pub only : TokenKind → List Token
only k = record { kind = k; span = record { from = 0; to = 0 }; line_before = false } ∷ []

pub text_spelled : (ts : List Token) (i : ℕ) (k : TokenKind) → kind_at ts i ≡ Some k → text_at ts i ≡ text_at (only k) 0
text_spelled [] i k e = absurd (none-some _ e)
text_spelled (t ∷ ts) zero k e = ap (λ k. text_at (only k) 0) (same_Some _ _ e)
text_spelled (t ∷ ts) (suc i) k e = text_spelled ts i k e

pub number_spelled : (ts : List Token) (i : ℕ) (k : TokenKind) → kind_at ts i ≡ Some k
    → number_at ts i ≡ number_at (only k) 0
number_spelled [] i k e = absurd (none-some _ e)
number_spelled (t ∷ ts) zero k e = ap (λ k. number_at (only k) 0) (same_Some _ _ e)
number_spelled (t ∷ ts) (suc i) k e = number_spelled ts i k e

pub key_spelled : (ts : List Token) (i : ℕ) (k : TokenKind) → kind_at ts i ≡ Some k → key_at ts i ≡ key_at (only k) 0
key_spelled [] i k e = absurd (none-some _ e)
key_spelled (t ∷ ts) zero k e = ap (λ k. key_at (only k) 0) (same_Some _ _ e)
key_spelled (t ∷ ts) (suc i) k e = key_spelled ts i k e

pub strict_spelled : (ts : List Token) (i : ℕ) (k : TokenKind) → kind_at ts i ≡ Some k
    → strict_at ts i ≡ strict_at (only k) 0
strict_spelled [] i k e = absurd (none-some _ e)
strict_spelled (t ∷ ts) zero k e = ap (λ k. strict_at (only k) 0) (same_Some _ _ e)
strict_spelled (t ∷ ts) (suc i) k e = strict_spelled ts i k e

unreserved_is : (a b : Bool)
    → is_identifier (if a then terminals.Get else if b then terminals.Set else terminals.Identifier) ≡ true
unreserved_is true b = refl
unreserved_is false true = refl
unreserved_is false false = refl

identifier_terminal : (t : Text) → word_of t ≡ None → is_identifier (name_terminal t false) ≡ true
identifier_terminal t e = rw e (unreserved_is (same_text (codes "get") t) (same_text (codes "set") t))

unreserved_named : (a b : Bool)
    → is_name (if a then terminals.Get else if b then terminals.Set else terminals.Identifier) ≡ true
unreserved_named true b = refl
unreserved_named false true = refl
unreserved_named false false = refl

name_is : (t : Text) → is_name (name_terminal t false) ≡ true
name_is t = go (word_of t) refl
  where
    go : (o : Option Word) → word_of t ≡ o → is_name (name_terminal t false) ≡ true
    go (Some w) e = rw e refl
    go None e = rw e (unreserved_named (same_text (codes "get") t) (same_text (codes "set") t))

unreserved_key : (a b : Bool) → is_key (if a then terminals.Get else if b then terminals.Set else terminals.Identifier)
    ≡ true
unreserved_key true b = refl
unreserved_key false true = refl
unreserved_key false false = refl

name_is_key : (t : Text) → is_key (name_terminal t false) ≡ true
name_is_key t = go (word_of t) refl
  where
    go : (o : Option Word) → word_of t ≡ o → is_key (name_terminal t false) ≡ true
    go (Some w) e = rw e refl
    go None e = rw e (unreserved_key (same_text (codes "get") t) (same_text (codes "set") t))

key_is : (t : Text) → is_key (terminal_of (key t)) ≡ true
key_is t = go (is_bare_key t)
  where
    go : (b : Bool) → is_key (terminal_of (if b then name t else string t)) ≡ true
    go true = name_is_key t
    go false = refl

key_of_key : (t : Text) → key_at (only (key t)) 0 ≡ t
key_of_key t = go (is_bare_key t)
  where
    go : (b : Bool) → key_at (only (if b then name t else string t)) 0 ≡ t
    go true = refl
    go false = refl

-- A token of a kind, as the productions ask for it.
module _ {ts : List Token} {i : ℕ} {below : Bool} where
  pub at : {k : TokenKind} → Spelled ts i below k → At ts i (terminal_of k)
  at {k} s = record { is = terminal_spelled ts i k s.kind }

  pub identifier : {t : Text} → IsIdentifier t → Spelled ts i below (name t) → Is is_identifier ts i
  identifier {t} w s = record {
    is = ap is_identifier (terminal_spelled ts i (name t) s.kind)
        ∙ identifier_terminal t w.free;
  }

  pub any_name : {t : Text} → Spelled ts i below (name t) → Is is_name ts i
  any_name {t} s = record { is = ap is_name (terminal_spelled ts i (name t) s.kind) ∙ name_is t }

  pub any_key : (t : Text) → Spelled ts i below (key t) → Is is_key ts i
  any_key t s = record { is = ap is_key (terminal_spelled ts i (key t) s.kind) ∙ key_is t }

  pub name_text : {t : Text} → Spelled ts i below (name t) → text_at ts i ≡ t
  name_text {t} s = text_spelled ts i (name t) s.kind

  pub key_text : (t : Text) → Spelled ts i below (key t) → key_at ts i ≡ t
  key_text t s = key_spelled ts i (key t) s.kind ∙ key_of_key t
