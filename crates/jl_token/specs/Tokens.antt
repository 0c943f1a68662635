-- The tokens and the comments of a text (clause 7): the text is split into input elements, each the longest that can be
-- formed at its place; the tokens are those that are neither white space, line terminator nor comment.
use Rattle.std.specs.Prelude.{◌≡◌, ◌<◌, ◌≤◌, ◌↔◌, ℕ, ◌+◌, ◌-◌, Bool, true, false, ◌||◌, ◌⊎◌, List, [], ◌∷◌, length}
use Rattle.jl_token.specs.Elements.{Element, White, LineEnd, LineComment, BlockComment, Word, Front, Many}
use Rattle.jl_token.specs.Faults.{Fault}
use Rattle.jl_token.specs.declared.token.Token.{Token}
use Rattle.jl_token.specs.declared.token.Comment.{Comment}
use Rattle.jl_token.specs.declared.token.BadKind.{BadKind}

-- the units begin with this element: no fault stands there, and no longer element can be formed
pub record Begins (us : List ℕ) (e : Element) (rest : List ℕ) : Type 0 where
  pub formed : Front us e rest
  pub longest : (e' : Element) (rest' : List ℕ) → Front us e' rest' → length rest ≤ length rest'
  pub faultless : (k : BadKind) → Fault us k → ⊥

-- an element with the places in the text where it begins and ends
pub data Piece : Type 0 where
  piece : Element → ℕ → ℕ → Piece

-- the place in a text from which on `us` is left of it
abbrev pub place : List ℕ → List ℕ → ℕ
place text us = length text - length us

pub data OnePiece (text : List ℕ) : List ℕ → Piece → List ℕ → Type 0 where
  one_piece : {us rest : List ℕ} {e : Element} → Begins us e rest →
      OnePiece text us (piece e (place text us) (place text rest)) rest

-- the tokens among the pieces; first whether a line terminator, or a comment that holds one, stands before them
abbrev pub tokens_among : Bool → List Piece → List Token
tokens_among line [] = []
tokens_among line (piece White i j ∷ ps) = tokens_among line ps
tokens_among line (piece LineEnd i j ∷ ps) = tokens_among true ps
tokens_among line (piece LineComment i j ∷ ps) = tokens_among line ps
tokens_among line (piece (BlockComment l) i j ∷ ps) = tokens_among (line || l) ps
tokens_among line (piece (Word k) i j ∷ ps) =
    record { kind = k; span = record { from = i; to = j }; line_before = line } ∷ tokens_among false ps

-- these are the tokens of the text
pub record Tokens (text : List ℕ) (ts : List Token) : Type 0 where
  pub pieces : List Piece
  pub splits : Many (OnePiece text) text pieces []
  pub are : ts ≡ tokens_among false pieces

-- the comments among the pieces
abbrev pub comments_among : List Piece → List Comment
comments_among [] = []
comments_among (piece White i j ∷ ps) = comments_among ps
comments_among (piece LineEnd i j ∷ ps) = comments_among ps
comments_among (piece LineComment i j ∷ ps) =
    record { span = record { from = i; to = j }; to_line_end = true } ∷ comments_among ps
comments_among (piece (BlockComment l) i j ∷ ps) =
    record { span = record { from = i; to = j }; to_line_end = false } ∷ comments_among ps
comments_among (piece (Word k) i j ∷ ps) = comments_among ps

-- these are the comments of the text
pub record Comments (text : List ℕ) (cs : List Comment) : Type 0 where
  pub pieces : List Piece
  pub splits : Many (OnePiece text) text pieces []
  pub are : cs ≡ comments_among pieces

-- the text has no tokens: here is the first input element that can't be formed, for this cause
pub record BadAt (text : List ℕ) (at : ℕ) (kind : BadKind) : Type 0 where
  pub pieces : List Piece
  pub left : List ℕ
  pub splits : Many (OnePiece text) text pieces left
  pub there : at ≡ place text left
  pub fault : Fault left kind

-- the tokens stand one after the other between two places, and each has a unit at least
abbrev pub InOrder : ℕ → ℕ → List Token → Type 0
InOrder i j [] = i ≤ j
InOrder i j (t ∷ ts) = (i ≤ t.span.from) × (t.span.from < t.span.to) × InOrder t.span.to j ts

-- the comments stand one after the other between two places, and each has two units at least
abbrev pub CommentsInOrder : ℕ → ℕ → List Comment → Type 0
CommentsInOrder i j [] = i ≤ j
CommentsInOrder i j (c ∷ cs) = (i ≤ c.span.from) × (c.span.from + 2 ≤ c.span.to) × CommentsInOrder c.span.to j cs

-- a text has one list of tokens at most
abbrev pub TokensAreUnique : Type 0
TokensAreUnique = (text : List ℕ) (ts us : List Token) → Tokens text ts → Tokens text us → ts ≡ us

-- a text that has no tokens has one first fault
abbrev pub BadPlaceIsUnique : Type 0
BadPlaceIsUnique = (text : List ℕ) (i j : ℕ) (k l : BadKind) → BadAt text i k → BadAt text j l → (i ≡ j) × (k ≡ l)

-- each text has tokens or a fault
abbrev pub TokensOrBad : Type 0
TokensOrBad = (text : List ℕ) → ((ts : List Token) × Tokens text ts) ⊎ ((i : ℕ) × (k : BadKind) × BadAt text i k)

-- and never both
abbrev pub NeverBoth : Type 0
NeverBoth = (text : List ℕ) (ts : List Token) (i : ℕ) (k : BadKind) → Tokens text ts → BadAt text i k → ⊥

-- spans rise, don't overlap and lie in the text
abbrev pub SpansAreInOrder : Type 0
SpansAreInOrder = (text : List ℕ) (ts : List Token) → Tokens text ts → InOrder 0 (length text) ts

-- a text has no more tokens than units
abbrev pub FewTokens : Type 0
FewTokens = (text : List ℕ) (ts : List Token) → Tokens text ts → length ts ≤ length text

-- a text has one list of comments at most
abbrev pub CommentsAreUnique : Type 0
CommentsAreUnique = (text : List ℕ) (cs ds : List Comment) → Comments text cs → Comments text ds → cs ≡ ds

-- a text has a list of comments exactly where it has one of tokens
abbrev pub CommentsWhereTokens : Type 0
CommentsWhereTokens = (text : List ℕ) → ((cs : List Comment) × Comments text cs) ↔ ((ts : List Token) × Tokens text ts)

-- spans of comments rise, don't overlap and lie in the text
abbrev pub CommentsAreInOrder : Type 0
CommentsAreInOrder = (text : List ℕ) (cs : List Comment) → Comments text cs → CommentsInOrder 0 (length text) cs
