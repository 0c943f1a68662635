-- What was read of the pieces of a text so far, and the answer where no piece is left, or none can be formed.
use Rattle.std.proofs.Common.{◌≡◌, refl, sym, ap, ◌∙◌, subst, ℕ, ◌+◌, ◌≤◌, ◌⊎◌, inl, inr, Bool, false, List, [], ◌∷◌}
use Rattle.std.proofs.Common.{◌++◌, drop, length, Some, Result, Ok, Err, MatchResult, IfOk, IfErr, arith, length-drop}
use Rattle.std.proofs.lemmas.List.{append-nil}
use Rattle.std.specs.Global.{Vec}
use Rattle.jl_token.specs.Elements.{Element, Many}
use Rattle.jl_token.specs.Faults.{Fault}
use Rattle.jl_token.specs.Tokens.{Piece, piece, place, OnePiece, tokens_among, Tokens, comments_among, Comments, BadAt}
use Rattle.jl_token.specs.inner.Scanner.{Outcome, found, bad, many, scan, piece_found, next_piece}
use Rattle.jl_token.specs.declared.token.BadKind.{BadKind}
use Rattle.jl_token.specs.declared.token.Token.{Token}
use Rattle.jl_token.specs.declared.token.Comment.{Comment}
use Rattle.jl_token.proofs.Rows.{many_step, many_stop, many_sound, nothing_at_end}
use Rattle.jl_token.proofs.Found.{Right, right_element, right_fault, scan_right}
use Rattle.jl_token.proofs.Whole.{reads_piece, split_whole, stopped, tokens_are_unique, bad_place_is_unique, never_both}
use Rattle.jl_token.proofs.CommentLaws.{comments_are_unique}
use Rattle.jl_lex.specs.inner.Answers.{IsFrom}
use Rattle.jl_lex.specs.Refusals.{IsRefusal, refusal_at}
use Rattle.jl_lex.specs.declared.element.Stop.{Stop}
use Rattle.jl_lex.specs.declared.element.Stop.TheVariants as stops
use Rattle.jl_lex.specs.declared.lexer.LexRefusal.{LexRefusal}
use Rattle.jl_lex.specs.declared.lexer.LexRefusal.TheVariants as refusals

pub place_is : (text : List ℕ) (i : ℕ) → i ≤ length text → place text (drop i text) ≡ i
place_is text i h = omega (arith, length-drop i text)

next_is : (text : List ℕ) (i j : ℕ) (e : Element) → scan (drop i text) ≡ found e (drop j text) → i ≤ length text
    → j ≤ length text → next_piece text (drop i text) ≡ Some (piece e i j, drop j text)
unfolding next_piece piece_found
next_is text i j e q a b = rw (q, place_is text i a, place_is text j b) refl

fault_of : (us : List ℕ) (o : Outcome) (k : BadKind) → Right us o → o ≡ bad k → Fault us k
fault_of us o k (right_element {e} {rest} f) q = absurd (apart q) where
  apart : found e rest ≡ bad k → ⊥
  apart q = cc
fault_of us o k (right_fault {k = l} f) q = let a : l ≡ k = cc in subst (λ x. Fault us x) a f

-- Parts were read of the pieces of a text up to the units that are left: with what the pieces left give, they are what
-- all pieces give.
pub record ReadSoFar {A : Type 0} (whole left : List Piece → List A) (read : List A) (us text : List ℕ) : Type 0 where
  pub are : read ++ left (many (next_piece text) us).0 ≡ whole (many (next_piece text) text).0
  pub rest : (many (next_piece text) us).1 ≡ (many (next_piece text) text).1

module _ {A : Type 0} (whole left : List Piece → List A) (read : List A) (text : List ℕ) where
  pub read_more : (then_left : List Piece → List A) (now : List A) (i j : ℕ) (e : Element)
      → scan (drop i text) ≡ found e (drop j text) → i ≤ length text → j ≤ length text
      → ((ps : List Piece) → now ++ then_left ps ≡ read ++ left (piece e i j ∷ ps))
      → ReadSoFar whole left read (drop i text) text → ReadSoFar whole then_left now (drop j text) text
  read_more then_left now i j e q a b f s =
      let m = many_step (OnePiece text) (next_piece text) (reads_piece text) (drop i text) (piece e i j) (drop j text)
      (next_is text i j e q a b) in
      record {
        are = f (many (next_piece text) (drop j text)).0
            ∙ (sym (ap (λ (x : List Piece × List ℕ). read ++ left x.0) m) ∙ s.are);
        rest = sym (ap (λ (x : List Piece × List ℕ). x.1) m) ∙ s.rest;
      }

  -- where no unit is left, all pieces are read
  pub read_ends : (us : List ℕ) → us ≡ [] → left [] ≡ [] → ReadSoFar whole left read us text
      → (ps : List Piece) × Many (OnePiece text) text ps [] × (read ≡ whole ps)
  read_ends us e none s =
      let n = many_stop (OnePiece text) (next_piece text) (reads_piece text) us (ap (next_piece text) e
      ∙ nothing_at_end (OnePiece text) (next_piece text) (reads_piece text)) in
      let t = sym (ap (λ (x : List Piece × List ℕ). read ++ left x.0) n) ∙ s.are in
      let r = sym (ap (λ (x : List Piece × List ℕ). x.1) n) ∙ s.rest in
      let all = many_sound (OnePiece text) (next_piece text) (reads_piece text) text in (
        (many (next_piece text) text).0,
        split_whole text (many (next_piece text) text) all (sym r ∙ e),
        sym (ap (λ l. read ++ l) none ∙ append-nil read) ∙ t,
      )

  read_bad : (i u : ℕ) (k : BadKind) → drop i text ≡ u ∷ drop (i + 1) text → i ≤ length text
      → scan (drop i text) ≡ bad k
      → ReadSoFar whole left read (drop i text) text → BadAt text i k
  unfolding next_piece piece_found
  read_bad i u k e h q s =
      let n = many_stop (OnePiece text) (next_piece text) (reads_piece text) (drop i text) (rw q refl) in
      let r = sym (ap (λ (x : List Piece × List ℕ). x.1) n) ∙ s.rest in
      let f = fault_of (u ∷ drop (i + 1) text) (scan (u ∷ drop (i + 1) text)) k (scan_right u (drop (i + 1) text))
      (ap scan (sym e) ∙ q) in
      let m = (many_sound (OnePiece text) (next_piece text) (reads_piece text) text).row in
      subst (λ p. BadAt text p k) (place_is text i h)
      (stopped text (many (next_piece text) text).0 (drop i text) k
      (subst (λ (w : List ℕ). Many (OnePiece text) text (many (next_piece text) text).0 w) (sym r) m)
      (subst (λ (w : List ℕ). Fault w k) (sym e) f))

  pub read_refused : (i u low : ℕ) (s : Stop) (r : LexRefusal) → drop i text ≡ u ∷ drop (i + 1) text → i ≤ length text
      → IsFrom text low (Err s) (scan (drop i text)) → r ≡ refusal_at s i
      → ReadSoFar whole left read (drop i text) text → IsRefusal text r
  read_refused i u low (stops.Bad k) r e h q w s = rw w (read_bad i u k e h q s)
  read_refused i u low stops.NoMemory r e h q w s = rw w tt

pub tokens_end : (text us : List ℕ) (line : Bool) (tokens : List Token) → us ≡ []
    → ReadSoFar (tokens_among false) (tokens_among line) tokens us text → Tokens text tokens
tokens_end text us line tokens e s =
    let all = read_ends (tokens_among false) (tokens_among line) tokens text us e refl s in
    record { pieces = all.0; splits = all.1; are = all.2 }

pub comments_end : (text us : List ℕ) (comments : List Comment) → us ≡ []
    → ReadSoFar comments_among comments_among comments us text → Comments text comments
comments_end text us comments e s =
    let all = read_ends comments_among comments_among comments text us e refl s in
    record { pieces = all.0; splits = all.1; are = all.2 }

-- the answer is the only one, where lists of a kind are alone, and no text has one beside a fault
module _ {A C : Type 0} (text : List ℕ) (Are : List A → Type 0) (items : C → List A)
    (alone : (xs ys : List A) → Are xs → Are ys → xs ≡ ys) (never : (xs : List A) (i : ℕ) (k : BadKind) → Are xs
    → BadAt text i k → ⊥) where
  only_these : (r : Result C LexRefusal) → IfOk r (λ c. Are (items c)) → IfErr r (λ e. IsRefusal text e) → (xs : List A)
      → Are xs → MatchResult r (λ c. items c ≡ xs) (λ e. e ≡ refusals.NoMemory)
  only_these (Ok c) a b xs t = alone (items c) xs a t
  only_these (Err (refusals.BadInput i k)) a b xs t = absurd (never xs i k t b)
  only_these (Err refusals.NoMemory) a b xs t = refl

  only_there : (r : Result C LexRefusal) → IfOk r (λ c. Are (items c)) → IfErr r (λ e. IsRefusal text e) → (i : ℕ)
      (k : BadKind) → BadAt text i k
      → MatchResult r (λ c. ⊥) (λ e. (e ≡ refusals.BadInput i k) ⊎ (e ≡ refusals.NoMemory))
  only_there (Ok c) a b i k t = never (items c) i k a t
  only_there (Err (refusals.BadInput j l)) a b i k t =
      let e = bad_place_is_unique text j i l k b t in inl (let x = e.0 in let y = e.1 in cc)
  only_there (Err refusals.NoMemory) a b i k t = inr refl

no_comments : (text : List ℕ) (cs : List Comment) (i : ℕ) (k : BadKind) → Comments text cs → BadAt text i k → ⊥
no_comments text cs i k c b =
    never_both text (tokens_among false c.pieces) i k (record { pieces = c.pieces; splits = c.splits; are = refl }) b

pub only_these_tokens : (text : List ℕ) (r : Result (List Token) LexRefusal) → IfOk r (λ ts. Tokens text ts)
    → IfErr r (λ e. IsRefusal text e) → (ts : List Token) → Tokens text ts
    → MatchResult r (λ us. us ≡ ts) (λ e. e ≡ refusals.NoMemory)
only_these_tokens text = only_these text (Tokens text) (λ ts. ts) (tokens_are_unique text) (never_both text)

pub only_there_tokens : (text : List ℕ) (r : Result (List Token) LexRefusal) → IfOk r (λ ts. Tokens text ts)
    → IfErr r (λ e. IsRefusal text e) → (i : ℕ) (k : BadKind) → BadAt text i k
    → MatchResult r (λ us. ⊥) (λ e. (e ≡ refusals.BadInput i k) ⊎ (e ≡ refusals.NoMemory))
only_there_tokens text = only_there text (Tokens text) (λ ts. ts) (tokens_are_unique text) (never_both text)

pub only_these_comments : (text : List ℕ) (r : Result (Vec Comment) LexRefusal)
    → IfOk r (λ found. Comments text found.items)
    → IfErr r (λ e. IsRefusal text e) → (cs : List Comment) → Comments text cs
    → MatchResult r (λ found. found.items ≡ cs) (λ e. e ≡ refusals.NoMemory)
only_these_comments text =
    only_these text (Comments text) (λ found. found.items) (comments_are_unique text) (no_comments text)

pub only_there_comments : (text : List ℕ) (r : Result (Vec Comment) LexRefusal)
    → IfOk r (λ found. Comments text found.items)
    → IfErr r (λ e. IsRefusal text e) → (i : ℕ) (k : BadKind) → BadAt text i k
    → MatchResult r (λ found. ⊥) (λ e. (e ≡ refusals.BadInput i k) ⊎ (e ≡ refusals.NoMemory))
only_there_comments text =
    only_there text (Comments text) (λ found. found.items) (comments_are_unique text) (no_comments text)
