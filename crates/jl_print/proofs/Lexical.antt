-- What the lexer makes of each token, and so what a token is that the grammar sees.
use Rattle.std.proofs.Common.{◌≡◌, ℕ, zero, suc, ◌+◌, ◌≤◌, ◌<◌, Bool, true, false, refl, ap, sym, ◌∙◌, subst, List}
use Rattle.std.proofs.Common.{[], ◌∷◌}
use Rattle.std.proofs.Common.{length, arith, pow-suc, ◌^◌, ◌*◌, ◌/◌, ◌⊎◌, inl, inr}
use Rattle.std.specs.Prelude.{Option, Some, None, pos, codes, int_lt, nat_lt, if◌then◌else◌}
use Rattle.std.proofs.lemmas.Bool.Decides.{nat_tests}
use Rattle.std.proofs.lemmas.Nat.{div_below}
use Rattle.std.proofs.lemmas.Bool.{cases_lt}
use Rattle.std.proofs.lemmas.List.{length-append}
use Rattle.jl_num.specs.Digits.{digits_within, number_text}
use Rattle.jl_num.proofs.Places.{one_digit, more_digits, last_digit}
use Rattle.jl_ast.specs.Tree.{Text}
use Rattle.jl_num.specs.Number.{Number}
use Rattle.jl_token.specs.Elements.{Element, White, LineEnd, LineComment, BlockComment, Word, Many, no_more, one_more}
use Rattle.jl_token.specs.Elements.{Letter, itself}
use Rattle.jl_token.specs.Elements.{escaped, Name, name, Front}
use Rattle.jl_token.specs.Elements.{identifier_name, punctuator, numeric_literal}
use Rattle.jl_token.specs.Elements.{string_literal, name_text}
use Rattle.jl_token.specs.Tokens.{Tokens, Piece, piece, OnePiece, one_piece, tokens_among}
use Rattle.jl_token.specs.Characters.{is_identifier_part}
use Rattle.jl_token.specs.declared.token.Token.{Token}
use Rattle.jl_token.specs.declared.token.TokenKind.{TokenKind}
use Rattle.jl_token.specs.declared.token.TokenKind.TheVariants as kinds
use Rattle.jl_grammar.specs.declared.terminal.Terminal.{Terminal}
use Rattle.jl_grammar.specs.declared.terminal.Terminal.TheVariants as terminals
use Rattle.jl_grammar.specs.declared.word.Word.{Word as ReservedWord}
use Rattle.jl_grammar.specs.Next.{is_identifier, is_name, is_key, is_string}
use Rattle.jl_grammar.specs.Terminals.{terminal_of, name_terminal}
use Rattle.jl_grammar.specs.Tokens.{At, Is, terminal_at, text_at, number_at, key_at}
use Rattle.jl_grammar.specs.Words.{same_text, word_of}
use Rattle.jl_print.specs.WellFormed.{is_identifier_name, are_parts, IsName, IsIdentifier, IsLiteral, IsShort}
use Rattle.jl_print.proofs.Spells.{only}

-- a token as the lexer makes it
abbrev pub IsLexical : TokenKind → Type 0
IsLexical (kinds.Name t e) = IsName t
IsLexical (kinds.Punct p) = Unit {0}
IsLexical (kinds.Number n) = IsLiteral n
IsLexical (kinds.Str t e) = IsShort t

abbrev pub AreLexical : List Token → Type 0
AreLexical [] = Unit {0}
AreLexical (t ∷ ts) = IsLexical t.kind × AreLexical ts

letter_allowed : {allowed : ℕ → Bool} {us rest : List ℕ} {x : ℕ × Bool} → Letter allowed us x rest
    → allowed x.0 ≡ true
letter_allowed (itself h) = h
letter_allowed (escaped g h) = h

parts_allowed : {us rest : List ℕ} {xs : List (ℕ × Bool)} → Many (Letter is_identifier_part) us xs rest
    → are_parts (name_text xs) ≡ true
parts_allowed no_more = refl
parts_allowed (one_more a b) = rw (letter_allowed a) (parts_allowed b)

name_allowed : {us rest : List ℕ} {xs : List (ℕ × Bool)} → Name us xs rest → is_identifier_name (name_text xs) ≡ true
name_allowed (name a b) = rw (letter_allowed a) (parts_allowed b)

front_lexical : {us rest : List ℕ} {k : TokenKind} → Front us (Word k) rest → IsLexical k
front_lexical (identifier_name a b) = record { letters = name_allowed a; short = b }
front_lexical (punctuator p a) = tt
front_lexical (numeric_literal {n = n} a b) = record { value = n; is = refl; inside = b.inside }
front_lexical (string_literal a b) = b

-- the element of a piece
abbrev element_of : Piece → Element
element_of (piece e i j) = e

formed : {text us rest : List ℕ} {p : Piece} → OnePiece text us p rest → Front us (element_of p) rest
formed (one_piece a) = a.formed

among_lexical : (text : List ℕ) (line : Bool) {us rest : List ℕ} (ps : List Piece)
    → Many (OnePiece text) us ps rest → AreLexical (tokens_among line ps)
among_lexical text line [] h = tt
among_lexical text line (piece White i j ∷ ps) (one_more a b) = among_lexical text line ps b
among_lexical text line (piece LineEnd i j ∷ ps) (one_more a b) = among_lexical text true ps b
among_lexical text line (piece LineComment i j ∷ ps) (one_more a b) = among_lexical text line ps b
among_lexical text line (piece (BlockComment l) i j ∷ ps) (one_more a b) = among_lexical text _ ps b
among_lexical text line (piece (Word k) i j ∷ ps) (one_more a b) =
    (front_lexical (formed a), among_lexical text false ps b)

pub lexical : (text : List ℕ) (ts : List Token) → Tokens text ts → AreLexical ts
lexical text ts h = subst AreLexical (sym h.are) (among_lexical text false h.pieces h.splits)

-- a number has few digits
one_more_digit : (p n : ℕ) → ((m : ℕ) → n / 10 < 10 ^ suc m → length (digits_within 10 p (n / 10)) ≤ suc m)
    → (n < 10) ⊎ (10 ≤ n) → (m : ℕ) → n < 10 ^ suc m → length (digits_within 10 (suc p) n) ≤ suc m
one_more_digit p n rest (inl l) m h = let e = ap length (one_digit 10 p n l) in omega arith
one_more_digit p n rest (inr l) zero h = absurd (omega arith)
one_more_digit p n rest (inr l) (suc m) h =
    let c : 10 ^ suc (suc m) ≡ 10 ^ suc m * 10 = pow-suc 10 (suc m) in
    let q = rest m (div_below n 10 (10 ^ suc m) (omega arith) (subst (λ k. n < k) c h)) in
    let e = ap length (more_digits 10 p n l) ∙ length-append (digits_within 10 p (n / 10)) (last_digit 10 n) in
    omega arith

few_digits : (p m n : ℕ) → n < 10 ^ suc m → length (digits_within 10 p n) ≤ suc m
few_digits zero m n h = omega arith
few_digits (suc p) m n h = one_more_digit p n (λ m. few_digits p m (n / 10)) (cases_lt n 10) m h

no_terminal : (n : ℕ) → int_lt (pos n) (pos 0) ≡ false
no_terminal n = let e : nat_lt n 0 ≡ false = grind (arith, nat_tests) in e

short_digits : (n : Number) → IsLiteral n → IsShort (number_text n 10)
short_digits n w =
    let h = few_digits (w.value + 1) 15 w.value (omega (arith, w.inside)) in
    let e : number_text (Some (pos w.value)) 10 ≡ digits_within 10 (w.value + 1) w.value =
    rw (no_terminal w.value) refl in
    let l = ap length e in
    subst (λ n. IsShort (number_text n 10)) (sym w.is) (omega arith)

identifier_of : (k : TokenKind) → IsLexical k → is_identifier (terminal_of k) ≡ true → IsIdentifier (text_at (only k) 0)
identifier_of (kinds.Name t e) w h = record { name = w; free = go (word_of t) e refl h }
  where
    go : (o : Option ReservedWord) (e : Bool) → word_of t ≡ o → is_identifier (name_terminal t e) ≡ true
        → word_of t ≡ None
    go (Some k) true q h = absurd (no_word (sym (rw q refl) ∙ h))
      where
        no_word : is_identifier terminals.EscapedWord ≡ true → ⊥
        no_word e = cc
    go (Some k) false q h = absurd (no_word (sym (rw q refl) ∙ h))
      where
        no_word : is_identifier (terminals.Word k) ≡ true → ⊥
        no_word e = cc
    go None e q h = q
identifier_of (kinds.Punct p) w h = absurd (cc)
identifier_of (kinds.Number n) w h = absurd (cc)
identifier_of (kinds.Str t e) w h = absurd (cc)

name_of : (k : TokenKind) → IsLexical k → is_name (terminal_of k) ≡ true → IsName (text_at (only k) 0)
name_of (kinds.Name t e) w h = w
name_of (kinds.Punct p) w h = absurd (cc)
name_of (kinds.Number n) w h = absurd (cc)
name_of (kinds.Str t e) w h = absurd (cc)

key_of : (k : TokenKind) → IsLexical k → is_key (terminal_of k) ≡ true → IsShort (key_at (only k) 0)
key_of (kinds.Name t e) w h = w.short
key_of (kinds.Punct p) w h = absurd (cc)
key_of (kinds.Number n) w h = short_digits n w
key_of (kinds.Str t e) w h = w

no_bool : false ≡ true → ⊥
no_bool e = cc

abbrev is_number : Terminal → Bool
is_number terminals.Number = true
is_number _ = false

-- a name is no string and no number
unreserved_is_neither : (a b : Bool)
    → (is_string (if a then terminals.Get else if b then terminals.Set else terminals.Identifier) ≡ false)
    × (is_number (if a then terminals.Get else if b then terminals.Set else terminals.Identifier) ≡ false)
unreserved_is_neither true b = (refl, refl)
unreserved_is_neither false true = (refl, refl)
unreserved_is_neither false false = (refl, refl)

name_is_neither : (t : Text) (e : Bool) → (is_string (name_terminal t e) ≡ false)
    × (is_number (name_terminal t e) ≡ false)
name_is_neither t e = go (word_of t) e refl
  where
    go : (o : Option ReservedWord) (e : Bool) → word_of t ≡ o
        → (is_string (name_terminal t e) ≡ false) × (is_number (name_terminal t e) ≡ false)
    go (Some k) true q = (rw q refl, rw q refl)
    go (Some k) false q = (rw q refl, rw q refl)
    go None true q = (rw q refl, rw q refl)
    go None false q =
        let n = unreserved_is_neither (same_text (codes "get") t) (same_text (codes "set") t) in (rw q n.0, rw q n.1)

string_of : (k : TokenKind) → IsLexical k → is_string (terminal_of k) ≡ true → IsShort (text_at (only k) 0)
string_of (kinds.Name t e) w h = absurd (no_bool (sym (name_is_neither t e).0 ∙ h))
string_of (kinds.Punct p) w h = absurd (cc)
string_of (kinds.Number n) w h = absurd (cc)
string_of (kinds.Str t e) w h = w

number_of : (k : TokenKind) → IsLexical k → is_number (terminal_of k) ≡ true → IsLiteral (number_at (only k) 0)
number_of (kinds.Name t e) w h = absurd (no_bool (sym (name_is_neither t e).1 ∙ h))
number_of (kinds.Punct p) w h = absurd (cc)
number_of (kinds.Number n) w h = w
number_of (kinds.Str t e) w h = absurd (cc)

-- the tokens of a text, by their places
module _ {ts : List Token} where
  pub identifier_at : AreLexical ts → {i : ℕ} → Is is_identifier ts i → IsIdentifier (text_at ts i)
  identifier_at w {i} e = go ts w i e.is
    where
      go : (ts : List Token) → AreLexical ts → (i : ℕ) → is_identifier (terminal_at ts i) ≡ true
          → IsIdentifier (text_at ts i)
      go [] w i h = absurd (cc)
      go (t ∷ ts) w zero h = identifier_of t.kind w.0 h
      go (t ∷ ts) w (suc i) h = go ts w.1 i h

  pub name_at : AreLexical ts → {i : ℕ} → Is is_name ts i → IsName (text_at ts i)
  name_at w {i} e = go ts w i e.is
    where
      go : (ts : List Token) → AreLexical ts → (i : ℕ) → is_name (terminal_at ts i) ≡ true → IsName (text_at ts i)
      go [] w i h = absurd (cc)
      go (t ∷ ts) w zero h = name_of t.kind w.0 h
      go (t ∷ ts) w (suc i) h = go ts w.1 i h

  pub short_key_at : AreLexical ts → {i : ℕ} → Is is_key ts i → IsShort (key_at ts i)
  short_key_at w {i} e = go ts w i e.is
    where
      go : (ts : List Token) → AreLexical ts → (i : ℕ) → is_key (terminal_at ts i) ≡ true → IsShort (key_at ts i)
      go [] w i h = absurd (cc)
      go (t ∷ ts) w zero h = key_of t.kind w.0 h
      go (t ∷ ts) w (suc i) h = go ts w.1 i h

  pub string_at : AreLexical ts → {i : ℕ} → At ts i terminals.Str → IsShort (text_at ts i)
  string_at w {i} e = go ts w i (ap is_string e.is)
    where
      go : (ts : List Token) → AreLexical ts → (i : ℕ) → is_string (terminal_at ts i) ≡ true → IsShort (text_at ts i)
      go [] w i h = absurd (cc)
      go (t ∷ ts) w zero h = string_of t.kind w.0 h
      go (t ∷ ts) w (suc i) h = go ts w.1 i h

  pub literal_at : AreLexical ts → {i : ℕ} → At ts i terminals.Number → IsLiteral (number_at ts i)
  literal_at w {i} e = go ts w i (ap is_number e.is)
    where
      go : (ts : List Token) → AreLexical ts → (i : ℕ) → is_number (terminal_at ts i) ≡ true
          → IsLiteral (number_at ts i)
      go [] w i h = absurd (cc)
      go (t ∷ ts) w zero h = number_of t.kind w.0 h
      go (t ∷ ts) w (suc i) h = go ts w.1 i h
