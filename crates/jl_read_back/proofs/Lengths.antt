-- How many units tokens are long at least: together no more than their text.
use Rattle.std.proofs.Common.{◌≡◌, ℕ, zero, suc, ◌+◌, ◌≤◌, Bool, true, false, ◌||◌, refl, ap, sym, ◌∙◌, subst}
use Rattle.std.proofs.Common.{List, [], ◌∷◌, length, Option, Some, None, arith}
use Rattle.std.specs.Prelude.{codes, if◌then◌else◌}
use Rattle.jl_ast.specs.Tree.{Text}
use Rattle.jl_ast.specs.declared.ops.BinOp.{BinOp}
use Rattle.jl_ast.specs.declared.ops.BinOp.TheVariants as ops
use Rattle.jl_grammar.specs.declared.terminal.Terminal.{Terminal}
use Rattle.jl_grammar.specs.declared.terminal.Terminal.TheVariants as terminals
use Rattle.jl_grammar.specs.declared.word.Word.{Word as ReservedWord}
use Rattle.jl_grammar.specs.Operators.{assign_operator, update_operator}
use Rattle.jl_grammar.specs.Reads.{AssignsAt, UpdateAt}
use Rattle.jl_grammar.specs.Terminals.{name_terminal, terminal_of}
use Rattle.jl_grammar.specs.Tokens.{key_at, terminal_at, text_at}
use Rattle.jl_grammar.specs.Words.{same_text, word_of}
use Rattle.jl_num.specs.Digits.{number_text}
use Rattle.jl_token.specs.Characters.{hex_from, hex_number}
use Rattle.jl_token.specs.Elements.{block_comment, carriage_return_line_feed, continuation, digits, escaped}
use Rattle.jl_token.specs.Elements.{from_point, hex, hex_escape, identifier_name, itself, line_comment, line_terminator}
use Rattle.jl_token.specs.Elements.{long_continuation, minus, name, name_text, no_exponent, no_more, no_sign}
use Rattle.jl_token.specs.Elements.{non_escape}
use Rattle.jl_token.specs.Elements.{nonzero, null, numeric_literal, one_more, plain, plus, punctuator, single, string}
use Rattle.jl_token.specs.Elements.{string_literal, string_text, unicode_escape, unit, white_space, whole, with_point}
use Rattle.jl_token.specs.Elements.{zero_digit, before_close, BeforeClose, BlockComment, Character, Digits, Element}
use Rattle.jl_token.specs.Elements.{Exponent, Front, Letter, LineComment, LineEnd, Many, Name, Numeral, OneUnit}
use Rattle.jl_token.specs.Elements.{StringLiteral, White, WholeDigits, Word}
use Rattle.jl_token.specs.Punctuators.{punctuator_units}
use Rattle.jl_token.specs.Tokens.{one_piece, piece, tokens_among, OnePiece, Piece, Tokens}
use Rattle.jl_token.specs.declared.punct.Punct.{Punct}
use Rattle.jl_token.specs.declared.punct.Punct.TheVariants as puncts
use Rattle.jl_token.specs.declared.token.Token.{Token}
use Rattle.jl_token.specs.declared.token.TokenKind.{TokenKind}
use Rattle.jl_token.specs.declared.token.TokenKind.TheVariants as kinds
use Rattle.jl_print.proofs.Spells.{only}
use Rattle.jl_read_back.specs.inner.Bytes.{excess, text_weight}
use Rattle.jl_read_back.specs.inner.Weight.{assigning_weight, key_weight, name_weight}
use Rattle.jl_read_back.proofs.Bytes.{excess_none, long_weight, weight_append}
use Rattle.jl_read_back.proofs.Digits.{value_few}
use Rattle.jl_read_back.proofs.Escapes.{four_small, single_small, two_small}

punct_one : (p : Punct) → 1 ≤ length (punctuator_units p)
punct_one puncts.LeftBrace = omega arith
punct_one _ = omega arith

-- no name is a punctuator
no_punct : (t : Text) (e : Bool) (p : Punct) → name_terminal t e ≡ terminals.Punct p → ⊥
no_punct t e p h = go (word_of t) e refl h
  where
    free : (b c : Bool) → (if b then terminals.Get else (if c then terminals.Set else terminals.Identifier))
        ≡ terminals.Punct p → ⊥
    free true c h = cc
    free false true h = cc
    free false false h = cc

    go : (o : Option ReservedWord) (e : Bool) → word_of t ≡ o → name_terminal t e ≡ terminals.Punct p → ⊥
    go (Some w) true q h = no_escape (sym (rw q refl) ∙ h)
      where
        no_escape : terminals.EscapedWord ≡ terminals.Punct p → ⊥
        no_escape e = cc
    go (Some w) false q h = no_word (sym (rw q refl) ∙ h)
      where
        no_word : terminals.Word w ≡ terminals.Punct p → ⊥
        no_word e = cc
    go None true q h = no_name (sym (rw q refl) ∙ h)
      where
        no_name : terminals.Identifier ≡ terminals.Punct p → ⊥
        no_name e = cc
    go None false q h = free (same_text (codes "get") t) (same_text (codes "set") t) (sym (rw q refl) ∙ h)

same_length : (p q : Punct) → terminals.Punct p ≡ terminals.Punct q
    → length (punctuator_units q) ≤ length (punctuator_units p)
same_length p q e = let f : p ≡ q = cc in let g = ap (λ r. length (punctuator_units r)) f in omega arith

-- `++` and `--` are two units long
update_punct : (x : Terminal) (up : Bool) → update_operator x ≡ Some up
    → (p : Punct) × (x ≡ terminals.Punct p) × (2 ≤ length (punctuator_units p))
update_punct (terminals.Punct puncts.PlusPlus) up e = (puncts.PlusPlus, refl, omega arith)
update_punct (terminals.Punct puncts.MinusMinus) up e = (puncts.MinusMinus, refl, omega arith)
update_punct _ up e = absurd (cc)

-- and so is an operator that computes and assigns, at least
light : (a o : Option BinOp) (n : ℕ) → assigning_weight a ≤ n → Some a ≡ Some o → assigning_weight o ≤ n
light a o n h e = let f : a ≡ o = cc in subst (λ o. assigning_weight o ≤ n) f h

assign_punct : (x : Terminal) (o : Option BinOp) → assign_operator x ≡ Some o
    → (p : Punct) × (x ≡ terminals.Punct p) × (assigning_weight o ≤ length (punctuator_units p))
assign_punct (terminals.Punct puncts.Assign) o e = (puncts.Assign, refl, light None o _ (omega arith) e)
assign_punct (terminals.Punct puncts.StarAssign) o e =
    (puncts.StarAssign, refl, light (Some ops.Mul) o _ (omega arith) e)
assign_punct (terminals.Punct puncts.SlashAssign) o e =
    (puncts.SlashAssign, refl, light (Some ops.Div) o _ (omega arith) e)
assign_punct (terminals.Punct puncts.PercentAssign) o e =
    (puncts.PercentAssign, refl, light (Some ops.Rem) o _ (omega arith) e)
assign_punct (terminals.Punct puncts.PlusAssign) o e =
    (puncts.PlusAssign, refl, light (Some ops.Add) o _ (omega arith) e)
assign_punct (terminals.Punct puncts.MinusAssign) o e =
    (puncts.MinusAssign, refl, light (Some ops.Sub) o _ (omega arith) e)
assign_punct (terminals.Punct puncts.ShiftLeftAssign) o e =
    (puncts.ShiftLeftAssign, refl, light (Some ops.Shl) o _ (omega arith) e)
assign_punct (terminals.Punct puncts.ShiftRightAssign) o e =
    (puncts.ShiftRightAssign, refl, light (Some ops.Sar) o _ (omega arith) e)
assign_punct (terminals.Punct puncts.ShiftRightUnsignedAssign) o e =
    (puncts.ShiftRightUnsignedAssign, refl, light (Some ops.Shr) o _ (omega arith) e)
assign_punct (terminals.Punct puncts.AndAssign) o e =
    (puncts.AndAssign, refl, light (Some ops.BitAnd) o _ (omega arith) e)
assign_punct (terminals.Punct puncts.OrAssign) o e =
    (puncts.OrAssign, refl, light (Some ops.BitOr) o _ (omega arith) e)
assign_punct (terminals.Punct puncts.CaretAssign) o e =
    (puncts.CaretAssign, refl, light (Some ops.BitXor) o _ (omega arith) e)
assign_punct _ o e = absurd (cc)

-- the element of a piece
abbrev element_of : Piece → Element
element_of (piece e i j) = e

formed : {text us rest : List ℕ} {p : Piece} → OnePiece text us p rest → Front us (element_of p) rest
formed (one_piece a) = a.formed

module _ (heavy : ℕ) where
  abbrev least : TokenKind → ℕ
  least (kinds.Name t e) = name_weight heavy t
  least (kinds.Punct p) = length (punctuator_units p)
  least (kinds.Number n) = key_weight heavy (number_text n 10)
  least (kinds.Str t e) = text_weight heavy t + 2

  -- those before a place, and one for each place past the last one
  abbrev pub before : List Token → ℕ → ℕ
  before [] i = i
  before (t ∷ ts) zero = 0
  before (t ∷ ts) (suc i) = least t.kind + before ts i

  least_one : (k : TokenKind) → 1 ≤ least k
  least_one (kinds.Name t e) = omega arith
  least_one (kinds.Punct p) = punct_one p
  least_one (kinds.Number n) = omega arith
  least_one (kinds.Str t e) = omega arith

  pub one : (ts : List Token) (i : ℕ) → before ts i + 1 ≤ before ts (suc i)
  one [] i = omega arith
  one (t ∷ ts) zero = let a = least_one t.kind in omega arith
  one (t ∷ ts) (suc i) = let a = one ts i in omega arith

  kind_named : (k : TokenKind) → name_weight heavy (text_at (only k) 0) ≤ least k
  kind_named (kinds.Name t e) = omega arith
  kind_named (kinds.Punct p) = let a = punct_one p in omega arith
  kind_named (kinds.Number n) = omega arith
  kind_named (kinds.Str t e) = omega arith

  pub named : (ts : List Token) (i : ℕ) → before ts i + name_weight heavy (text_at ts i) ≤ before ts (suc i)
  named [] i = omega arith
  named (t ∷ ts) zero = let a = kind_named t.kind in omega arith
  named (t ∷ ts) (suc i) = let a = named ts i in omega arith

  kind_keyed : (k : TokenKind) → key_weight heavy (key_at (only k) 0) ≤ least k
  kind_keyed (kinds.Name t e) = omega arith
  kind_keyed (kinds.Punct p) = let a = punct_one p in omega arith
  kind_keyed (kinds.Number n) = omega arith
  kind_keyed (kinds.Str t e) = omega arith

  pub keyed : (ts : List Token) (i : ℕ) → before ts i + key_weight heavy (key_at ts i) ≤ before ts (suc i)
  keyed [] i = omega arith
  keyed (t ∷ ts) zero = let a = kind_keyed t.kind in omega arith
  keyed (t ∷ ts) (suc i) = let a = keyed ts i in omega arith

  kind_punct : (k : TokenKind) (p : Punct) → terminal_of k ≡ terminals.Punct p → length (punctuator_units p) ≤ least k
  kind_punct (kinds.Name t e) p h = absurd (no_punct t e p h)
  kind_punct (kinds.Punct q) p h = same_length q p h
  kind_punct (kinds.Number n) p h = absurd (cc)
  kind_punct (kinds.Str t e) p h = absurd (cc)

  punct_at : (ts : List Token) (i : ℕ) (p : Punct) → terminal_at ts i ≡ terminals.Punct p
      → before ts i + length (punctuator_units p) ≤ before ts (suc i)
  punct_at [] i p h = absurd (cc)
  punct_at (t ∷ ts) zero p h = let a = kind_punct t.kind p h in omega arith
  punct_at (t ∷ ts) (suc i) p h = let a = punct_at ts i p h in omega arith

  pub updates : (ts : List Token) (i : ℕ) (up : Bool) → UpdateAt ts i up → before ts i + 2 ≤ before ts (suc i)
  updates ts i up h =
      let p = update_punct (terminal_at ts i) up h.is in let a = punct_at ts i p.0 p.1 in let b = p.2 in omega arith

  pub assigns : (ts : List Token) (i : ℕ) (o : Option BinOp) → AssignsAt ts i o
      → before ts i + assigning_weight o ≤ before ts (suc i)
  assigns ts i o h =
      let p = assign_punct (terminal_at ts i) o h.is in let a = punct_at ts i p.0 p.1 in let b = p.2 in omega arith

  -- what an element takes from the units
  units_long : {allowed : ℕ → Bool} {us xs rest : List ℕ} → Many (OneUnit allowed) us xs rest
      → text_weight heavy rest ≤ text_weight heavy us
  units_long no_more = omega arith
  units_long (one_more (unit e) b) = let r = units_long b in omega arith

  closed_long : {us xs rest : List ℕ} → Many BeforeClose us xs rest → text_weight heavy rest ≤ text_weight heavy us
  closed_long no_more = omega arith
  closed_long (one_more (before_close e) b) = let r = closed_long b in omega arith

  letter_long : {allowed : ℕ → Bool} {us rest : List ℕ} {x : ℕ × Bool} → Letter allowed us x rest
      → 1 + excess heavy x.0 + text_weight heavy rest ≤ text_weight heavy us
  letter_long (itself e) = omega arith
  letter_long (escaped {a} {b} {c} {d} e f) =
      let q = excess_none heavy (hex_number a b c d) (four_small a b c d e) in omega arith

  letters_long : {allowed : ℕ → Bool} {us rest : List ℕ} {xs : List (ℕ × Bool)} → Many (Letter allowed) us xs rest
      → text_weight heavy (name_text xs) + text_weight heavy rest ≤ text_weight heavy us
  letters_long no_more = omega arith
  letters_long (one_more a b) = let q = letter_long a in let r = letters_long b in omega arith

  name_long : {us rest : List ℕ} {xs : List (ℕ × Bool)} → Name us xs rest
      → name_weight heavy (name_text xs) + text_weight heavy rest ≤ text_weight heavy us
  name_long (name a b) = let q = letter_long a in let r = letters_long b in omega arith

  character_long : {mark : ℕ} {us rest : List ℕ} {c : List ℕ × Bool} → Character mark us c rest
      → text_weight heavy c.0 + text_weight heavy rest ≤ text_weight heavy us
  character_long (plain e) = omega arith
  character_long (single {u} {v} e) = let q = excess_none heavy v (single_small u v e) in omega arith
  character_long (non_escape e) = omega arith
  character_long (null e) = omega arith
  character_long (hex_escape {a} {b} e) =
      let q = excess_none heavy (hex_from 0 (a ∷ b ∷ [])) (two_small a b e) in omega arith
  character_long (unicode_escape {a} {b} {c} {d} e) =
      let q = excess_none heavy (hex_number a b c d) (four_small a b c d e) in omega arith
  character_long (continuation e f) = omega arith
  character_long long_continuation = omega arith

  characters_long : {mark : ℕ} {us rest : List ℕ} {cs : List (List ℕ × Bool)} → Many (Character mark) us cs rest
      → text_weight heavy (string_text cs) + text_weight heavy rest ≤ text_weight heavy us
  characters_long no_more = omega arith
  characters_long (one_more {a = c} {xs = cs} a b) =
      let q = character_long a in let r = characters_long b in let e = weight_append heavy c.0 (string_text cs) in
      omega arith

  string_long : {us rest : List ℕ} {cs : List (List ℕ × Bool)} → StringLiteral us cs rest
      → text_weight heavy (string_text cs) + 2 + text_weight heavy rest ≤ text_weight heavy us
  string_long (string e m) = let r = characters_long m in omega arith

  digits_long : {allowed : ℕ → Bool} {us xs rest : List ℕ} → Digits allowed us xs rest
      → 1 + text_weight heavy rest ≤ text_weight heavy us
  digits_long (digits (unit e) b) = let r = units_long b in omega arith

  whole_long : {us xs rest : List ℕ} → WholeDigits us xs rest → 1 + text_weight heavy rest ≤ text_weight heavy us
  whole_long zero_digit = omega arith
  whole_long (nonzero e d) = digits_long d

  exponent_long : {us rest : List ℕ} {r l : ℕ} → Exponent us r l rest → text_weight heavy rest ≤ text_weight heavy us
  exponent_long no_exponent = omega arith
  exponent_long (no_sign e d) = let r = digits_long d in omega arith
  exponent_long (plus e d) = let r = digits_long d in omega arith
  exponent_long (minus e d) = let r = digits_long d in omega arith

  numeral_long : {us rest : List ℕ} {m r l : ℕ} → Numeral us m r l rest
      → 1 + text_weight heavy rest ≤ text_weight heavy us
  numeral_long (whole a b) = let p = whole_long a in let q = exponent_long b in omega arith
  numeral_long (with_point a b c) =
      let p = whole_long a in let q = units_long b in let r = exponent_long c in omega arith
  numeral_long (from_point a b) = let p = digits_long a in let q = exponent_long b in omega arith
  numeral_long (hex e d) = let r = digits_long d in omega arith

  word_long : {us rest : List ℕ} {k : TokenKind} → Front us (Word k) rest
      → least k + text_weight heavy rest ≤ text_weight heavy us
  word_long (identifier_name a b) = name_long a
  word_long {us} {rest} (punctuator p e) =
      let a = ap (text_weight heavy) e in let b = weight_append heavy (punctuator_units p) rest in
      let c = long_weight heavy (punctuator_units p) in omega arith
  word_long (numeric_literal {n = n} a b) =
      let p = numeral_long a in let q = value_few heavy n b.inside in omega arith
  word_long (string_literal a b) = string_long a

  front_long : {us rest : List ℕ} {e : Element} → Front us e rest → text_weight heavy rest ≤ text_weight heavy us
  front_long (white_space e) = omega arith
  front_long (line_terminator e) = omega arith
  front_long carriage_return_line_feed = omega arith
  front_long (line_comment a) = let p = units_long a in omega arith
  front_long (block_comment a) = let p = closed_long a in omega arith
  front_long (identifier_name a b) = let p = name_long a in omega arith
  front_long {us} {rest} (punctuator p e) =
      let a = ap (text_weight heavy) e in let b = weight_append heavy (punctuator_units p) rest in
      let c = long_weight heavy (punctuator_units p) in omega arith
  front_long (numeric_literal a b) = let p = numeral_long a in omega arith
  front_long (string_literal a b) = let p = string_long a in omega arith

  abbrev all_before : List Token → ℕ
  all_before ts = before ts (length ts)

  among_long : (text : List ℕ) (line : Bool) {us rest : List ℕ} (ps : List Piece)
      → Many (OnePiece text) us ps rest
      → all_before (tokens_among line ps) + text_weight heavy rest ≤ text_weight heavy us
  among_long text line [] no_more = omega arith
  among_long text line (piece White i j ∷ ps) (one_more a b) =
      let p = front_long (formed a) in let q = among_long text line ps b in omega arith
  among_long text line (piece LineEnd i j ∷ ps) (one_more a b) =
      let p = front_long (formed a) in let q = among_long text true ps b in omega arith
  among_long text line (piece LineComment i j ∷ ps) (one_more a b) =
      let p = front_long (formed a) in let q = among_long text line ps b in omega arith
  among_long text line (piece (BlockComment l) i j ∷ ps) (one_more a b) =
      let p = front_long (formed a) in let q = among_long text (line || l) ps b in omega arith
  among_long text line (piece (Word k) i j ∷ ps) (one_more a b) =
      let p = word_long (formed a) in let q = among_long text false ps b in omega arith

  pub long : (text : List ℕ) (ts : List Token) → Tokens text ts → before ts (length ts) ≤ text_weight heavy text
  long text ts h =
      let a = among_long text false h.pieces h.splits in
      subst (λ us. all_before us ≤ text_weight heavy text) (sym h.are) (omega arith)
