-- The token at a place, as a slice has it.
use Rattle.std.proofs.Common.{◌≡◌, ℕ, zero, suc, ◌+◌, ◌-◌, ◌≤◌, ◌<◌, ◌⊎◌, inl, inr, ◌++◌, List, [], ◌∷◌, length, map}
use Rattle.std.proofs.Common.{get_or, refl, ap, ap₂}
use Rattle.std.proofs.Common.{◌∙◌, Bool, true, false, ◌&&◌, arith}
use Rattle.std.proofs.Common.{subst, sym, length-append}
use Rattle.std.proofs.lemmas.Bool.{cases_lt}
use Rattle.std.proofs.lemmas.List.{get_or_append_left}
use Rattle.std.proofs.Math.Seq.{get_or-append_seam}
use Rattle.jl_grammar.specs.Brackets.{bracket, open_brackets}
use Rattle.jl_grammar.proofs.One.{opened_past}
use Rattle.std.specs.Prelude.{None, option_map, Result, IfOk}
use Rattle.jl_token.specs.declared.token.Token.{Token}
use Rattle.jl_grammar.specs.declared.terminal.Terminal.{Terminal}
use Rattle.jl_grammar.specs.declared.terminal.Terminal.TheVariants as terminals
use Rattle.jl_grammar.specs.declared.word.Word.TheVariants as words
use Rattle.jl_grammar.specs.Operators.{infix_operator, plain, binary_operator}
use Rattle.jl_grammar.specs.Program.{last_end}
use Rattle.jl_grammar.specs.Reader.{is_in}
use Rattle.jl_grammar.specs.Terminals.{terminal_of}
use Rattle.jl_grammar.specs.Tokens.{terminal_at, line_at, text_at, number_at, key_at, strict_at, from_at, to_at, span}
use Rattle.jl_token.specs.declared.punct.Punct.TheVariants as puncts
use Rattle.jl_parse.specs.inner.Steps.{counts, is_end}

terminal_there : (ts : List Token) (i : ℕ) (t : Terminal) → i < length ts
    → t ≡ get_or (map (λ (u : Token). terminal_of u.kind) ts) i t → t ≡ terminal_at ts i
terminal_there [] i t h e = absurd (omega arith)
terminal_there (u ∷ ts) zero t h e = cc
terminal_there (u ∷ ts) (suc i) t h e = terminal_there ts i t (omega arith) e

terminals_long : (ts : List Token) → length (map (λ (u : Token). terminal_of u.kind) ts) ≡ length ts
terminals_long [] = refl
terminals_long (u ∷ ts) = ap suc (terminals_long ts)

pub terminal_in : (ts : List Token) (ss : List Terminal) (i : ℕ) (t : Terminal)
    → ss ≡ map (λ (u : Token). terminal_of u.kind) ts
    → i < length ss → t ≡ get_or ss i t → t ≡ terminal_at ts i
terminal_in ts ss i t s h e =
    let l = terminals_long ts in let k = ap (λ (r : List Terminal). length r) s in
    terminal_there ts i t (omega arith) (e ∙ ap (λ (r : List Terminal). get_or r i t) s)

pub terminal_past : (ts : List Token) (ss : List Terminal) (i : ℕ) → ss ≡ map (λ (u : Token). terminal_of u.kind) ts
    → length ss ≤ i → terminals.End ≡ terminal_at ts i
terminal_past ts ss i s h =
    let l = terminals_long ts in let k = ap (λ (r : List Terminal). length r) s in past ts i (omega arith)
  where
    past : (ts : List Token) (i : ℕ) → length ts ≤ i → terminals.End ≡ terminal_at ts i
    past [] i h = refl
    past (u ∷ ts) zero h = absurd (omega arith)
    past (u ∷ ts) (suc i) h = past ts i (omega arith)

pub line_in : (ts : List Token) (i : ℕ) (t : Token) → i < length ts → t ≡ get_or ts i t → t.line_before ≡ line_at ts i
line_in [] i t h e = absurd (omega arith)
line_in (u ∷ ts) zero t h e = cc
line_in (u ∷ ts) (suc i) t h e = line_in ts i t (omega arith) e

pub line_past : (ts : List Token) (i : ℕ) → length ts ≤ i → true ≡ line_at ts i
line_past [] i h = refl
line_past (u ∷ ts) zero h = absurd (omega arith)
line_past (u ∷ ts) (suc i) h = line_past ts i (omega arith)

pub from_in : (ts : List Token) (i : ℕ) (t : Token) → i < length ts → t ≡ get_or ts i t → t.span.from ≡ from_at ts i
from_in [] i t h e = absurd (omega arith)
from_in (u ∷ ts) zero t h e = cc
from_in (u ∷ ts) (suc i) t h e = from_in ts i t (omega arith) e

pub from_past : (ts : List Token) (i : ℕ) → length ts ≤ i → 0 ≡ from_at ts i
from_past [] i h = refl
from_past (u ∷ ts) zero h = absurd (omega arith)
from_past (u ∷ ts) (suc i) h = from_past ts i (omega arith)

pub to_in : (ts : List Token) (i : ℕ) (t : Token) → i < length ts → t ≡ get_or ts i t → t.span.to ≡ to_at ts i
to_in [] i t h e = absurd (omega arith)
to_in (u ∷ ts) zero t h e = cc
to_in (u ∷ ts) (suc i) t h e = to_in ts i t (omega arith) e

pub to_past : (ts : List Token) (i : ℕ) → length ts ≤ i → 0 ≡ to_at ts i
to_past [] i h = refl
to_past (u ∷ ts) zero h = absurd (omega arith)
to_past (u ∷ ts) (suc i) h = to_past ts i (omega arith)

-- a token that is there stands within the list
pub within : (ts : List Token) (i : ℕ) → is_end (terminal_at ts i) ≡ false → i < length ts
within [] i h = cc
within (t ∷ ts) zero h = omega arith
within (t ∷ ts) (suc i) h = let g = within ts i h in omega arith

pub span_none : (ts : List Token) (i j f : ℕ) → j ≡ 0 → f ≡ from_at ts i → record { from = f; to = 0 } ≡ span ts i j
unfolding span
span_none ts i zero f h e = ap (λ (x : ℕ). record { from = x; to = 0 }) e
span_none ts i (suc j) f h e = absurd (omega arith)

pub span_some : (ts : List Token) (i j f g : ℕ) → (j ≡ 0 → ⊥) → f ≡ from_at ts i → g ≡ to_at ts (j - 1)
    → record { from = f; to = g } ≡ span ts i j
unfolding span
span_some ts i zero f g h e q = absurd (h refl)
span_some ts i (suc j) f g h e q = ap₂ (λ (x y : ℕ). record { from = x; to = y }) e (q ∙ ap (to_at ts) (omega arith))

pub text_in : (ts : List Token) (i : ℕ) (t : Token) → i < length ts → t ≡ get_or ts i t
    → text_at (t ∷ []) 0 ≡ text_at ts i
text_in [] i t h e = absurd (omega arith)
text_in (u ∷ ts) zero t h e = ap (λ (v : Token). text_at (v ∷ []) 0) e
text_in (u ∷ ts) (suc i) t h e = text_in ts i t (omega arith) e

pub text_past : (ts : List Token) (i : ℕ) → length ts ≤ i → [] ≡ text_at ts i
text_past [] i h = refl
text_past (u ∷ ts) zero h = absurd (omega arith)
text_past (u ∷ ts) (suc i) h = text_past ts i (omega arith)

pub number_in : (ts : List Token) (i : ℕ) (t : Token) → i < length ts → t ≡ get_or ts i t
    → number_at (t ∷ []) 0 ≡ number_at ts i
number_in [] i t h e = absurd (omega arith)
number_in (u ∷ ts) zero t h e = ap (λ (v : Token). number_at (v ∷ []) 0) e
number_in (u ∷ ts) (suc i) t h e = number_in ts i t (omega arith) e

pub number_past : (ts : List Token) (i : ℕ) → length ts ≤ i → None ≡ number_at ts i
number_past [] i h = refl
number_past (u ∷ ts) zero h = absurd (omega arith)
number_past (u ∷ ts) (suc i) h = number_past ts i (omega arith)

pub strict_in : (ts : List Token) (i : ℕ) (t : Token) → i < length ts → t ≡ get_or ts i t
    → strict_at (t ∷ []) 0 ≡ strict_at ts i
strict_in [] i t h e = absurd (omega arith)
strict_in (u ∷ ts) zero t h e = ap (λ (v : Token). strict_at (v ∷ []) 0) e
strict_in (u ∷ ts) (suc i) t h e = strict_in ts i t (omega arith) e

pub strict_past : (ts : List Token) (i : ℕ) → length ts ≤ i → false ≡ strict_at ts i
strict_past [] i h = refl
strict_past (u ∷ ts) zero h = absurd (omega arith)
strict_past (u ∷ ts) (suc i) h = strict_past ts i (omega arith)

pub key_in : (ts : List Token) (i : ℕ) (t : Token) → i < length ts → t ≡ get_or ts i t
    → key_at (t ∷ []) 0 ≡ key_at ts i
key_in [] i t h e = absurd (omega arith)
key_in (u ∷ ts) zero t h e = ap (λ (v : Token). key_at (v ∷ []) 0) e
key_in (u ∷ ts) (suc i) t h e = key_in ts i t (omega arith) e

pub key_past : (ts : List Token) (i : ℕ) → length ts ≤ i → [] ≡ key_at ts i
key_past [] i h = refl
key_past (u ∷ ts) zero h = absurd (omega arith)
key_past (u ∷ ts) (suc i) h = key_past ts i (omega arith)

pub kind_in : (ts : List Token) (i : ℕ) (t : Token) → i < length ts → t ≡ get_or ts i t
    → terminal_of t.kind ≡ terminal_at ts i
kind_in [] i t h e = absurd (omega arith)
kind_in (u ∷ ts) zero t h e = ap (λ (v : Token). terminal_of v.kind) e
kind_in (u ∷ ts) (suc i) t h e = kind_in ts i t (omega arith) e

pub kind_past : (ts : List Token) (i : ℕ) → length ts ≤ i → terminals.End ≡ terminal_at ts i
kind_past [] i h = refl
kind_past (u ∷ ts) zero h = absurd (omega arith)
kind_past (u ∷ ts) (suc i) h = kind_past ts i (omega arith)

-- a infix operator other than a logical one is an operator
pub infix_operator_other : (no_in : Bool) (k : Terminal) → (k ≡ terminals.Punct puncts.AndAnd → ⊥)
    → (k ≡ terminals.Punct puncts.OrOr → ⊥)
    → (no_in && is_in k) ≡ false → infix_operator no_in k ≡ option_map plain (binary_operator k)
infix_operator_other no_in (terminals.Punct puncts.AndAnd) a b h = absurd (a refl)
infix_operator_other no_in (terminals.Punct puncts.OrOr) a b h = absurd (b refl)
infix_operator_other true (terminals.Word words.In) a b h = cc
infix_operator_other true (terminals.Punct _) a b h = refl
infix_operator_other true _ a b h = refl
infix_operator_other false (terminals.Word words.In) a b h = refl
infix_operator_other false _ a b h = refl

-- an answer that is a value is any value that is the same
pub if_ok_same : {A E : Type 0} (r : Result A E) (x y : A) → x ≡ y → IfOk r (λ t. t ≡ x) → IfOk r (λ t. t ≡ y)
if_ok_same r x y e h = subst (λ v. IfOk r (λ t. t ≡ v)) e h

-- the last token ends where the one at the last place does
pub end_is_last : (ts : List Token) → to_at ts (length ts - 1) ≡ last_end ts
end_is_last [] = refl
end_is_last (t ∷ []) = refl
end_is_last (t ∷ u ∷ ts) =
    let e : length (t ∷ u ∷ ts) - 1 ≡ suc (length (u ∷ ts) - 1) = omega arith in
    ap (to_at (t ∷ u ∷ ts)) e ∙ end_is_last (u ∷ ts)

pub none_is_last : (ts : List Token) → length ts ≡ 0 → 0 ≡ last_end ts
none_is_last [] h = refl
none_is_last (t ∷ ts) h = absurd (omega arith)

-- how many brackets are open

counts_long : (ts : List Token) (n : ℕ) → length (counts ts n) ≡ n
counts_long ts zero = refl
counts_long ts (suc n) =
    let h = counts_long ts n in let l = length-append (counts ts n) (open_brackets ts n ∷ []) in omega arith

count_there : (ts : List Token) (n i x : ℕ) → i < n → get_or (counts ts n) i x ≡ open_brackets ts i
count_there ts zero i x h = absurd (omega arith)
count_there ts (suc n) i x h = by_place (cases_lt i n) (λ l. count_there ts n i x l)
  where
    by_place : (i < n) ⊎ (n ≤ i) → (i < n → get_or (counts ts n) i x ≡ open_brackets ts i)
        → get_or (counts ts (suc n)) i x ≡ open_brackets ts i
    by_place (inl l) f =
        let q = counts_long ts n in
        get_or_append_left (counts ts n) (open_brackets ts n ∷ []) x i (omega arith) ∙ f l
    by_place (inr l) f =
        let q = counts_long ts n in let e : i ≡ length (counts ts n) = omega arith in
        ap (λ k. get_or (counts ts (suc n)) k x) e ∙ get_or-append_seam (counts ts n) (open_brackets ts n) [] x
        ∙ ap (open_brackets ts) (omega arith)

pub count_in : (ts : List Token) (cs : List ℕ) (i x : ℕ) → cs ≡ counts ts (length ts) → i < length cs
    → x ≡ get_or cs i x
    → x ≡ open_brackets ts i
count_in ts cs i x s h e =
    let l = counts_long ts (length ts) in let k = ap (λ (r : List ℕ). length r) s in
    e ∙ ap (λ (r : List ℕ). get_or r i x) s ∙ count_there ts (length ts) i x (omega arith)

pub count_past : (ts : List Token) (cs : List ℕ) (i x : ℕ) → cs ≡ counts ts (length ts) → length cs ≤ i
    → x ≡ open_brackets ts (length ts) → x ≡ open_brackets ts i
count_past ts cs i x s h e =
    let l = counts_long ts (length ts) in let k = ap (λ (r : List ℕ). length r) s in
    let q : (i - length ts) + length ts ≡ i = omega arith in
    e ∙ sym (opened_past ts (i - length ts)) ∙ ap (open_brackets ts) q

pub counts_more : (ts : List Token) (i : ℕ) → counts ts (i + 1) ≡ counts ts i ++ (open_brackets ts i ∷ [])
counts_more ts i = let e : i + 1 ≡ suc i = omega arith in ap (counts ts) e

pub opened_none : (ts : List Token) → open_brackets ts 0 ≡ 0
unfolding open_brackets
opened_none ts = refl

pub opened_more : (ts : List Token) (i : ℕ) → open_brackets ts (i + 1) ≡ bracket (terminal_at ts i) (open_brackets ts i)
unfolding open_brackets
opened_more ts i = let e : i + 1 ≡ suc i = omega arith in ap (open_brackets ts) e

pub bracket_few : (k : Terminal) (n i : ℕ) → n ≤ i → bracket k n ≤ i + 1
bracket_few (terminals.Punct puncts.LeftParen) n i h = omega arith
bracket_few (terminals.Punct puncts.LeftBracket) n i h = omega arith
bracket_few (terminals.Punct puncts.LeftBrace) n i h = omega arith
bracket_few (terminals.Punct puncts.RightParen) n i h = omega arith
bracket_few (terminals.Punct puncts.RightBracket) n i h = omega arith
bracket_few (terminals.Punct puncts.RightBrace) n i h = omega arith
bracket_few _ n i h = omega arith
