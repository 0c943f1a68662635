-- Brackets of whole lists, and heights and functions of whole programs.
use Rattle.std.proofs.Common.{◌≡◌, ◌≢◌, ℕ, zero, suc, ◌+◌, ◌*◌, ◌≤◌, ◌<◌, ◌∙◌, ◌⊎◌, inl, inr, Bool, true, false, ◌&&◌}
use Rattle.std.proofs.Common.{ap, arith, length, List, refl, subst, sym}
use Rattle.std.specs.Prelude.{if◌then◌else◌, nat_eq, nat_le, None, Option, Some}
use Rattle.std.proofs.lemmas.Bool.{cases_lt, eq-eqb, le-leb, lt-leb}
use Rattle.std.proofs.lemmas.Option.{same_Some}
use Rattle.jl_ast.specs.Height.{height, program_height}
use Rattle.jl_ast.specs.Numbering.{functions_in}
use Rattle.jl_ast.specs.Tree.{Program}
use Rattle.jl_ast.proofs.SameHeight.{renumbered}
use Rattle.jl_text.specs.declared.span.Span.{Span}
use Rattle.jl_token.specs.declared.token.Token.{Token}
use Rattle.jl_grammar.specs.Brackets.{bracket, open_brackets}
use Rattle.jl_grammar.specs.Program.{Reads, last_end, program_of}
use Rattle.jl_grammar.specs.Reader.{body_from}
use Rattle.jl_grammar.specs.ReaderLevels.{deeper, is_shallow, program_at}
use Rattle.jl_grammar.specs.Reads.{Code}
use Rattle.jl_grammar.specs.Tokens.{from_at, terminal_at}
use Rattle.jl_grammar.proofs.CountedNodes.{counted}
use Rattle.jl_grammar.proofs.FewNodes.{body_few}
use Rattle.jl_grammar.proofs.One.{read, reader_tells}
use Rattle.jl_parse.proofs.Places.{opened_more, opened_none}
use Rattle.jl_parse.specs.Refusals.{IsPlace, at_end, at_token}

pub shallow_more : (ts : List Token) (most i : ℕ) → is_shallow ts most i ≡ true
    → bracket (terminal_at ts i) (open_brackets ts i) ≤ most → is_shallow ts most (i + 1) ≡ true
unfolding open_brackets
shallow_more ts most i h l =
    let e : i + 1 ≡ suc i = omega arith in
    ap (is_shallow ts most) e ∙ ap (λ b. b && is_shallow ts most i) (le-leb _ _ l) ∙ h

deep_here : (ts : List Token) (most i : ℕ) → most < bracket (terminal_at ts i) (open_brackets ts i)
    → is_shallow ts most (suc i) ≡ false
unfolding open_brackets
deep_here ts most i l = ap (λ b. b && is_shallow ts most i) (lt-leb _ _ l)

and_false : (b : Bool) → (b && false) ≡ false
and_false true = refl
and_false false = refl

pub deep_later : (ts : List Token) (most i n : ℕ) → i < n → most < bracket (terminal_at ts i) (open_brackets ts i)
    → is_shallow ts most n ≡ false
deep_later ts most i zero l h = absurd (omega arith)
deep_later ts most i (suc n) l h = by_place (cases_lt i n) (λ k. deep_later ts most i n k h)
  where
    by_place : (i < n) ⊎ (n ≤ i) → (i < n → is_shallow ts most n ≡ false) → is_shallow ts most (suc n) ≡ false
    by_place (inl k) f =
        ap (λ b. nat_le (open_brackets ts (suc n)) most && b) (f k) ∙ and_false (nat_le (open_brackets ts (suc n)) most)
    by_place (inr k) f =
        let e : suc n ≡ suc i = omega arith in ap (is_shallow ts most) e ∙ deep_here ts most i h

-- the height of a program is that of what it holds
pub program_is_as_high : (ts : List Token) (c : Code) → program_height (program_of ts c) ≡ height c
program_is_as_high ts c = renumbered 0 c

-- what is read has fewer functions than tokens
pub few_functions : (ts : List Token) (b f : ℕ) (c : Code) (j : ℕ)
    → body_from ts (deeper ts b f) (length ts) 0 ≡ Some (c, j) → functions_in c ≤ j
few_functions ts b f c j e = let h = body_few (read ts b f c j e) in let k = counted c in omega arith

-- what the reader answers for whole lists

abbrev no_program : Option (Program Span)
no_program = None

none_either : (b : Bool) → (if b then no_program else no_program) ≡ no_program
none_either true = refl
none_either false = refl

none_both : {A : Type 0} (b c d : Bool) (x : Option A) → (c && d) ≡ false
    → (if b then (if c && d then x else None) else None) ≡ None
none_both true c d x h = rw h refl
none_both false c d x h = refl

module _ (ts : List Token) (limit : ℕ) where
  pub too_deep : is_shallow ts (2 * limit) (length ts) ≡ false → program_at ts limit ≡ None
  unfolding program_at
  too_deep h = rw (h, program_at)

  pub no_body : body_from ts (deeper ts (2 * limit) (3 * limit)) (length ts) 0 ≡ None → program_at ts limit ≡ None
  unfolding program_at
  no_body h = rw (h, program_at) (none_either (is_shallow ts (2 * limit) (length ts)))

  pub cut_short : (c : Code) (j : ℕ) → body_from ts (deeper ts (2 * limit) (3 * limit)) (length ts) 0 ≡ Some (c, j)
      → j ≢ length ts → program_at ts limit ≡ None
  unfolding program_at
  cut_short c j h n =
      let e : nat_eq j (length ts) ≡ false = grind arith in
      rw (h, program_at) (none_both (is_shallow ts (2 * limit) (length ts)) (nat_eq j (length ts))
      (nat_le (program_height (program_of ts c)) limit) (Some (program_of ts c))
      (ap (λ b. b && nat_le (program_height (program_of ts c)) limit) e))

  pub too_high : (c : Code) (j : ℕ) → body_from ts (deeper ts (2 * limit) (3 * limit)) (length ts) 0 ≡ Some (c, j)
      → limit < height c → program_at ts limit ≡ None
  unfolding program_at
  too_high c j h l =
      let p = program_is_as_high ts c in
      let e : nat_le (program_height (program_of ts c)) limit ≡ false = lt-leb _ _ (omega arith) in
      rw (h, program_at) (none_both (is_shallow ts (2 * limit) (length ts)) (nat_eq j (length ts))
      (nat_le (program_height (program_of ts c)) limit) (Some (program_of ts c))
      (ap (λ b. nat_eq j (length ts) && b) e ∙ and_false (nat_eq j (length ts))))

  pub is_whole : (c : Code) (j : ℕ) → is_shallow ts (2 * limit) (length ts) ≡ true
      → body_from ts (deeper ts (2 * limit) (3 * limit)) (length ts) 0 ≡ Some (c, j) → j ≡ length ts → height c ≤ limit
      → program_at ts limit ≡ Some (program_of ts c)
  unfolding program_at
  is_whole c j s h e l =
      let p = program_is_as_high ts c in
      let q : nat_le (program_height (program_of ts c)) limit ≡ true = le-leb _ _ (omega arith) in
      rw (s, h, eq-eqb j (length ts) e, q, program_at)

-- a list that the reader reads, or does not read
pub read_by : (ts : List Token) (limit : ℕ) (p q : Program Span) → program_at ts limit ≡ Some q → p ≡ q
    → Reads ts limit p
read_by ts limit p q h e = (reader_tells ts limit p).0 (h ∙ ap Some (sym e))

pub the_one : (ts : List Token) (limit : ℕ) (p q r : Program Span) → program_at ts limit ≡ Some q → r ≡ q
    → Reads ts limit p → r ≡ p
the_one ts limit p q r h e w = e ∙ same_Some _ _ (sym h ∙ (reader_tells ts limit p).1 w)

pub none_read : (ts : List Token) (limit : ℕ) (p : Program Span) → program_at ts limit ≡ None → Reads ts limit p → ⊥
none_read ts limit p h w = let e = sym h ∙ (reader_tells ts limit p).1 w in cc

pub ruleset whole_program = (too_deep, no_body, cut_short, too_high, is_whole, few_functions)

pub placed_token : (ts : List Token) (i x : ℕ) → i < length ts → x ≡ from_at ts i → IsPlace ts x
placed_token ts i x l e = subst (λ (y : ℕ). IsPlace ts y) (sym e) (at_token i l)

pub placed_end : (ts : List Token) (x : ℕ) → x ≡ last_end ts → IsPlace ts x
placed_end ts x e = subst (λ (y : ℕ). IsPlace ts y) (sym e) at_end

pub ruleset shallow = (opened_none, opened_more, shallow_more, deep_later)
