-- There is at most one reading, and the reader tells it.
use Rattle.std.proofs.Common.{◌≡◌, ℕ, zero, suc, ◌+◌, ◌-◌, ◌*◌, ◌⊎◌, inl, inr, ◌≤◌, ◌<◌, Bool, true, false, ◌&&◌}
use Rattle.std.proofs.Common.{◌∙◌, sym, ap, refl, subst, List, [], ◌∷◌, length, arith}
use Rattle.std.specs.Prelude.{Option, Some, None, nat_eq, nat_le, if◌then◌else◌, option_and_then}
use Rattle.std.proofs.lemmas.Bool.{le-leb, leb-true, eqb-true, eq-eqb, cases_lt}
use Rattle.std.proofs.lemmas.Option.{same_Some}
use Rattle.jl_ast.specs.Height.{height, program_height}
use Rattle.jl_ast.specs.Tree.{Program}
use Rattle.jl_text.specs.declared.span.Span.{Span}
use Rattle.jl_token.specs.declared.token.Token.{Token}
use Rattle.jl_grammar.specs.declared.terminal.Terminal.TheVariants as terminals
use Rattle.jl_grammar.specs.Brackets.{bracket, open_brackets}
use Rattle.jl_grammar.specs.Laws.{OneReading, LimitsAgree, ReaderTells}
use Rattle.jl_grammar.specs.Program.{Reads, program_of}
use Rattle.jl_grammar.specs.Reader.{body_from}
use Rattle.jl_grammar.specs.ReaderLevels.{deeper, is_shallow, program_at}
use Rattle.jl_grammar.specs.Reads.{Code, ReadsBody}
use Rattle.jl_grammar.specs.Tokens.{terminal_at}
use Rattle.jl_grammar.proofs.Holds.{both_true}
use Rattle.jl_grammar.proofs.Complete.{body_complete}
use Rattle.jl_ast.proofs.SameHeight.{renumbered}
use Rattle.jl_grammar.proofs.Holds.{Holds}
use Rattle.jl_grammar.proofs.Sound.{deeper_sound}
use Rattle.jl_grammar.proofs.SoundExpressions.{body_sound}

none_opened : (ts : List Token) → open_brackets ts 0 ≡ 0
unfolding open_brackets
none_opened ts = refl

code_height : (ts : List Token) (c : Code) → program_height (program_of ts c) ≡ height c
code_height ts c = renumbered 0 c

-- the reader's answer, with levels enough
pub answer : (ts : List Token) (limit b f : ℕ) (p : Program Span) (r : Reads ts limit p) → 2 * limit ≤ b
    → limit + b ≤ f → body_from ts (deeper ts b f) (length ts) 0 ≡ Some (r.code, length ts)
answer ts limit b f p r w l =
    let e = ap program_height r.is in let h = code_height ts r.code in let low = r.low in let n = none_opened ts in
    body_complete ts b (λ i. let s = r.shallow i in omega arith) r.whole f (omega arith) (length ts) (omega arith)

pub limits_agree : LimitsAgree
limits_agree ts limit other p q r s =
    let b = 2 * limit + 2 * other in let f = 3 * limit + 3 * other in
    let e = sym (answer ts limit b f p r (omega arith) (omega arith))
    ∙ answer ts other b f q s (omega arith) (omega arith) in
    r.is ∙ ap (λ (x : Code × ℕ). program_of ts x.0) (same_Some _ _ e) ∙ sym s.is

pub one_reading : OneReading
one_reading ts limit p q r s = limits_agree ts limit limit p q r s

-- what the reader reads
pub read : (ts : List Token) (b f : ℕ) (c : Code) (j : ℕ) → body_from ts (deeper ts b f) (length ts) 0 ≡ Some (c, j)
    → ReadsBody ts 0 c j
read ts b f c j e = of_holds _ _ _ (body_sound ts (deeper ts b f) (deeper_sound ts b f) (length ts) 0) e
  where
    of_holds : (o : Option (Code × ℕ)) (c : Code) (j : ℕ) → Holds o (λ x. ReadsBody ts 0 x.0 x.1) → o ≡ Some (c, j)
        → ReadsBody ts 0 c j
    of_holds None c j h e = absurd (cc)
    of_holds (Some x) c j h e = subst (λ (y : Code × ℕ). ReadsBody ts 0 y.0 y.1) (same_Some _ _ e) h.has

-- no more brackets are open up to a place
shallow_up_to : (ts : List Token) (most n : ℕ) → is_shallow ts most n ≡ true → (i : ℕ) → i ≤ n
    → open_brackets ts i ≤ most
shallow_up_to ts most zero h i l =
    let n = none_opened ts in let e : i ≡ 0 = omega arith in let q = ap (open_brackets ts) e in omega arith
shallow_up_to ts most (suc n) h i l =
    let b = both_true (nat_le (open_brackets ts (suc n)) most) (is_shallow ts most n) h in
    up_to (cases_lt i (suc n)) (leb-true _ _ b.0) (λ k. shallow_up_to ts most n b.1 i k)
  where
    up_to : (i < suc n) ⊎ (suc n ≤ i) → open_brackets ts (suc n) ≤ most → (i ≤ n → open_brackets ts i ≤ most)
        → open_brackets ts i ≤ most
    up_to (inl k) a f = f (omega arith)
    up_to (inr k) a f = let e : i ≡ suc n = omega arith in let q = ap (open_brackets ts) e in omega arith

end_past : (ts : List Token) (i : ℕ) → length ts ≤ i → terminal_at ts i ≡ terminals.End
end_past [] i h = refl
end_past (t ∷ ts) zero h = absurd (omega arith)
end_past (t ∷ ts) (suc i) h = end_past ts i (omega arith)

-- past the last token no bracket opens or closes
pub opened_past : (ts : List Token) (n : ℕ) → open_brackets ts (n + length ts) ≡ open_brackets ts (length ts)
unfolding open_brackets
opened_past ts zero = ap (open_brackets ts) (omega arith)
opened_past ts (suc n) =
    let e : suc n + length ts ≡ suc (n + length ts) = omega arith in
    ap (open_brackets ts) e ∙ ap (λ k. bracket k (open_brackets ts (n + length ts)))
    (end_past ts (n + length ts) (omega arith))
    ∙ opened_past ts n

shallow_everywhere : (ts : List Token) (most : ℕ) → is_shallow ts most (length ts) ≡ true → (i : ℕ)
    → open_brackets ts i ≤ most
shallow_everywhere ts most h i = everywhere (cases_lt i (length ts))
  where
    everywhere : (i < length ts) ⊎ (length ts ≤ i) → open_brackets ts i ≤ most
    everywhere (inl k) = shallow_up_to ts most (length ts) h i (omega arith)
    everywhere (inr k) =
        let e : (i - length ts) + length ts ≡ i = omega arith in
        let q = sym (opened_past ts (i - length ts)) ∙ ap (open_brackets ts) e in
        let a = shallow_up_to ts most (length ts) h (length ts) (omega arith) in omega arith

is_shallow_there : (ts : List Token) (most : ℕ) → ((i : ℕ) → open_brackets ts i ≤ most) → (n : ℕ)
    → is_shallow ts most n ≡ true
is_shallow_there ts most h zero = refl
is_shallow_there ts most h (suc n) = rw (le-leb _ _ (h (suc n)), is_shallow_there ts most h n) refl

module _ (ts : List Token) (limit : ℕ) (p : Program Span) where
  tells_code : (x : Code × ℕ) → body_from ts (deeper ts (2 * limit) (3 * limit)) (length ts) 0 ≡ Some x
      → is_shallow ts (2 * limit) (length ts) ≡ true
      → (b : Bool) → (nat_eq x.1 (length ts) && nat_le (program_height (program_of ts x.0)) limit) ≡ b
      → (if b then Some (program_of ts x.0) else None) ≡ Some p → Reads ts limit p
  tells_code x f s true e h =
      let b = both_true (nat_eq x.1 (length ts)) (nat_le (program_height (program_of ts x.0)) limit) e in
      let q = same_Some _ _ h in let l = leb-true _ _ b.1 in let w = ap program_height q in
      record {
        code = x.0;
        whole = subst (λ j. ReadsBody ts 0 x.0 j) (eqb-true _ _ b.0) (read ts (2 * limit) (3 * limit) x.0 x.1 f);
        is = sym q;
        low = omega arith;
        shallow = shallow_everywhere ts (2 * limit) s;
      }
  tells_code x f s false e h = cc

  tells : (s : Bool) → is_shallow ts (2 * limit) (length ts) ≡ s → (o : Option (Code × ℕ))
      → body_from ts (deeper ts (2 * limit) (3 * limit)) (length ts) 0 ≡ o
      → (if s then option_and_then (λ x. if nat_eq x.1 (length ts) && nat_le
      (program_height (program_of ts x.0)) limit then Some (program_of ts x.0) else None) o else None) ≡ Some p
      → Reads ts limit p
  tells true e (Some x) f h = tells_code x f e _ refl h
  tells true e None f h = cc
  tells false e o f h = cc

  told_by_reader : program_at ts limit ≡ Some p → Reads ts limit p
  unfolding program_at
  told_by_reader h = tells _ refl _ refl h

  told : Reads ts limit p → program_at ts limit ≡ Some p
  unfolding program_at
  told r =
      let a = answer ts limit (2 * limit) (3 * limit) p r (omega arith) (omega arith) in
      let w = ap program_height r.is in let l = r.low in
      rw (
        is_shallow_there ts (2 * limit) r.shallow (length ts),
        a,
        eq-eqb (length ts) (length ts) refl,
        le-leb _ _ (of_program l),
        program_at,
      ) (ap Some (sym r.is))
    where
      of_program : program_height p ≤ limit → program_height (program_of ts r.code) ≤ limit
      of_program l = subst (λ q. program_height q ≤ limit) r.is l

pub reader_tells : ReaderTells
reader_tells ts limit p = (told_by_reader ts limit p, told ts limit p)
