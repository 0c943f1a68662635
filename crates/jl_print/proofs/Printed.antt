-- The canonical text of a well formed program reads back.
use Rattle.std.proofs.Common.{◌≡◌, ℕ, suc, ◌+◌, ◌-◌, ◌*◌, ◌≤◌, ◌<◌, ◌⊎◌, inl, inr, false, refl, ap, sym, ◌∙◌}
use Rattle.std.proofs.Common.{List, [], ◌∷◌, length, arith}
use Rattle.std.proofs.lemmas.Bool.{cases_lt}
use Rattle.jl_ast.specs.Height.{height, program_height}
use Rattle.jl_ast.specs.Numbering.{with_numbers, numbered_tree}
use Rattle.jl_ast.specs.Spans.{without_spans, map_tree}
use Rattle.jl_ast.specs.Tree.{Program}
use Rattle.jl_ast.proofs.SameHeight.{moved, renumbered}
use Rattle.jl_ast.proofs.SameNumbers.{numbered_moved}
use Rattle.jl_text.specs.declared.span.Span.{Span}
use Rattle.jl_token.specs.declared.token.Token.{Token}
use Rattle.jl_token.specs.declared.token.TokenKind.{TokenKind}
use Rattle.jl_grammar.specs.declared.terminal.Terminal.TheVariants as terminals
use Rattle.jl_grammar.specs.Brackets.{bracket, open_brackets}
use Rattle.jl_grammar.specs.Next.{ends_list}
use Rattle.jl_grammar.specs.Program.{program_of, last_end}
use Rattle.jl_grammar.specs.Reads.{Code}
use Rattle.jl_grammar.specs.Terminals.{terminal_of}
use Rattle.jl_grammar.specs.Tokens.{At, terminal_at}
use Rattle.jl_grammar.proofs.One.{opened_past}
use Rattle.jl_grammar.proofs.Opened.{after}
use Rattle.jl_print.specs.Laws.{PrintedReadsBack, ReadsBack}
use Rattle.jl_print.specs.Layout.{ends_line, text_of}
use Rattle.jl_print.specs.WellFormed.{IsWellFormed}
use Rattle.jl_print.specs.CanonicalTokens.{tokens_of_node, tokens_of}
use Rattle.jl_print.proofs.Back.{back_body}
use Rattle.jl_print.proofs.Depth.{most_open, tame}
use Rattle.jl_print.proofs.Laid.{Laid}
use Rattle.jl_print.proofs.Clean.{good}
use Rattle.jl_print.proofs.Lexed.{laid}
use Rattle.jl_print.proofs.Skeleton.{skeleton, no_place, same_numbers}
use Rattle.jl_print.proofs.Spells.{Spells, at}

end_past : (ts : List Token) → terminal_at ts (length ts) ≡ terminals.End
end_past [] = refl
end_past (t ∷ ts) = end_past ts

-- no more are open than the kinds say
opened_most : (ts : List Token) (i : ℕ) (line : _) (ks : List TokenKind) (j : ℕ) → Spells ts i line ks j → (k : ℕ)
    → i ≤ k → k ≤ j → open_brackets ts k ≤ most_open (open_brackets ts i) ks
opened_most ts i line [] j h k a b =
    let e : k ≡ i = omega (arith, h) in let g : open_brackets ts k ≡ open_brackets ts i = ap (open_brackets ts) e in
    omega arith
opened_most ts i line (c ∷ ks) j h k a b =
    step (at h.0) (λ p. opened_most ts (suc i) (ends_line c) ks j h.1 k p b) (cases_lt i k)
  where
    step : At ts i (terminal_of c) → (suc i ≤ k → open_brackets ts k ≤ most_open (open_brackets ts (suc i)) ks)
        → (i < k) ⊎ (k ≤ i)
        → open_brackets ts k ≤ most_open (open_brackets ts i) (c ∷ ks)
    step e rest (inl p) =
        let g = rest (omega arith) in
        let f : most_open (open_brackets ts (suc i)) ks ≡ most_open (bracket (terminal_of c) (open_brackets ts i)) ks =
        ap (λ x. most_open x ks) (after e) in omega arith
    step e rest (inr p) =
        let q : k ≡ i = omega arith in let g : open_brackets ts k ≡ open_brackets ts i = ap (open_brackets ts) q in
        omega arith

opened_none : (ts : List Token) → open_brackets ts 0 ≡ 0
unfolding open_brackets
opened_none ts = refl

-- past the last token no more are open
everywhere : (ts : List Token) (most : ℕ) → ((k : ℕ) → k ≤ length ts → open_brackets ts k ≤ most) → (i : ℕ)
    → open_brackets ts i ≤ most
everywhere ts most h i = go (cases_lt i (length ts))
  where
    go : (i < length ts) ⊎ (length ts ≤ i) → open_brackets ts i ≤ most
    go (inl p) = h i (omega arith)
    go (inr p) =
        let e : (i - length ts) + length ts ≡ i = omega arith in
        let q = sym (opened_past ts (i - length ts)) ∙ ap (open_brackets ts) e in
        let a = h (length ts) (omega arith) in omega arith

-- trees that differ in places and numbers alone are the same program
same_program : (c : Code) (p : Program Span) (s : Span) → skeleton c ≡ skeleton p.body → with_numbers p ≡ p
    → without_spans (with_numbers (record { body = c; at = s })) ≡ without_spans p
same_program c p s e n =
    let a = sym (numbered_moved no_place 0 c) ∙ sym (same_numbers 0 c) ∙ ap (numbered_tree 0) e
    ∙ same_numbers 0 p.body ∙ numbered_moved no_place 0 p.body in
    ap (λ b. record { body = b; at = tt }) a ∙ ap without_spans n

same_height : (c d : Code) → skeleton c ≡ skeleton d → height c ≡ height d
same_height c d e =
    let h : (t : Code) → height (numbered_tree 0 (skeleton t)) ≡ height t =
    λ t. ap height (same_numbers 0 t) ∙ renumbered 0 (map_tree no_place t) ∙ moved no_place t in
    sym (h c) ∙ ap (λ t. height (numbered_tree 0 t)) e ∙ h d

reads_back : (p : Program Span) (limit : ℕ) → IsWellFormed p → program_height p ≤ limit → Laid (tokens_of p)
    → ReadsBack (text_of p) limit p
reads_back p limit w h l =
    let ts = l.tokens in
    let b = back_body p.body w.body 0 (length ts) false l.spelled (ap ends_list (end_past ts)) in
    let e = same_height b.code p.body b.same in
    let f = renumbered 0 b.code in
    let m = (tame p.body).most 0 in
    let z : most_open (open_brackets ts 0) (tokens_of_node p.body) ≡ most_open 0 (tokens_of_node p.body) =
    ap (λ x. most_open x (tokens_of_node p.body)) (opened_none ts) in
    record {
      tokens = ts;
      lexed = l.lexed;
      program = program_of ts b.code;
      read = record {
        code = b.code;
        whole = b.is;
        is = refl;
        low = omega arith;
        shallow = everywhere ts (2 * limit) (λ k g.
            let o = opened_most ts 0 false (tokens_of_node p.body) (length ts) l.spelled k (omega arith) g in
            omega arith);
      };
      same = same_program b.code p (record { from = 0; to = last_end ts }) b.same w.numbers;
    }

pub printed_reads_back : PrintedReadsBack
printed_reads_back p limit w h = reads_back p limit w h (laid (tokens_of p) (good p.body w.body).clean)
