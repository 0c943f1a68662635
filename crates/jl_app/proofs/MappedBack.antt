-- The segments of a text with tokens.
use Rattle.std.proofs.Common.{◌≡◌, ◌∙◌, ◌≤◌, All, List, [], ◌∷◌, ap, arith, ℕ}
use Rattle.std.proofs.lemmas.List.Elements.{All-cons, All-nil}
use Rattle.jl_op.specs.Map.{MapRow}
use Rattle.jl_srcmap.specs.Hooks.{segments_of}
use Rattle.jl_text.specs.Places.{LineTable}
use Rattle.jl_token.specs.Tokens.{InOrder}
use Rattle.jl_token.specs.declared.token.Token.{Token}

-- the places between which tokens stand rise
rises : (i j : ℕ) (ts : List Token) → InOrder i j ts → i ≤ j
rises i j [] h = h
rises i j (t ∷ ts) h = let rest = rises t.span.to j ts h.2 in omega (arith, rest, h.0, h.1)

-- and the tokens begin between them
pub begin_within : (i j : ℕ) (ts : List Token) → InOrder i j ts → All (λ (t : Token). t.span.from ≤ j) ts
begin_within i j [] h = All-nil (λ (t : Token). t.span.from ≤ j)
begin_within i j (t ∷ ts) h =
    let rest = rises t.span.to j ts h.2 in
    All-cons (λ (t : Token). t.span.from ≤ j) t ts (omega (arith, rest, h.1)) (begin_within t.span.to j ts h.2)

-- equal tables, rows and tokens have equal segments
pub same_segments : {woven other_woven : LineTable} {rows other_rows : List MapRow} {lines other_lines : LineTable}
    {ts other_ts : List Token} → woven ≡ other_woven → rows ≡ other_rows → lines ≡ other_lines → ts ≡ other_ts
    → segments_of woven rows lines ts ≡ segments_of other_woven other_rows other_lines other_ts
same_segments {woven} {other_woven} {rows} {other_rows} {lines} {other_lines} {ts} {other_ts} e f g h =
    ap (λ w. segments_of w rows lines ts) e ∙ ap (λ r. segments_of other_woven r lines ts) f
    ∙ ap (λ l. segments_of other_woven other_rows l ts) g ∙ ap (segments_of other_woven other_rows other_lines) h
