-- How births get their keys, one after another.
use Rattle.std.proofs.Common.{◌≡◌, ℕ, List, [], ◌∷◌, ◌++◌, Option, None, Some, sym, ap, ◌∙◌, append-nil}
use Rattle.std.proofs.lemmas.List.Concat.{flat_map-append}
use Rattle.std.specs.Prelude.{option_map}
use Rattle.jl_op.specs.Map.{MapRow}
use Rattle.jl_text.specs.declared.span.Span.{Span}
use Rattle.jl_text.specs.Places.{LineTable, line_col}
use Rattle.jl_profile.specs.Births.{Born, Key, keyed, keyed_births, row_at}

keyed-push : (lines : LineTable) (rows : List MapRow) (before : List Born) (born : Born)
    → keyed_births lines rows (before ++ born ∷ [])
    ≡ keyed_births lines rows before ++ keyed lines (row_at rows born.1.id.0) born
keyed-push lines rows before born =
    flat_map-append _ before (born ∷ [])
    ∙ ap (λ l. keyed_births lines rows before ++ l) (append-nil (keyed lines (row_at rows born.1.id.0) born))

placed : (lines : LineTable) (row : Option MapRow) (born : Born) (span : Span) (place : ℕ × ℕ)
    → Some span ≡ option_map (λ r. r.1) row → place ≡ line_col lines span.from
    → keyed lines row born ≡ ((place.0, place.1, born.1.way), born.0) ∷ []
placed lines None born span place is here = absurd (cc)
placed lines (Some row) born span place is here =
    let same : row.1 ≡ span = cc in
    ap (λ (p : ℕ × ℕ). ((p.0, p.1, born.1.way), born.0) ∷ []) (ap (λ s. line_col lines s.from) same ∙ sym here)

unplaced : (lines : LineTable) (row : Option MapRow) (born : Born) → None ≡ option_map (λ r. r.1) row
    → keyed lines row born ≡ []
unplaced lines None born is = let none : List (Key × ℕ) = [] in λ j. none
unplaced lines (Some row) born is = absurd (cc)

-- one more birth has a place
pub with_place : (lines : LineTable) (rows : List MapRow) (before : List Born) (born : Born) (span : Span)
    (place : ℕ × ℕ) (items later : List (Key × ℕ)) → items ≡ keyed_births lines rows before
    → Some span ≡ option_map (λ r. r.1) (row_at rows born.1.id.0) → place ≡ line_col lines span.from
    → later ≡ items ++ ((place.0, place.1, born.1.way), born.0) ∷ []
    → later ≡ keyed_births lines rows (before ++ born ∷ [])
with_place lines rows before born span place items later so_far is here grown =
    grown ∙ ap (λ l. l ++ ((place.0, place.1, born.1.way), born.0) ∷ []) so_far
    ∙ ap (λ l. keyed_births lines rows before ++ l)
    (sym (placed lines (row_at rows born.1.id.0) born span place is here))
    ∙ sym (keyed-push lines rows before born)

-- or none
pub without_place : (lines : LineTable) (rows : List MapRow) (before : List Born) (born : Born)
    (items : List (Key × ℕ)) → items ≡ keyed_births lines rows before
    → None ≡ option_map (λ r. r.1) (row_at rows born.1.id.0)
    → items ≡ keyed_births lines rows (before ++ born ∷ [])
without_place lines rows before born items so_far is =
    so_far ∙ sym (keyed-push lines rows before born
    ∙ ap (λ l. keyed_births lines rows before ++ l) (unplaced lines (row_at rows born.1.id.0) born is)
    ∙ append-nil (keyed_births lines rows before))
