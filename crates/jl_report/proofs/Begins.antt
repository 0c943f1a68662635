-- The places of a map grow by that of one more row.
use Rattle.std.proofs.Common.{◌≡◌, ℕ, suc, ◌+◌, ◌-◌, List, [], ◌∷◌, ◌++◌, take, get_or, Option, None, Some}
use Rattle.std.proofs.Common.{slice_get, option_map, refl, sym, ap, ◌∙◌, subst, arith, inl, inr}
use Rattle.std.proofs.Math.Seq.{take-suc}
use Rattle.std.proofs.lemmas.List.{map-append}
use Rattle.std.proofs.lemmas.Option.{slice_get_within, slice_get_cases}
use Rattle.jl_op.specs.Map.{MapRow}
use Rattle.jl_text.specs.Places.{LineTable, line_col}
use Rattle.jl_text.specs.declared.span.Span.{Span}
use Rattle.jl_report.specs.Reports.{places_of}

row_of : (o : Option MapRow) (span : Span) → option_map (λ row. row.1) o ≡ Some span
    → (row : MapRow) × (o ≡ Some row) × (row.1 ≡ span)
row_of None span e = absurd (cc)
row_of (Some row) span e = (row, refl, cc)

pub one_more_place : (lines : LineTable) (rows : List MapRow) (i : ℕ) (span : Span)
    → option_map (λ row. row.1) (slice_get rows (i + 1 - 1)) ≡ Some span
    → places_of lines (take i rows) ++ line_col lines span.from ∷ [] ≡ places_of lines (take (i + 1) rows)
one_more_place lines rows i span e =
    let index : i + 1 - 1 ≡ i = omega arith in
    let next : i + 1 ≡ suc i = omega arith in
    let there = row_of (slice_get rows i) span (ap (λ j. option_map (λ row. row.1) (slice_get rows j)) (sym index)
    ∙ e) in
    let within = slice_get_within rows i there.0 there.1 in
    ap (λ s. places_of lines (take i rows) ++ line_col lines s.from ∷ []) (sym there.2)
    ∙ ap (λ row. places_of lines (take i rows) ++ line_col lines row.1.from ∷ []) (sym (here there.0 there.1))
    ∙ sym (map-append (λ row. line_col lines row.1.from) (take i rows) (get_or rows i there.0 ∷ []))
    ∙ ap (places_of lines) (sym (take-suc rows i there.0 within))
    ∙ ap (λ j. places_of lines (take j rows)) (sym next)
  where
    here : (row : MapRow) → slice_get rows i ≡ Some row → get_or rows i row ≡ row
    here row f = elim ((slice_get_cases rows i).1) [
      | inl w ↦ let both : Some w.0 ≡ Some row = sym w.2 ∙ f in
          let same : w.0 ≡ row = cc in
          subst (λ y. get_or rows i y ≡ y) same w.3
      | inr w ↦ let no : None ≡ Some row = sym w.1 ∙ f in absurd (cc)
    ]
