-- The text of a report grows by that of a line; and the report of the operations that chosen rules look at is that of
-- all.
use Rattle.std.proofs.Common.{◌≡◌, ℕ, ◌<◌, ◌++◌, List, [], ◌∷◌, length, take, get_or, ◌+◌, sym, ap, ◌∙◌}
use Rattle.std.proofs.Common.{All, ap₂, append_assoc, append-nil, add-one, refl}
use Rattle.std.proofs.lemmas.List.Elements.{All-head, All-tail}
use Rattle.std.proofs.Math.Seq.{take-suc}
use Rattle.jl_op.specs.Map.{BeginsIn, MapRow}
use Rattle.jl_op.specs.Operations.{Operation}
use Rattle.jl_analysis.specs.Laws.{NeededIsEnough}
use Rattle.jl_report.specs.Off.{off_by}
use Rattle.jl_report.specs.Reports.{places_of}
use Rattle.jl_report.specs.Texts.{line_bytes}
use Rattle.jl_report.specs.declared.line.Line.{Line}
use Rattle.jl_text.proofs.PlacesLemmas.{line_col-line_table}
use Rattle.jl_text.specs.Places.{line_table}
use Rattle.jl_app.specs.Headline.{kept_of}
use Rattle.jl_app.specs.Reporting.{IsReport, Lines, lines_text, positions}
use Rattle.jl_app.proofs.ChosenRules.{of_kept}

lines_text-push : (lines : Lines) (line : Line)
    → lines_text (lines ++ line ∷ []) ≡ lines_text lines ++ (line_bytes line ++ 10 ∷ [])
lines_text-push [] line = append-nil (line_bytes line ++ 10 ∷ [])
lines_text-push (x ∷ lines) line =
    ap (λ text. (line_bytes x ++ 10 ∷ []) ++ text) (lines_text-push lines line)
    ∙ sym (append_assoc (line_bytes x ++ 10 ∷ []) (lines_text lines) (line_bytes line ++ 10 ∷ []))

-- a text of the first lines has one line more
pub one_more_line : (lines : Lines) (at : ℕ) (d : Line) (text written next : List ℕ) → at < length lines
    → text ≡ lines_text (take at lines) → written ≡ text ++ line_bytes (get_or lines at d)
    → next ≡ written ++ 10 ∷ [] → next ≡ lines_text (take (at + 1) lines)
one_more_line lines at d text written next within so_far line grown =
    grown ∙ ap (λ l. l ++ 10 ∷ []) line
    ∙ append_assoc text (line_bytes (get_or lines at d)) (10 ∷ [])
    ∙ ap (λ l. l ++ (line_bytes (get_or lines at d) ++ 10 ∷ [])) so_far
    ∙ sym (lines_text-push (take at lines) (get_or lines at d))
    ∙ ap lines_text (sym (take-suc lines at d within))
    ∙ ap (λ n. lines_text (take n lines)) (sym (add-one at))

-- the places of a map, by the lines of the source
pub same_places : (units : List ℕ) (rows : List MapRow) → All (BeginsIn (line_table units)) rows
    → places_of (line_table units) rows ≡ positions units rows
same_places units [] begin = refl
same_places units (row ∷ rows) begin =
    ap₂ (λ place places. place ∷ places)
    (line_col-line_table units row.1.from (All-head (BeginsIn (line_table units)) row rows begin))
    (same_places units rows (All-tail (BeginsIn (line_table units)) row rows begin))

-- the report of the operations that chosen rules look at, but for what comments switch off, is that of all
pub all_reported : NeededIsEnough → (units : List ℕ) (rows : List MapRow) (chosen : List ℕ)
    (operations : List Operation) (lines : Lines) → IsReport units rows chosen (kept_of chosen operations) lines
    → IsReport units rows chosen operations lines
all_reported enough units rows chosen operations lines is = record {
  comments = is.comments;
  are = is.are;
  report = of_kept enough chosen (off_by units is.comments) (positions units rows) operations lines is.report;
}
