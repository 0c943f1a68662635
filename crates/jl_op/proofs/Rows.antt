-- How the text of a map grows by rows.
use Rattle.std.proofs.Common.{◌≡◌, ℕ, ◌+◌, ◌<◌, List, [], ◌∷◌, ◌++◌, length, get_or, take, sym, ap, ◌∙◌, arith}
use Rattle.std.proofs.Common.{append_assoc, append-nil, add-one, length-take}
use Rattle.std.proofs.Math.Seq.{take-suc}
use Rattle.jl_op.specs.Map.{MapRow, id_after, row_line, lines_after, map_lines}
use Rattle.jl_text.specs.Places.{LineTable}

lines_after-push : (lines : LineTable) (before n : ℕ) (rows : List MapRow) (row : MapRow) → n ≡ before + length rows
    → lines_after lines before (rows ++ row ∷ []) ≡ lines_after lines before rows ++ row_line lines (id_after n) row
lines_after-push lines before n [] row is =
    append-nil (row_line lines (id_after before) row)
    ∙ ap (λ k. row_line lines (id_after k) row) (let same : before ≡ n = omega arith in same)
lines_after-push lines before n (first ∷ rows) row is =
    ap (λ text. row_line lines (id_after before) first ++ text)
    (lines_after-push lines (before + 1) n rows row (omega arith))
    ∙ sym (append_assoc (row_line lines (id_after before) first) (lines_after lines (before + 1) rows)
    (row_line lines (id_after n) row))

one_more : (lines : LineTable) (rows : List MapRow) (at : ℕ) (other : MapRow) → at < length rows
    → map_lines lines (take (at + 1) rows) ≡ map_lines lines (take at rows) ++ row_line lines (id_after at)
    (get_or rows at other)
one_more lines rows at other within =
    ap (λ n. map_lines lines (take n rows)) (add-one at)
    ∙ ap (map_lines lines) (take-suc rows at other within)
    ∙ lines_after-push lines 0 at (take at rows) (get_or rows at other) (omega (arith, length-take {A = MapRow}))

-- a text that has the lines of the first rows has that of one more
pub more_text : (lines : LineTable) (rows : List MapRow) (at : ℕ) (other : MapRow) (text line next : List ℕ)
    → at < length rows → text ≡ map_lines lines (take at rows)
    → line ≡ row_line lines (id_after at) (get_or rows at other) → next ≡ text ++ line
    → next ≡ map_lines lines (take (at + 1) rows)
more_text lines rows at other text line next within so_far is grown =
    grown ∙ ap (λ t. t ++ line) so_far ∙ ap (λ t. map_lines lines (take at rows) ++ t) is
    ∙ sym (one_more lines rows at other within)
