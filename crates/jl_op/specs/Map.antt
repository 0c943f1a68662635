-- The map of a script: what each id stands for.
use Rattle.std.specs.Prelude.{ℕ, ◌+◌, ◌≤◌, List, [], ◌∷◌, ◌++◌, length, codes}
use Rattle.std.specs.Fmt.{decimal}
use Rattle.jl_op.specs.declared.kind.OpKind.{OpKind}
use Rattle.jl_op.specs.declared.op.OpId.{OpId}
use Rattle.jl_op.specs.Kinds.{kind_name}
use Rattle.jl_text.specs.declared.span.Span.{Span}
use Rattle.jl_text.specs.Places.{LineTable, line_col}

-- a kind of operation, and the part of the source that does it
abbrev pub MapRow : Type 0
MapRow = OpKind × Span

-- ids count from 1: the id of the row after so many
abbrev pub id_after : ℕ → OpId
id_after before = record { 0 = before + 1 }

-- the id is that of a row
abbrev pub HasRow : List MapRow → OpId → Type 0
HasRow rows id = (1 ≤ id.0) × (id.0 ≤ length rows)

-- the place where the row's part begins is one of the source
abbrev pub BeginsIn : LineTable → MapRow → Type 0
BeginsIn lines row = row.1.from ≤ lines.end

-- the line `ID KIND LINE:COLUMN`
abbrev pub row_line : LineTable → OpId → MapRow → List ℕ
row_line lines id row =
    let place = line_col lines row.1.from in
    decimal id.0 ++ (codes " " ++ (kind_name row.0 ++ (codes " "
    ++ (decimal place.0 ++ (codes ":" ++ (decimal place.1 ++ 10 ∷ []))))))

-- a line for each row, of which the first comes after so many
abbrev pub lines_after : LineTable → ℕ → List MapRow → List ℕ
lines_after lines before [] = []
lines_after lines before (row ∷ rows) =
    row_line lines (id_after before) row ++ lines_after lines (before + 1) rows

abbrev pub map_lines : LineTable → List MapRow → List ℕ
map_lines lines rows = lines_after lines 0 rows
