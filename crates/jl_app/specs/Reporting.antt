-- The report of a script that stands in a source, and how it is written.
use Rattle.std.specs.Prelude.{ℕ, List, [], ◌∷◌, ◌++◌, map}
use Rattle.jl_op.specs.Map.{MapRow}
use Rattle.jl_op.specs.Operations.{Operation}
use Rattle.jl_report.specs.Off.{off_by}
use Rattle.jl_report.specs.Reports.{Place}
use Rattle.jl_report.specs.Reports as reports
use Rattle.jl_report.specs.Texts.{line_bytes}
use Rattle.jl_report.specs.declared.line.Line.{Line}
use Rattle.jl_text.specs.Places.{position_of}
use Rattle.jl_token.specs.declared.token.Comment.{Comment}
use Rattle.jl_token.specs.Tokens.{Comments}
use Rattle.jl_command.specs.Asked.{is_among}

abbrev pub Lines : Type 0
Lines = List Line

-- the lines and the columns where the parts of a map begin in a source of these units
abbrev pub positions : (units : List ℕ) → List MapRow → List Place
positions units rows = map (λ row. position_of units row.1.from) rows

-- These are the lines of the report of the rules with these numbers, but for what the comments of the source switch
-- off, on these operations, whose ids are those of the rows of this map.
pub record IsReport (units : List ℕ) (rows : List MapRow) (chosen : List ℕ) (operations : List Operation)
    (lines : Lines) : Type 0 where
  pub comments : List Comment
  pub are : Comments units comments
  pub report : reports.IsReport (is_among chosen) (off_by units comments) (positions units rows) operations lines

-- the text of a report: each line, and LF
abbrev pub lines_text : Lines → List ℕ
lines_text [] = []
lines_text (line ∷ lines) = (line_bytes line ++ 10 ∷ []) ++ lines_text lines
