-- How a line of a report is written.
use Rattle.std.specs.Prelude.{ℕ, List, ◌++◌, codes, unwrap_or, []}
use Rattle.std.specs.Fmt.{decimal}
use Rattle.jl_analysis.specs.Rules.{name_at}
use Rattle.jl_report.specs.declared.line.Line.{Line}

-- `LINE:COLUMN RULE COUNT`
abbrev pub line_bytes : Line → List ℕ
line_bytes x =
    decimal x.line ++ (codes ":" ++ (decimal x.column ++ (codes " "
    ++ (unwrap_or (name_at x.rule) [] ++ (codes " " ++ decimal x.count)))))
