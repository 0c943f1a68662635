-- What the definitions of this crate come to.
use Rattle.std.specs.Prelude.{◌≡◌, ℕ, ◌≤◌, Bool, List, All}
use Rattle.jl_token.specs.declared.token.Comment.{Comment}
use Rattle.jl_analysis.specs.Rules.{IsRule}
use Rattle.jl_report.specs.declared.line.Line.{Line}
use Rattle.jl_report.specs.Off.{off_by}
use Rattle.jl_report.specs.Reports.{Place, AreLines}

-- where it is given which lines may stand and how many hits there are, the lines are one list
abbrev pub OneReport : Type 0
OneReport =
    (shown : (rule : ℕ) → Place → Bool) (number : (rule : ℕ) → Place → ℕ) (some others : List Line)
    → AreLines shown number some → AreLines shown number others → some ≡ others

-- what comments switch off is rules, for lines that count from 1
abbrev pub OffNamesRules : Type 0
OffNamesRules =
    (source : List ℕ) (comments : List Comment)
    → All (λ pair. IsRule pair.1) (off_by source comments) × All (λ pair. 1 ≤ pair.0) (off_by source comments)
