-- What `replay` answers: the report of a stored run.
use Rattle.std.specs.Prelude.{◌≡◌, ℕ, List, [], ◌∷◌, ◌++◌, Some, codes, length, map}
use Rattle.std.specs.Fmt.{decimal}
use Rattle.jl_command.specs.Asked.{is_among}
use Rattle.jl_op.specs.Operations.{Operation}
use Rattle.jl_record.specs.Records.{IsRefusedAt, IsStored, Row, Stored, text_of}
use Rattle.jl_report.specs.Reports as reports
use Rattle.jl_text.specs.Encoding.{units_of}
use Rattle.jl_app.specs.Due.{Due, refused_only}
use Rattle.jl_app.specs.Forms.{most_record_bytes}
use Rattle.jl_app.specs.Refusals.{refusal_words}
use Rattle.jl_app.specs.Reporting.{Lines, lines_text}
use Rattle.jl_app.specs.Texts.{IsNoText, IsTextWithin}
use Rattle.jl_app.specs.declared.refusal.Refusal.{Refusal}
use Rattle.jl_app.specs.declared.status.Status.{Status}
use Rattle.jl_app.specs.declared.status.Status.TheVariants as status

-- the places of the rows of a stored run
abbrev pub places_of : List Row → List reports.Place
places_of rows = map (λ row. (row.1, row.2)) rows

abbrev pub replay_status : Lines → Status
replay_status [] = status.Clean
replay_status (line ∷ lines) = status.Reports

-- the last line of a replay
abbrev pub replayed_line : (hooks reports : ℕ) → List ℕ
replayed_line hooks reports =
    codes "jlint: replayed hooks=" ++ (decimal hooks ++ (codes " reports=" ++ (decimal reports ++ 10 ∷ [])))

-- the report of a stored run with these operations, and the last line; the crowd observes the operations
abbrev pub replay_due : List Operation → Lines → Due
replay_due operations lines = record {
  status = replay_status lines;
  bytes = lines_text lines ++ replayed_line (length operations) (length lines);
  told = Some operations;
}

-- these are the lines of the report of a stored run by the rules with these numbers, but for what is switched off in it
abbrev pub IsReportOf : Stored → (chosen : List ℕ) → Lines → Type 0
IsReportOf stored chosen lines =
    reports.IsReport (is_among chosen) stored.off (places_of stored.rows) stored.operations lines

-- What `replay` answers to these bytes, by the rules with these numbers: the report of the stored run whose text they
-- are, or why they are that of none.
pub data IsReplayed (chosen : List ℕ) (bytes : List ℕ) : Due → Type 0 where
  not_text : (cause : Refusal) → IsNoText most_record_bytes bytes cause
      → IsReplayed chosen bytes (refused_only (refusal_words cause))
  no_record : (n : ℕ) → IsTextWithin most_record_bytes bytes → IsRefusedAt (units_of bytes) n
      → IsReplayed chosen bytes (refused_only (codes "Record at line " ++ decimal n))
  reported : (stored : Stored) (lines : Lines) → IsTextWithin most_record_bytes bytes → IsStored stored
      → text_of stored ≡ units_of bytes → IsReportOf stored chosen lines
      → IsReplayed chosen bytes (replay_due stored.operations lines)
