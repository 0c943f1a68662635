-- `replay` reads the bytes of a stored run as that run, and as no other.
use Rattle.std.specs.Prelude.{◌≡◌, ℕ, ◌≤◌, List, length}
use Rattle.jl_record.specs.Recording.{bytes_of_run}
use Rattle.jl_record.specs.Records.{IsStored, Stored}
use Rattle.jl_app.specs.Due.{Due}
use Rattle.jl_app.specs.Forms.{most_record_bytes}
use Rattle.jl_app.specs.Replaying.{IsReplayed, IsReportOf, replay_due}
use Rattle.jl_app.specs.Reporting.{Lines}

-- What is due to `replay` on the bytes of this run, by the rules with these numbers, is the report of the run; and the
-- report of the run is due.
pub record ReplaysAs (chosen : List ℕ) (r : Stored) : Type 0 where
  pub reported : (due : Due) → IsReplayed chosen (bytes_of_run r) due
      → (lines : Lines) × IsReportOf r chosen lines × (due ≡ replay_due r.operations lines)
  pub is_due : (lines : Lines) → IsReportOf r chosen lines
      → IsReplayed chosen (bytes_of_run r) (replay_due r.operations lines)

-- so it is of every stored run whose bytes are no more than are read, whatever the rules
abbrev pub StoredRunsReplay : Type 0
StoredRunsReplay =
    (r : Stored) (chosen : List ℕ) → IsStored r → length (bytes_of_run r) ≤ most_record_bytes → ReplaysAs chosen r
