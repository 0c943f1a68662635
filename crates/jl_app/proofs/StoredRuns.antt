-- The bytes of a stored run are replayed as that run.
use Rattle.std.proofs.Common.{◌≡◌, ◌∙◌, ◌≤◌, ℕ, List, length, refl, subst, sym}
use Rattle.jl_record.specs.Encoding.{RecordsComeBack}
use Rattle.jl_record.specs.Recording.{bytes_of_run}
use Rattle.jl_record.specs.Records.{IsStored, OneRecord, Stored}
use Rattle.jl_app.specs.Due.{Due}
use Rattle.jl_app.specs.Forms.{most_record_bytes}
use Rattle.jl_app.specs.Replaying.{no_record, not_text, replay_due, reported, IsReplayed, IsReportOf}
use Rattle.jl_app.specs.Reporting.{Lines}
use Rattle.jl_app.specs.StoredRuns.{ReplaysAs, StoredRunsReplay}
use Rattle.jl_app.specs.Texts.{IsTextWithin}
use Rattle.jl_app.proofs.OneText.{never_text}

module _ (come_back : RecordsComeBack) (one : OneRecord) (chosen : List ℕ) (r : Stored) (is : IsStored r)
    (short : length (bytes_of_run r) ≤ most_record_bytes) where
  text : IsTextWithin most_record_bytes (bytes_of_run r)
  text = record { short = short; decoded = (come_back r is).decoded }

  -- a report of the run, and the answer that it is
  abbrev Reports : Stored → Due → Type 0
  Reports s due = (lines : Lines) × IsReportOf s chosen lines × (due ≡ replay_due s.operations lines)

  its_report : (due : Due) → IsReplayed chosen (bytes_of_run r) due → Reports r due
  its_report _ (not_text cause why) = absurd (never_text most_record_bytes (bytes_of_run r) cause why text)
  its_report _ (no_record n t refused) = absurd (refused.none r is (sym (come_back r is).same))
  its_report _ (reported s lines t stored same report) =
      subst (λ (x : Stored). Reports x (replay_due s.operations lines))
      (one s r stored is (same ∙ (come_back r is).same))
      (lines, report, refl)

  replays : ReplaysAs chosen r
  replays = record {
    reported = its_report;
    is_due = λ lines report. reported r lines text is (sym (come_back r is).same) report;
  }

pub replays_as : RecordsComeBack → OneRecord → StoredRunsReplay
replays_as come_back one r chosen is short = replays come_back one chosen r is short
