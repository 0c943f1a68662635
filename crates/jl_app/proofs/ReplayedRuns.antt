-- The report of a recorded run is that of the script's own run.
use Rattle.std.proofs.Common.{◌≡◌, ◌∙◌, ◌≤◌, ℕ, All, List, [], ◌∷◌, ap, length, subst, sym}
use Rattle.std.proofs.Common.{refl}
use Rattle.jl_ast.specs.Tree.{Program}
use Rattle.jl_command.specs.Asked.{is_among}
use Rattle.jl_effects.specs.Running.{IsOver, state_of as world_of}
use Rattle.jl_op.specs.Chosen.{every_kind, Kinds}
use Rattle.jl_op.specs.IdMap.{id_map}
use Rattle.jl_op.specs.Map.{BeginsIn, MapRow}
use Rattle.jl_op.specs.Operations.{Operation}
use Rattle.jl_meaning.specs.Mean as mean
use Rattle.jl_record.specs.Recording.{rows_of}
use Rattle.jl_record.specs.Records.{IsStored}
use Rattle.jl_report.specs.Off.{off_by}
use Rattle.jl_report.specs.Reports as reports
use Rattle.jl_text.specs.Encoding.{units_of}
use Rattle.jl_text.specs.Places.{LineTable, line_col, line_table}
use Rattle.jl_text.specs.declared.span.Span.{Span}
use Rattle.jl_token.proofs.CommentLaws.{comments_are_unique}
use Rattle.jl_token.specs.Tokens.{Comments}
use Rattle.jl_token.specs.declared.token.Comment.{Comment}
use Rattle.jl_app.specs.Accepting.{IsAccepted}
use Rattle.jl_app.specs.Due.{Due}
use Rattle.jl_app.specs.Forms.{most_record_bytes}
use Rattle.jl_app.specs.OwnRuns.{own_run}
use Rattle.jl_app.specs.Recording.{record_bytes, recorded, stored_run, too_long_record, IsRecorded}
use Rattle.jl_app.specs.ReplayedRuns.{ReplayReportsAsLint, ReplaysAsLint}
use Rattle.jl_app.specs.Replaying.{places_of}
use Rattle.jl_app.specs.Reporting.{Lines, positions}
use Rattle.jl_app.specs.StoredRuns.{ReplaysAs, StoredRunsReplay}
use Rattle.jl_app.specs.Telling.{told_run}
use Rattle.jl_app.specs.declared.status.Status.TheVariants as status
use Rattle.jl_app.specs.inner.RecordedRuns.{recorded_operations}
use Rattle.jl_app.specs.inner.Woven.{IsWovenWell}
use Rattle.jl_app.proofs.ListedMaps.{RowsLieInText}
use Rattle.jl_app.proofs.OwnOperations.{all_kept, same_hooks}
use Rattle.jl_app.proofs.Reported.{same_places as in_source}

same_places : (lines : LineTable) (rows : List MapRow) → places_of (rows_of lines rows) ≡ reports.places_of lines rows
same_places lines [] = refl
same_places lines (row ∷ rows) =
    ap (λ (places : List reports.Place). line_col lines row.1.from ∷ places) (same_places lines rows)

own_operations : (p : Program Span) → IsWovenWell every_kind p → (budget : ℕ) → IsOver (own_run p budget)
    → recorded_operations p budget ≡ (world_of (own_run p budget)).operations
own_operations p well budget over =
    same_hooks every_kind p well budget over ∙ all_kept (world_of (own_run p budget)).operations

-- the stored run is reported as `lint` reports these operations
module _ (replays : StoredRunsReplay) (units : List ℕ) (p : Program Span)
    (begin : All (BeginsIn (line_table units)) (id_map p)) (operations : List Operation)
    (comments : List Comment) (are : Comments units comments)
    (stored : IsStored (stored_run units p comments operations))
    (few : length (record_bytes units p comments operations) ≤ most_record_bytes) (chosen : List ℕ) where
  as_run : ReplaysAs chosen (stored_run units p comments operations)
  as_run = replays (stored_run units p comments operations) chosen stored few

  placed : places_of (rows_of (line_table units) (id_map p)) ≡ positions units (id_map p)
  placed = same_places (line_table units) (id_map p) ∙ in_source units (id_map p) begin

  -- a report at these places, by what these comments switch off
  abbrev ReportAt : List reports.Place → List Comment → Lines → Type 0
  ReportAt at cs lines = reports.IsReport (is_among chosen) (off_by units cs) at operations lines

  as_lint : ReplaysAsLint units p operations chosen (record_bytes units p comments operations)
  as_lint = record {
    reported = λ due is.
        let found = as_run.reported due is in (
          found.0,
          record {
            comments = comments;
            are = are;
            report =
                subst (λ (at : List reports.Place). ReportAt at comments found.0) placed found.1;
          },
          found.2,
        );
    is_due = λ lines is.
        as_run.is_due lines
        (subst (λ (at : List reports.Place). ReportAt at comments lines) (sym placed)
        (subst (λ (cs : List Comment). ReportAt (positions units (id_map p)) cs lines)
        (comments_are_unique units is.comments comments is.are are) is.report));
  }

-- so is what `record` answers, unless it is a refusal
recorded_as_lint : StoredRunsReplay → (units : List ℕ) (p : Program Span) → All (BeginsIn (line_table units)) (id_map p)
    → (r : mean.Run) (operations : List Operation) (due : Due) → IsRecorded units p r operations due
    → (due.status ≡ status.Refused → ⊥) → (chosen : List ℕ) → ReplaysAsLint units p operations chosen due.bytes
recorded_as_lint replays units p begin r operations _ (recorded comments are stored few) some chosen =
    as_lint replays units p begin operations comments are stored few chosen
recorded_as_lint replays units p begin r operations _ (too_long_record comments are many) some chosen =
    absurd (some refl)

pub reports_as_lint : ((kinds : Kinds) (bytes : List ℕ) (p : Program Span) → IsAccepted bytes p → IsWovenWell kinds p)
    → StoredRunsReplay → RowsLieInText → ReplayReportsAsLint
reports_as_lint well replays rows_lie bytes p budget is over due told some chosen =
    subst (λ (ops : List Operation). ReplaysAsLint (units_of bytes) p ops chosen due.bytes)
    (own_operations p (well every_kind bytes p is) budget over)
    (recorded_as_lint replays (units_of bytes) p (rows_lie (units_of bytes) is.tokens 200 p is.lexed is.read)
    (told_run every_kind p budget) (recorded_operations p budget) due told some chosen)
