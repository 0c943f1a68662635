use Rattle.std.proofs.Common.{◌∙◌, ◌≤◌, ◌<◌, All, List, ap, length, refl, subst, sym}
use Rattle.std.proofs.lemmas.Result.{IfOk-weaker}
use Rattle.std.specs.Prelude.{codes}
use Rattle.jl_analysis.specs.Rules.{IsRule}
use Rattle.jl_ast.specs.View.{view}
use Rattle.jl_effects.specs.Running.{state_of as world_of}
use Rattle.jl_machine.specs.Runs.{ending_of}
use Rattle.jl_op.specs.Chosen.{every_kind}
use Rattle.jl_record.specs.Records.{IsStored}
use Rattle.jl_report.specs.Off.{Pair}
use Rattle.jl_token.specs.Tokens.{Tokens}
use Rattle.jl_app.specs.Due.{refused_only, text_only}
use Rattle.jl_app.specs.Forms.{most_record_bytes}
use Rattle.jl_app.specs.OwnRuns.{ending_status}
use Rattle.jl_app.specs.Recording.{record_bytes, recorded, stored_run, too_long_record}
use Rattle.jl_app.specs.Telling.{told_run}
use Rattle.jl_app.proofs.OffRules.{off_are_rules}
use Rattle.jl_app.proofs.ToldRuns.{of_told_kinds, record_bytes_are}
use Rattle.jl_app.proofs.recording.record_run.Goals as goal

pub switched_off-requires : goal.switched_off-requires
switched_off-requires c =
    let script = c.requires.script in
    record { lexed = (script.1.tokens, subst (λ us. Tokens us script.1.tokens) (sym script.2) script.1.lexed) }

pub finish-requires-clause-rules : goal.finish-requires-clause-rules
finish-requires-clause-rules c =
    let off = c.in_ok-off.ensures in
    subst (λ (l : List Pair). All (λ pair. IsRule pair.1) l) (sym off.2)
    (off_are_rules c.args.accepted.now.source off.0)

pub returns-in-Ok : goal.returns-in-Ok
returns-in-Ok c =
    let p = view c.args.accepted.now.program in
    let units = c.args.accepted.now.source in
    let budget = c.args.budget in
    let ran = told_run every_kind p budget in
    let off = c.in_ok-off.ensures in
    let is = of_told_kinds _ _ c.in_ok-run.run' c.all.result every_kind p budget c.all.ensures
    (c.in_ok-run.ensures.is c.new-recorder.ensures.nothing) in
    let script = c.requires.script in
    let stored : IsStored (stored_run units p off.0 (world_of ran).hooks) =
    subst (λ us. IsStored (stored_run us p off.0 (world_of ran).hooks)) (sym script.2)
    (c.recorded_runs_are_stored.ensures script.0 p script.1 off.0 budget c.requires.budget
    (c.in-Ok.ensures.stored (world_of ran).hooks is.told)) in
    let bytes = c.in-Ok.ensures.found (world_of ran).hooks is.told
    ∙ record_bytes_are units p off.0 (world_of ran).hooks c.lines.result.now c.in_ok-map.map c.in_ok-off.off
    c.lines.ensures c.in_ok-map.ensures.rows off.2 in (
      text_only (ending_status (ending_of ran)) (record_bytes units p off.0 (world_of ran).hooks),
      recorded off.0 off.1 stored (subst (λ l. length l ≤ most_record_bytes) bytes
          (c.in-Ok.ensures.within most_record_bytes (c.in_ok-run.ensures.fixed ∙ c.new-recorder.ensures.limit))),
      record {
        answer = record { status = c.ending_status.ensures ∙ ap ending_status is.outcome; bytes = bytes };
        untold = refl;
      },
    )

pub returns-in-Err-TooLong : goal.returns-in-Err-TooLong
returns-in-Err-TooLong c =
    let p = view c.args.accepted.now.program in
    let units = c.args.accepted.now.source in
    let budget = c.args.budget in
    let ran = told_run every_kind p budget in
    let off = c.in_ok-off.ensures in
    let is = of_told_kinds _ _ c.in_ok-run.run' c.all.result every_kind p budget c.all.ensures
    (c.in_ok-run.ensures.is c.new-recorder.ensures.nothing) in
    let long = rw c.in-Err-TooLong.field-0-is at c.in-Err-TooLong.ensures.too_long in
    IfOk-weaker c.line_only.result _ _
    (λ given answered. (
      refused_only (codes "RecordTooLong"),
      too_long_record off.0 off.1 (subst (λ l. most_record_bytes < length l)
          (record_bytes_are units p off.0 (world_of ran).hooks c.lines.result.now c.in_ok-map.map c.in_ok-off.off
          c.lines.ensures c.in_ok-map.ensures.rows off.2)
          (long most_record_bytes (world_of ran).hooks (c.in_ok-run.ensures.fixed ∙ c.new-recorder.ensures.limit)
          is.told)),
      record { answer = record { status = answered.0; bytes = answered.1 }; untold = refl },
    ))
    c.line_only.ensures
