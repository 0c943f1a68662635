use Rattle.std.proofs.Common.{◌∙◌, ◌++◌, List, [], ap, ap₂, length, subst}
use Rattle.jl_analysis.specs.Chosen.{is_chosen}
use Rattle.jl_command.specs.Asked.{is_among}
use Rattle.jl_op.specs.Operations.{Operation}
use Rattle.jl_report.proofs.Every.{same_reports}
use Rattle.jl_report.specs.Reports.{IsReport}
use Rattle.jl_report.specs.declared.line.Line.{Line}
use Rattle.jl_app.specs.Replaying.{places_of, replay_status, replayed_line}
use Rattle.jl_app.specs.Reporting.{lines_text}
use Rattle.jl_app.proofs.replay.report_record.Goals as goal

pub returns-clause-due : goal.returns-clause-due
returns-clause-due g c = λ chosen choice.
    let lines = c.in_ok-lines.lines.items in
    let off = c.args.run.now.off in
    let set = c.args.rules in
    let operations = c.args.run.now.ops.items in
    let told = c.in_ok-replay.ensures.seen [] c.requires.fresh in
    let report = same_reports (is_chosen set) (is_among chosen) choice off (places_of c.args.run.now.rows.items)
    operations lines
    (subst (λ ps. IsReport (is_chosen set) off ps operations lines)
    (c.deref-2.ensures.value ∙ c.in_ok-places.ensures ∙ ap places_of c.deref.ensures.value)
    (c.in_ok-lines.ensures.done operations (c.replay.ensures.same ∙ c.requires.rules) told
    c.requires.is.few_operations)) in (
      lines,
      report,
      record {
        status = c.replay_status.ensures ∙ ap replay_status c.deref-6.ensures.value;
        bytes = c.in_ok-extend_from_slice.ensures.items
            ∙ ap (λ l. l ++ c.as_bytes.result.now) (c.in_ok-bytes.ensures ∙ ap lines_text c.deref-5.ensures.value)
            ∙ ap (λ l. lines_text lines ++ l) (c.as_bytes.ensures.value ∙ c.in_ok-end.ensures
            ∙ ap₂ (λ (os : List Operation) (ls : List Line). replayed_line (length os) (length ls))
            c.deref-3.ensures.value c.deref-4.ensures.value);
      },
      told,
    )
