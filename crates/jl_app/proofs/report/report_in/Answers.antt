use Rattle.std.proofs.Common.{◌∙◌, ap, List, subst}
use Rattle.std.proofs.lemmas.Result.{IfOk-weaker}
use Rattle.jl_analysis.specs.Chosen.{is_chosen}
use Rattle.jl_report.specs.Off.{Pair}
use Rattle.jl_report.specs.Reports.{IsReport, Place, places_of}
use Rattle.jl_command.specs.Asked.{is_among}
use Rattle.jl_text.specs.Places.{LineTable}
use Rattle.jl_app.specs.Reporting.{positions}
use Rattle.jl_report.proofs.Every.{same_reports}
use Rattle.jl_app.proofs.Reported.{same_places}
use Rattle.jl_app.proofs.report.report_in.Goals as goal

pub returns-clause-report : goal.returns-clause-report
returns-clause-report g c = λ chosen choice.
    let units = c.args.source.now in
    let rows = c.args.map.now in
    let off : List Pair = c.in_ok-off.off in
    let set = c.args.rules in
    let same = ap (λ (lines : LineTable). places_of lines rows) c.lines.ensures
    ∙ same_places units rows c.requires.places in
    IfOk-weaker c.report.result _ _
    (λ lines is told stands few. record {
      comments = c.in_ok-off.ensures.0;
      are = c.in_ok-off.ensures.1;
      report = subst (λ o. IsReport (is_among chosen) o (positions units rows) told lines.items) c.in_ok-off.ensures.2
          (same_reports (is_chosen set) (is_among chosen) choice off (positions units rows) told lines.items
          (subst (λ (places : List Place). IsReport (is_chosen set) off places told lines.items) same
          (is told c.requires.rules stands few)));
    })
    c.report.ensures.done
