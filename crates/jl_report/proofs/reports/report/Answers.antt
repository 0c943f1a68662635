use Rattle.std.proofs.Common.{◌∙◌, subst}
use Rattle.std.proofs.lemmas.Result.{IfOk-weaker}
use Rattle.jl_analysis.specs.Chosen.{is_chosen}
use Rattle.jl_report.specs.Reports.{IsReport}
use Rattle.jl_report.proofs.reports.report.Goals as goal

pub returns-clause-done : goal.returns-clause-done
returns-clause-done g c =
    IfOk-weaker c.report_at.result _ _
    (λ found is told all stands few.
    subst (λ places. IsReport (is_chosen c.args.chosen) c.args.off.now places told found.items)
    (c.deref.ensures.value ∙ c.in_ok-places.ensures) (is told all stands few))
    c.report_at.ensures.done
