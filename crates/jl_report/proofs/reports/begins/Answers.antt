use Rattle.std.proofs.Common.{◌∙◌, ap, ◌++◌, ◌∷◌, [], take}
use Rattle.jl_report.specs.Reports.{Place, places_of}
use Rattle.jl_report.proofs.Begins.{one_more_place}
use Rattle.jl_report.proofs.reports.begins.Goals as goal

pub loop-before-preserved : goal.loop-before-preserved
loop-before-preserved c =
    let before = places_of c.args.lines.now (take c.loop-before.before c.args.map.now) in
    c.in_ok-push.ensures.items ∙ ap (λ l. l ++ c.line_col.result ∷ []) c.loop-before.invariant
    ∙ ap (λ (p : Place). before ++ p ∷ []) c.line_col.ensures.value
    ∙ one_more_place c.args.lines.now c.args.map.now c.loop-before.before c.place_of-span.result c.place_of-span.ensures
