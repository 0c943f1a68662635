use Rattle.std.proofs.Common.{◌∙◌, ◌++◌, ap}
use Rattle.jl_app.proofs.Reported.{one_more_line}
use Rattle.jl_app.proofs.report.text.Goals as goal

pub loop-line-preserved : goal.loop-line-preserved
loop-line-preserved c =
    one_more_line c.args.lines.now c.loop-line.line-index _ c.loop-line.text.items c.extend_from_slice.new.self.items
    c.push.new.self.items c.loop-line-test.true c.loop-line.invariant
    (c.in_ok-extend_from_slice.ensures.items
    ∙ ap (λ l. c.loop-line.text.items ++ l) (c.deref.ensures.value ∙ c.in_ok-line_text.ensures))
    c.in_ok-push.ensures.items
