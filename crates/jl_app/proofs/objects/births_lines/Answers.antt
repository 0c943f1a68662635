use Rattle.std.proofs.Common.{◌∙◌, ◌++◌, ap, refl}
use Rattle.jl_profile.specs.Births.{births_bytes}
use Rattle.jl_app.specs.Profiling.{births_lines}
use Rattle.jl_app.proofs.LinesOf.{one_more_line}
use Rattle.jl_app.proofs.objects.births_lines.Goals as goal

pub loop-row-preserved : goal.loop-row-preserved
loop-row-preserved c =
    one_more_line births_bytes births_lines refl (λ x xs. refl) c.args.rows.now c.loop-row.row-index _
    c.loop-row.text.items c.extend_from_slice.new.self.items c.push.new.self.items c.loop-row-test.true
    c.loop-row.invariant
    (c.in_ok-extend_from_slice.ensures.items
    ∙ ap (λ l. c.loop-row.text.items ++ l) (c.deref.ensures.value ∙ c.in_ok-births_text.ensures))
    c.in_ok-push.ensures.items
