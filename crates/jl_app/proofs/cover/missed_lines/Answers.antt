use Rattle.std.proofs.Common.{◌∙◌, ◌++◌, ap, refl}
use Rattle.jl_cover.specs.Coverage.{missed_bytes}
use Rattle.jl_app.specs.Covering.{missed_lines}
use Rattle.jl_app.proofs.LinesOf.{one_more_line}
use Rattle.jl_app.proofs.cover.missed_lines.Goals as goal

pub loop-gap-preserved : goal.loop-gap-preserved
loop-gap-preserved c =
    one_more_line missed_bytes missed_lines refl (λ x xs. refl) c.args.gaps.now c.loop-gap.gap-index _
    c.loop-gap.text.items c.extend_from_slice.new.self.items c.push.new.self.items c.loop-gap-test.true
    c.loop-gap.invariant
    (c.in_ok-extend_from_slice.ensures.items
    ∙ ap (λ l. c.loop-gap.text.items ++ l) (c.deref.ensures.value ∙ c.in_ok-missed_text.ensures))
    c.in_ok-push.ensures.items
