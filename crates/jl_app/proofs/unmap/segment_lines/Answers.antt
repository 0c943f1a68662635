use Rattle.std.proofs.Common.{◌∙◌, ◌++◌, ap, refl}
use Rattle.jl_srcmap.specs.Segments.{segment_line}
use Rattle.jl_app.specs.SourceMapping.{segment_lines}
use Rattle.jl_app.proofs.LinesOf.{one_more_line}
use Rattle.jl_app.proofs.unmap.segment_lines.Goals as goal

pub loop-segment-preserved : goal.loop-segment-preserved
loop-segment-preserved c =
    one_more_line segment_line segment_lines refl (λ x xs. refl) c.args.segments.now c.loop-segment.segment-index _
    c.loop-segment.text.items c.extend_from_slice.new.self.items c.push.new.self.items c.loop-segment-test.true
    c.loop-segment.invariant
    (c.in_ok-extend_from_slice.ensures.items
    ∙ ap (λ l. c.loop-segment.text.items ++ l) (c.deref.ensures.value ∙ c.in_ok-segment_text.ensures))
    c.in_ok-push.ensures.items
