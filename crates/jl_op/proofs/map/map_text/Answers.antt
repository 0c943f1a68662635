use Rattle.std.proofs.Common.{◌∙◌}
use Rattle.jl_op.proofs.Rows.{more_text}
use Rattle.jl_op.proofs.map.map_text.Goals as goal

pub loop-index-preserved : goal.loop-index-preserved
loop-index-preserved c =
    more_text c.args.lines.now c.deref-row-items.result.now c.loop-index.index _ c.loop-index.text.items
    c.as_bytes.result.now
    c.extend_from_slice.new.self.items c.loop-index-test.true c.loop-index.invariant
    (c.as_bytes.ensures.value ∙ c.in_ok-row_text.ensures) c.in_ok-extend_from_slice.ensures.items
