use Rattle.std.proofs.Common.{◌∙◌}
use Rattle.jl_record.proofs.Storable.{one_more_seen}
use Rattle.jl_record.proofs.WrittenParts.{one_more_value}
use Rattle.jl_record.proofs.written.write_values.Goals as goal

pub loop-value-preserved : goal.loop-value-preserved
loop-value-preserved c = (
  c.write_value.ensures.limit ∙ c.word.ensures.limit ∙ c.loop-value.invariant.0,
  one_more_value _ _ _ _ c.args.values.now c.loop-value.value-index c.value-item.result c.value-item.is
      c.loop-value-test.true c.loop-value.invariant.1 c.in_ok-word.ensures.holds c.in_ok-write_value.ensures.holds,
  one_more_seen c.args.values.now c.loop-value.value-index c.value-item.result c.value-item.is c.loop-value-test.true
      c.loop-value.invariant.2 c.in_ok-write_value.ensures.fact,
)
