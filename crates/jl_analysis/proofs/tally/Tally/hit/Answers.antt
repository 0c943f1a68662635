use Rattle.jl_analysis.proofs.Counting.{keys_after, counts_after}
use Rattle.jl_analysis.proofs.tally.Tally.hit.Goals as goal

pub invariant_of-self-else-added : goal.invariant_of-self-else-added
invariant_of-self-else-added c = (
  keys_after _ _ _ _ c.args.id.0 _ _ c.index_mut-count.result.now _ c.self.invariant.0 c.in_ok-at.ensures.keys
      c.in_ok-at.ensures.added c.if-added.false c.reserve.ensures.items c.index_mut-count.ensures.value,
  counts_after _ _ c.index_mut-count.result.now.0 _ _ _ c.reserve.ensures.items c.self.invariant.1
      c.saturating_add-count.ensures,
)
