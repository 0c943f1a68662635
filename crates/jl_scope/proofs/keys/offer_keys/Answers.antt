use Rattle.jl_scope.specs.inner.Steps.{scope_of}
use Rattle.jl_scope.proofs.KeyLists.{entry_turn}
use Rattle.jl_scope.proofs.keys.offer_keys.Goals as goal

pub loop-entry-preserved : goal.loop-entry-preserved
loop-entry-preserved c =
    entry_turn (scope_of c.args.s.now) c.args.entries.now c.loop-entry.entry-index c.entry-item.result _ _ _ _ _
    c.entry-item.is c.loop-entry-test.true c.loop-entry.invariant c.in_ok-offer_key.ensures.found
    c.in_ok-offer_key.ensures.keys
