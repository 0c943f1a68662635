use Rattle.jl_lib_object.proofs.Listings.{stored_more}
use Rattle.jl_lib_object.proofs.own_names.with_stored.Goals as goal

pub loop-entry-preserved : goal.loop-entry-preserved
loop-entry-preserved c =
    stored_more _ _ _ _ _ c.entry-item.result _ c.loop-entry.invariant c.loop-entry-test.true c.entry-item.is
    c.in_ok-name.ensures c.in_ok-push.ensures.ok
