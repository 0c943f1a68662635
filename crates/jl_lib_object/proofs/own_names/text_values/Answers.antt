use Rattle.jl_lib_object.proofs.Listings.{values_more}
use Rattle.jl_lib_object.proofs.own_names.text_values.Goals as goal

pub loop-name-preserved : goal.loop-name-preserved
loop-name-preserved c =
    values_more _ _ _ _ c.name-item.result _ c.loop-name.invariant c.loop-name-test.true c.name-item.is
    c.in_ok-copy.ensures c.in_ok-push.ensures.ok
