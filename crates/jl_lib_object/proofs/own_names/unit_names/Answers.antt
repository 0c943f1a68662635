use Rattle.jl_lib_object.proofs.Listings.{units_more}
use Rattle.jl_lib_object.proofs.own_names.unit_names.Goals as goal

pub loop-index-preserved : goal.loop-index-preserved
loop-index-preserved c = units_more _ _ _ _ c.loop-index.invariant c.in_ok-name.ensures c.in_ok-push.ensures.ok
