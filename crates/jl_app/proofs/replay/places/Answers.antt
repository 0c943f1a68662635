use Rattle.jl_app.proofs.Replayed.{one_more_place}
use Rattle.jl_app.proofs.replay.places.Goals as goal

pub loop-row-preserved : goal.loop-row-preserved
loop-row-preserved c =
    one_more_place c.loop-row.places.items c.push.new.self.items c.args.rows.now c.loop-row.row-index _
    c.loop-row-test.true c.loop-row.invariant c.in_ok-push.ensures.items
