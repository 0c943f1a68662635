use Rattle.std.proofs.Common.{◌≡◌, List, ◌++◌, take}
use Rattle.jl_op.specs.Operations.{Operation}
use Rattle.jl_record.proofs.replays.replay.Given as goal

abbrev pub invariant-loop-id : goal.invariant-loop-id
invariant-loop-id g l =
    (g.O.Observer.fixed l.observer ≡ g.O.Observer.fixed l.initial.observer)
    × ((seen : List Operation) → g.O.Observer.stands_for l.initial.observer seen
    → g.O.Observer.stands_for l.observer (seen ++ take l.id-index l.stored.ops.items))
