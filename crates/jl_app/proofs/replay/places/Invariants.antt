use Rattle.std.proofs.Common.{◌≡◌, take}
use Rattle.jl_app.specs.Replaying.{places_of}
use Rattle.jl_app.proofs.replay.places.Given as goal

abbrev pub invariant-loop-row : goal.invariant-loop-row
invariant-loop-row l = l.places.items ≡ places_of (take l.row-index l.rows)
