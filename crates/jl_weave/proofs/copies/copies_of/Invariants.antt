use Rattle.std.proofs.Common.{◌≡◌, take}
use Rattle.jl_weave.proofs.copies.copies_of.Given as goal

abbrev pub invariant-loop-x : goal.invariant-loop-x
invariant-loop-x l = l.made ≡ take l.x-index l.names
