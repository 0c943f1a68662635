use Rattle.std.proofs.Common.{◌≡◌, length}
use Rattle.std.specs.List.{fold}
use Rattle.jl_text.specs.Fed.{fed_units}
use Rattle.jl_text.proofs.text.TextHash.hash.Given as goal

abbrev pub invariant-loop-rest : goal.invariant-loop-rest
invariant-loop-rest g l =
    fold g.H.Hasher.write l.state (fed_units l.rest) ≡ fold g.H.Hasher.write l.fn.state (fed_units l.fn.self)

abbrev pub decreases-loop-rest : goal.decreases-loop-rest
decreases-loop-rest g l = length l.rest
