use Rattle.std.proofs.Common.{◌≡◌, map, length}
use Rattle.jl_scope.specs.Names.{among}
use Rattle.jl_scope.proofs.names.is_among.Given as goal

abbrev pub invariant-loop-names : goal.invariant-loop-names
invariant-loop-names l = among l.name (map (λ n. n.now) l.names) ≡ among l.name (map (λ n. n.now) l.fn.names)

abbrev pub decreases-loop-names : goal.decreases-loop-names
decreases-loop-names l = length l.names
