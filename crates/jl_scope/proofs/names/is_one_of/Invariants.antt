use Rattle.std.proofs.Common.{◌≡◌, map, length}
use Rattle.jl_scope.specs.Names.{among}
use Rattle.jl_scope.proofs.names.is_one_of.Given as goal

abbrev pub invariant-loop-table : goal.invariant-loop-table
invariant-loop-table l = among l.name (map (λ n. n.now) l.table) ≡ among l.name (map (λ n. n.now) l.fn.table)

abbrev pub decreases-loop-table : goal.decreases-loop-table
decreases-loop-table l = length l.table
