use Rattle.std.proofs.Common.{drop}
use Rattle.jl_statement.specs.inner.Visited.{all_seen}
use Rattle.jl_statement.proofs.Gathered.{FirstsLeft}
use Rattle.jl_statement.proofs.visits.first_of_each_name.Given as goal

abbrev pub invariant-loop-visit : goal.invariant-loop-visit
invariant-loop-visit l = FirstsLeft (all_seen l.all) l.first l.before (drop l.visit-index l.all)
