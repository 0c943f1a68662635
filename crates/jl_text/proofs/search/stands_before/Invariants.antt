use Rattle.jl_text.specs.inner.Seeking.{Agrees}
use Rattle.jl_text.proofs.search.stands_before.Given as goal

abbrev pub invariant-loop-k : goal.invariant-loop-k
invariant-loop-k g l = Agrees (g.U.Units.unit l.units) (g.U.Units.unit l.part) l.at l.k l.end
