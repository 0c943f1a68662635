use Rattle.jl_heap.proofs.LawsLemmas.{units_are}
use Rattle.jl_heap.proofs.laws.units_stay.Goals as goal

pub returns : goal.returns
returns c = units_are
