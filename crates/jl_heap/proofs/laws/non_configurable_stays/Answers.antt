use Rattle.jl_heap.proofs.LawsLemmas.{non_configurable_is}
use Rattle.jl_heap.proofs.laws.non_configurable_stays.Goals as goal

pub returns : goal.returns
returns c = non_configurable_is
