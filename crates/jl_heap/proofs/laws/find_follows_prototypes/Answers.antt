use Rattle.jl_heap.proofs.ChainLemmas.{find_on}
use Rattle.jl_heap.proofs.laws.find_follows_prototypes.Goals as goal

pub returns : goal.returns
returns c heap older place name = find_on heap older name place
