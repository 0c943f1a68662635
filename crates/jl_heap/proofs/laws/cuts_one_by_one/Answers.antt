use Rattle.jl_heap.proofs.OneByOne.{cuts_one_by_one}
use Rattle.jl_heap.proofs.laws.cuts_one_by_one.Goals as goal

pub returns : goal.returns
returns c = cuts_one_by_one
