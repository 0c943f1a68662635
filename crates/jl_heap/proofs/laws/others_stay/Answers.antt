use Rattle.jl_heap.proofs.LawsLemmas.{keeps_object}
use Rattle.jl_heap.proofs.laws.others_stay.Goals as goal

pub returns : goal.returns
returns c = keeps_object
