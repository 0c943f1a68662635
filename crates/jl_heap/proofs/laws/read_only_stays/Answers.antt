use Rattle.jl_heap.proofs.ReadOnlyStays.{read_only_stays}
use Rattle.jl_heap.proofs.laws.read_only_stays.Goals as goal

pub returns : goal.returns
returns c = read_only_stays
