use Rattle.std.proofs.Common.{rules}
use Rattle.jl_heap.specs.Define.{length_name}
use Rattle.jl_heap.proofs.array.is_length_name.Goals as goal

pub returns : goal.returns
unfolding length_name
returns c = search rules
