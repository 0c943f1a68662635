use Rattle.std.proofs.Common.{rules}
use Rattle.jl_heap.specs.Define.{length_name}
use Rattle.jl_heap.proofs.new_object.length_text.Goals as goal

pub returns-in-Ok : goal.returns-in-Ok
unfolding length_name
returns-in-Ok c = search rules
