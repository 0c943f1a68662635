use Rattle.std.proofs.Common.{◌≡◌, ◌++◌}
use Rattle.std.proofs.Math.ListN.{take}
use Rattle.jl_heap.proofs.describe.push_ascii.Given as goal

abbrev pub invariant-loop-code : goal.invariant-loop-code
invariant-loop-code l = l.units.items ≡ l.fn.units.items ++ take l.code-index l.codes
