use Rattle.std.proofs.Common.{◌≡◌, take}
use Rattle.jl_op.specs.Map.{map_lines}
use Rattle.jl_op.proofs.map.map_text.Given as goal

abbrev pub invariant-loop-index : goal.invariant-loop-index
invariant-loop-index l = l.text.items ≡ map_lines l.lines (take l.index l.row-items)
