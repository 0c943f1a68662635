use Rattle.std.proofs.Common.{◌≡◌, take}
use Rattle.jl_app.specs.SourceMapping.{segment_lines}
use Rattle.jl_app.proofs.unmap.segment_lines.Given as goal

abbrev pub invariant-loop-segment : goal.invariant-loop-segment
invariant-loop-segment l = l.text.items ≡ segment_lines (take l.segment-index l.segments)
