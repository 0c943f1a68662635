use Rattle.std.proofs.Common.{◌≡◌, ◌++◌, map, take}
use Rattle.jl_op.specs.Trace.{with_spaces, seen_text}
use Rattle.jl_op.proofs.line.Line.all_seen.Given as goal

abbrev pub invariant-loop-value : goal.invariant-loop-value
invariant-loop-value l = l.line ≡ l.fn.self ++ with_spaces (map seen_text (take l.value-index l.values))
