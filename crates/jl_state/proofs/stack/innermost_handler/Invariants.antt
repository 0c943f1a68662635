use Rattle.std.proofs.Common.{reverse}
use Rattle.jl_state.proofs.Unwinding.{frames_left, Follows}
use Rattle.jl_state.proofs.stack.innermost_handler.Given as goal

abbrev pub invariant-loop-at : goal.invariant-loop-at
invariant-loop-at l = Follows l.how (reverse l.frames) l.at

abbrev pub decreases-loop-at : goal.decreases-loop-at
decreases-loop-at l = frames_left l.at
