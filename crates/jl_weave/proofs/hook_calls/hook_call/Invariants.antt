use Rattle.std.proofs.Common.{◌≡◌, ◌++◌}
use Rattle.jl_weave.proofs.hook_calls.hook_call.Given as goal

abbrev pub invariant-loop-e : goal.invariant-loop-e
invariant-loop-e g l = l.all ≡ l.initial.all ++ l.yielded
