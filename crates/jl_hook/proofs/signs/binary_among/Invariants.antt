use Rattle.std.proofs.Common.{◌≡◌, length}
use Rattle.jl_meaning.specs.forms.HookCalls.{binary_among}
use Rattle.jl_hook.proofs.signs.binary_among.Given as goal

abbrev pub invariant-loop-ops : goal.invariant-loop-ops
invariant-loop-ops l = binary_among l.ops l.sign ≡ binary_among l.fn.ops l.sign

abbrev pub decreases-loop-ops : goal.decreases-loop-ops
decreases-loop-ops l = length l.ops
