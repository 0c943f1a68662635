use Rattle.std.proofs.Common.{◌≡◌, length}
use Rattle.jl_meaning.specs.forms.HookCalls.{unary_among}
use Rattle.jl_hook.proofs.signs.unary_among.Given as goal

abbrev pub invariant-loop-kinds : goal.invariant-loop-kinds
invariant-loop-kinds l = unary_among l.kinds l.sign ≡ unary_among l.fn.kinds l.sign

abbrev pub decreases-loop-kinds : goal.decreases-loop-kinds
decreases-loop-kinds l = length l.kinds
