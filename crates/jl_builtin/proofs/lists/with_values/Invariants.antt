use Rattle.std.proofs.Common.{◌≡◌, ◌++◌, take}
use Rattle.jl_builtin.proofs.lists.with_values.Given as goal

abbrev pub invariant-loop-v : goal.invariant-loop-v
invariant-loop-v l = l.list ≡ l.fn.list ++ take l.v-index l.values
