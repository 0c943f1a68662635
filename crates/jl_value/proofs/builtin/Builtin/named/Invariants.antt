use Rattle.std.proofs.Common.{take}
use Rattle.std.specs.Prelude.{◌≢◌, All}
use Rattle.jl_value.specs.Builtins.{builtins, name_of}
use Rattle.jl_value.proofs.builtin.Builtin.named.Given as goal

abbrev pub invariant-loop-builtin : goal.invariant-loop-builtin
invariant-loop-builtin l = All (λ b. name_of b ≢ l.name) (take l.builtin-index builtins)
