use Rattle.std.proofs.Common.{◌≡◌, ◌-◌, ◌≤◌, length}
use Rattle.jl_store.specs.inner.Arguments.{no_mappings}
use Rattle.jl_store.proofs.arguments.no_mappings.Given as goal

abbrev pub invariant-loop-names : goal.invariant-loop-names
invariant-loop-names l = record { all : l.names ≡ no_mappings (length l.names); within : length l.names ≤ l.count }

abbrev pub decreases-loop-names : goal.decreases-loop-names
decreases-loop-names l = l.count - length l.names
