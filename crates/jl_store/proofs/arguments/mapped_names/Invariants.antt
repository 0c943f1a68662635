use Rattle.std.proofs.Common.{◌≡◌, ◌++◌, ◌≤◌, drop, length}
use Rattle.jl_meaning.specs.ArgumentsObject.{mapped_names}
use Rattle.jl_scope.specs.NameSets.{SameNames}
use Rattle.jl_store.specs.Plain.{names_of}
use Rattle.jl_store.specs.inner.Arguments.{no_mappings}
use Rattle.jl_store.proofs.arguments.mapped_names.Given as goal

abbrev pub invariant-loop-at : goal.invariant-loop-at
invariant-loop-at l = record {
  mapped : l.names ≡ no_mappings l.at ++ mapped_names (names_of (drop l.at l.params));
  same : SameNames l.later (names_of (drop l.at l.params));
  within : l.at ≤ length l.params;
}

abbrev pub decreases-loop-at : goal.decreases-loop-at
decreases-loop-at l = l.at
