use Rattle.std.proofs.Common.{◌≡◌, drop}
use Rattle.jl_ast.specs.View.{view_entries}
use Rattle.jl_scope.specs.EarlyErrors.{literal_early_errors, no_keys}
use Rattle.jl_scope.specs.Kinds.{first_from}
use Rattle.jl_scope.specs.inner.Steps.{scope_of, keys_of}
use Rattle.jl_scope.proofs.keys.offer_keys.Given as goal

abbrev pub invariant-loop-entry : goal.invariant-loop-entry
invariant-loop-entry l =
    first_from l.found (literal_early_errors (scope_of l.s) (keys_of l.keys)
    (view_entries (drop l.entry-index l.entries)))
    ≡ first_from l.initial.found (literal_early_errors (scope_of l.s) no_keys (view_entries l.entries))
