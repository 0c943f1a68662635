use Rattle.std.proofs.Common.{drop}
use Rattle.std.specs.List.{flat_map}
use Rattle.jl_realm.specs.inner.Steps.{after_all, function_made}
use Rattle.jl_realm.proofs.Taken.{Left}
use Rattle.jl_realm.proofs.initial.make_functions.Given as goal

abbrev pub invariant-loop-builtin : goal.invariant-loop-builtin
invariant-loop-builtin l =
    Left (function_made l.builtins) (after_all (flat_map (function_made l.builtins) l.builtins) l.fn.store)
    (drop l.builtin-index l.builtins) l.store
