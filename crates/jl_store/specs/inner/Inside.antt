-- How the parts of the environments are seen.
use Rattle.std.specs.Prelude.{map, List}
use Rattle.jl_named.specs.declared.named_list.Named.{Named}
use Rattle.jl_meaning.specs.Store.{Binding, Environment}
use Rattle.jl_store.specs.Environments.{bound_to}
use Rattle.jl_store.specs.declared.environments.Bound.{Bound}
use Rattle.jl_store.specs.declared.environments.Scope.{Scope}

abbrev pub bindings_of : List (Named Bound) → List Binding
bindings_of entries = map (λ e. bound_to e.name e.item) entries

abbrev pub environment_of : Scope → Environment
environment_of scope = record { outer = scope.outer; bindings = bindings_of scope.bindings }

abbrev pub environments_of : List Scope → List Environment
environments_of scopes = map environment_of scopes
