-- Environments as a list, apart from the objects of a store (10.2).
use Rattle.std.specs.Prelude.{[], false, if◌then◌else◌, length, nat_lt, slice_index_or, slice_set, true, ◌++◌, ◌<◌, ◌∷◌}
use Rattle.std.specs.Prelude.{Bool, IfSome, List, None, Option, Some, ℕ}
use Rattle.jl_value.specs.declared.value.Value.{Value}
use Rattle.jl_heap.specs.Objects.{Name}
use Rattle.jl_meaning.specs.Changes.{rebound}
use Rattle.jl_meaning.specs.Store.{no_environment, Binding, Environment}
use Rattle.jl_store.specs.declared.environments.Bound.{Bound}
use Rattle.jl_store.specs.declared.environments.Rebinding.{Rebinding}
use Rattle.jl_store.specs.declared.environments.Rebinding.TheVariants.{Changed, Immutable, Unbound}

-- a binding of this name
abbrev pub bound_to : Name → Bound → Binding
bound_to x b = record { name = x; value = b.value; mutable = b.mutable }

abbrev pub environment_in : List Environment → ℕ → Environment
environment_in environments env = slice_index_or environments env no_environment

-- the environment around each one has a smaller index
abbrev pub OutersAreBefore : List Environment → Type 0
OutersAreBefore environments = (env : ℕ) → IfSome (environment_in environments env).outer (λ outer. outer < env)

-- an environment with other bindings, if it is there
abbrev pub with_bindings_in : List Environment → (env : ℕ) → List Binding → List Environment
with_bindings_in environments env bindings =
    slice_set environments env (record (environment_in environments env) { bindings = bindings })

-- what comes of another value for a binding (10.2.1.1.3)
abbrev pub rebinding : (mutable : Bool) → Rebinding
rebinding true = Changed
rebinding false = Immutable

-- a binding after that
abbrev pub with_value_if : (mutable : Bool) → Value → Bound → Bound
with_value_if true v b = record b { value = v }
with_value_if false v b = b

-- what comes of another value for a name
abbrev pub rebinding_of : Option Binding → Rebinding
rebinding_of (Some b) = rebinding b.mutable
rebinding_of None = Unbound

-- the environments after that
abbrev pub with_rebinding : Rebinding → List Environment → (env : ℕ) → Name → Value → List Environment
with_rebinding Changed environments env x v =
    with_bindings_in environments env (rebound x v (environment_in environments env).bindings)
with_rebinding Immutable environments env x v = environments
with_rebinding Unbound environments env x v = environments

-- the environment around a new one, if it is there
abbrev pub outer_in : List Environment → ℕ → Option ℕ
outer_in environments outer = if nat_lt outer (length environments) then Some outer else None

-- a new environment comes last
abbrev pub with_environment_in : List Environment → (outer : ℕ) → List Environment
with_environment_in environments outer =
    environments ++ record { outer = outer_in environments outer; bindings = [] } ∷ []
