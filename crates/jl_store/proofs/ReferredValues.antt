-- The value of what a name refers to, from an environment on.
use Rattle.std.proofs.Common.{◌≡◌, ◌∙◌, ap, false, if◌then◌else◌, refl, subst, sym, suc, zero, IfOk, None, Option}
use Rattle.std.proofs.Common.{Result, Some, ℕ}
use Rattle.std.specs.Borrow.{Bor}
use Rattle.std.specs.Option.{option_copied, option_map_or}
use Rattle.std.specs.Prelude.{option_map}
use Rattle.jl_value.specs.declared.value.Value.{Value}
use Rattle.jl_heap.specs.Objects.{Name}
use Rattle.jl_meaning.specs.References.{binding_value, global_reference, identifier_reference, in_environment}
use Rattle.jl_meaning.specs.References.{reference_from}
use Rattle.jl_meaning.specs.References.{reference_within, Reference}
use Rattle.jl_meaning.specs.Store.{binding_of, environment_at, has_binding, Binding, Store}
use Rattle.jl_store.specs.Environments.{bound_to, OutersAreBefore}
use Rattle.jl_store.specs.LookUps.{value_referred}
use Rattle.jl_store.specs.declared.environments.Bound.{Bound}
use Rattle.jl_store.proofs.Fuel.{reference_by}

-- where an environment binds the name, that is its value
from_here : (store : Store) (at : ℕ) (x : Name) (b : Binding) (r : Reference) → binding_of store at x ≡ Some b
    → value_referred store x (reference_from store at x r) ≡ Some b.value
from_here store at x b r is = rw (is) (ap (λ (o : Option Binding). Some (binding_value o)) is)

pub bound_here : (store : Store) (at env : ℕ) (x : Name) (b : Binding) (v : Value) → binding_of store at x ≡ Some b
    → v ≡ b.value → reference_within at store at x ≡ reference_within env store env x
    → Some v ≡ value_referred store x (identifier_reference store env x)
unfolding identifier_reference
bound_here store zero env x b v is same along =
    ap (λ (w : Value). Some w) same ∙ sym (from_here store zero x b _ is) ∙ ap (value_referred store x) along
bound_here store (suc n) env x b v is same along =
    ap (λ (w : Value). Some w) same ∙ sym (from_here store (suc n) x b _ is) ∙ ap (value_referred store x) along

-- where none binds it, that is its value by the global object
pub bound_nowhere : {E : Type 0} (store : Store) (env : ℕ) (x : Name) (r : Result (Option Value) E) (q : Reference)
    → q ≡ reference_within env store env x → IfOk r (λ v. v ≡ value_referred store x q)
    → IfOk r (λ v. v ≡ value_referred store x (identifier_reference store env x))
unfolding identifier_reference
bound_nowhere store env x r q same is = subst (λ p. IfOk r (λ v. v ≡ value_referred store x p)) same is

-- what the code finds of a binding
pub binding_is : (store : Store) (at : ℕ) (x : Name) (found : Option (Bor Bound)) (r : Option (Bor Bound))
    → option_map (bound_to x) (option_copied found) ≡ binding_of store at x → found ≡ r
    → binding_of store at x ≡ option_map (bound_to x) (option_copied r)
binding_is store at x found r seen is = sym seen ∙ ap (λ o. option_map (bound_to x) (option_copied o)) is

pub environment_ends : (s : Store) → OutersAreBefore s.environments → (x : Name) (env : ℕ)
    → has_binding s env x ≡ false → (environment_at s env).outer ≡ None
    → global_reference s x ≡ reference_within env s env x
environment_ends s before x env unbound none =
    sym (reference_by s before x env
    ∙ ap (λ b. if b then in_environment env else option_map_or (λ o. reference_within o s o x)
    (environment_at s env).outer (global_reference s x)) unbound
    ∙ ap (λ o. option_map_or (λ o. reference_within o s o x) o (global_reference s x)) none)
