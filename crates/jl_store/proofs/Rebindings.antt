-- What another value for a name comes to, by what was found of its binding (10.2.1.1.3).
use Rattle.std.proofs.Common.{◌≡◌, ◌∙◌, ap, codes, false, if◌then◌else◌, refl, subst, sym, true, Bool, List, None}
use Rattle.std.proofs.Common.{Option, Some, ℕ}
use Rattle.jl_value.specs.declared.value.Value.{Value}
use Rattle.jl_heap.specs.Objects.{Name}
use Rattle.jl_effects.specs.Running.{Ends, Finish}
use Rattle.jl_meaning.specs.Changes.{SetBinding}
use Rattle.jl_meaning.specs.Errors.{require}
use Rattle.jl_meaning.specs.Parts.{change_store, gives, AlgorithmFault, Answer}
use Rattle.jl_meaning.specs.References.{set_mutable_binding}
use Rattle.jl_meaning.specs.Store.{Binding, Environment, Store}
use Rattle.jl_store.specs.BigStep.{BigStep}
use Rattle.jl_store.specs.Changes.{after, after_rebinding}
use Rattle.jl_store.specs.Environments.{rebinding, rebinding_of, with_rebinding}
use Rattle.jl_store.specs.declared.environments.Rebinding.{Rebinding}
use Rattle.jl_store.specs.declared.environments.Rebinding.TheVariants.{Changed, Immutable, Unbound}

-- other environments are another store
pub store_rebound : (r : Rebinding) (env : ℕ) (x : Name) (v : Value) (s : Store) (es : List Environment)
    → es ≡ with_rebinding r s.environments env x v → record s { environments = es } ≡ after_rebinding r env x v s
unfolding after
store_rebound Changed env x v s es made = ap (λ new. record s { environments = new }) made
store_rebound Immutable env x v s es made = ap (λ new. record s { environments = new }) made
store_rebound Unbound env x v s es made = ap (λ new. record s { environments = new }) made

module _ (strict : Bool) (env : ℕ) (x : Name) (v : Value) (s : Store) where
  abbrev If : Bool → (t : Store) → Finish AlgorithmFault (Answer (Unit {0})) → Type 0
  If mutable t end =
      BigStep
      (if mutable then change_store (SetBinding env x v)
      else require (if strict then false else true) (codes "cannot write"))
      s t end

  stands : (r q : Rebinding) (t : Store) → t ≡ after_rebinding r env x v s → r ≡ q → after_rebinding q env x v s ≡ t
  stands r q t made is = sym (made ∙ ap (λ p. after_rebinding p env x v s) is)

  -- it has the other value
  pub changed_comes : (t : Store) (o : Option Binding) (r : Rebinding) → r ≡ rebinding_of o
      → t ≡ after_rebinding r env x v s → r ≡ Changed
      → BigStep (set_mutable_binding strict env x v o) s t (Ends (gives tt))
  changed_comes t None r found made is = absurd (let differ : Changed ≡ Unbound = sym is ∙ found in cc)
  changed_comes t (Some b) r found made is = by b.mutable (sym is ∙ found)
    where
      by : (m : Bool) → Changed ≡ rebinding m → If m t (Ends (gives tt))
      by true same = record { refines = (refl, stands r Changed t made is) }
      by false same = absurd (cc)

  -- it can't be changed, which throws in strict code
  pub immutable_comes : (t u : Store) (o : Option Binding) (r : Rebinding)
      (end : Finish AlgorithmFault (Answer (Unit {0}))) → r ≡ rebinding_of o
      → t ≡ after_rebinding r env x v s → r ≡ Immutable
      → BigStep (require (if strict then false else true) (codes "cannot write")) t u end
      → BigStep (set_mutable_binding strict env x v o) s u end
  immutable_comes t u None r end found made is comes =
      absurd (let differ : Immutable ≡ Unbound = sym is ∙ found in cc)
  immutable_comes t u (Some b) r end found made is comes = by b.mutable (sym is ∙ found)
    where
      by : (m : Bool) → Immutable ≡ rebinding m → If m u end
      by true same = absurd (cc)
      by false same =
          subst (λ w. BigStep (require (if strict then false else true) (codes "cannot write")) w u end)
          (sym (stands r Immutable t made is)) comes

  -- nothing binds it
  pub unbound_comes : (t : Store) (o : Option Binding) (r : Rebinding) → r ≡ rebinding_of o
      → t ≡ after_rebinding r env x v s → r ≡ Unbound
      → BigStep (set_mutable_binding strict env x v o) s t (Ends (gives tt))
  unbound_comes t None r found made is = record { refines = (refl, stands r Unbound t made is) }
  unbound_comes t (Some b) r found made is = by b.mutable (sym is ∙ found)
    where
      by : (m : Bool) → Unbound ≡ rebinding m → If m t (Ends (gives tt))
      by true same = absurd (cc)
      by false same = absurd (cc)
