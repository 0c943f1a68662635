-- What environments are seen as, by their parts, and after a change of these.
use Rattle.std.proofs.Common.{◌≡◌, ℕ, zero, suc, ◌<◌, List, [], ◌∷◌, ◌++◌, length, get_or, refl, ap, sym, ◌∙◌, subst}
use Rattle.std.proofs.Common.{false, true, Bool}
use Rattle.std.proofs.Math.ListN.{set}
use Rattle.std.proofs.lemmas.List.{get_or-map, map-set, set-get_or}
use Rattle.std.specs.Prelude.{IfSome, IsNone, None, OnOk, Ok, Err, Option, Result, Some, option_map}
use Rattle.jl_named.specs.declared.named_list.Named.{Named}
use Rattle.jl_named.specs.Named.{item_named, with_item, AreApart}
use Rattle.jl_value.specs.declared.value.Value.{Value}
use Rattle.jl_meaning.specs.Changes.{rebound}
use Rattle.jl_meaning.specs.Store.{binding_named, no_environment, Binding, Environment}
use Rattle.jl_store.specs.Environments.{bound_to, environment_in, OutersAreBefore, rebinding, rebinding_of}
use Rattle.jl_store.specs.Environments.{with_bindings_in, with_rebinding, with_value_if}
use Rattle.jl_store.specs.declared.environments.Bound.{Bound}
use Rattle.jl_store.specs.declared.environments.Rebinding.{Rebinding}
use Rattle.jl_store.specs.declared.environments.Scope.{Scope}
use Rattle.jl_store.specs.inner.Inside.{bindings_of, environment_of, environments_of}
use Rattle.jl_store.proofs.BindingEntries.{binding_found, bindings_pushed, rebound_is, unbound_stays, written_back}

-- the environment at an index
pub there : (ss : List Scope) (k : ℕ) (s : Scope) → k < length ss → s ≡ get_or ss k s
    → environment_in (environments_of ss) k ≡ environment_of s
there ss k s within is = get_or-map environment_of ss k s no_environment within ∙ ap environment_of (sym is)

none_under : {A B : Type 0} (f : A → B) (o : Option A) → IsNone (option_map f o) → IsNone o
none_under f None none = none
none_under f (Some x) none = none

-- what stands under a name is its binding
pub bound_is : (ss : List Scope) (k : ℕ) (s : Scope) (x : List ℕ) → k < length ss → s ≡ get_or ss k s
    → option_map (bound_to x) (item_named x s.bindings)
    ≡ binding_named x (environment_in (environments_of ss) k).bindings
bound_is ss k s x within is =
    binding_found x s.bindings ∙ ap (λ (e : Environment). binding_named x e.bindings) (sym (there ss k s within is))

pub is_free : (ss : List Scope) (k : ℕ) (s : Scope) (x : List ℕ) → k < length ss → s ≡ get_or ss k s
    → IsNone (binding_named x (environment_in (environments_of ss) k).bindings) → IsNone (item_named x s.bindings)
is_free ss k s x within is none =
    none_under (bound_to x) (item_named x s.bindings)
    (subst (λ o. IsNone o) (sym (bound_is ss k s x within is)) none)

-- other bindings in one environment

pub seen_put : (ss : List Scope) (k : ℕ) (s : Scope) (es : List (Named Bound)) → k < length ss → s ≡ get_or ss k s
    → environments_of (set ss k (record s { bindings = es }))
    ≡ with_bindings_in (environments_of ss) k (bindings_of es)
seen_put ss k s es within is =
    map-set environment_of ss k (record s { bindings = es })
    ∙ ap (λ (e : Environment). set (environments_of ss) k (record e { bindings = bindings_of es }))
    (sym (there ss k s within is))

same_outer : (es : List Environment) (k j : ℕ) (bs : List Binding) (d : Environment)
    → (get_or (set es k (record (get_or es k d) { bindings = bs })) j d).outer ≡ (get_or es j d).outer
same_outer [] k j bs d = refl
same_outer (e ∷ es) zero zero bs d = refl
same_outer (e ∷ es) zero (suc j) bs d = refl
same_outer (e ∷ es) (suc k) zero bs d = refl
same_outer (e ∷ es) (suc k) (suc j) bs d = same_outer es k j bs d

pub put_before : (ss : List Scope) (k : ℕ) (s : Scope) (es : List (Named Bound)) → k < length ss → s ≡ get_or ss k s
    → OutersAreBefore (environments_of ss) → OutersAreBefore (environments_of (set ss k (record s { bindings = es })))
put_before ss k s es within is before = rw (seen_put ss k s es within is) (λ j.
    subst (λ o. IfSome o (λ i. i < j)) (sym (same_outer (environments_of ss) k j (bindings_of es) no_environment))
    (before j))

-- a binding comes last, or nothing changes where no memory is left
pub seen_bound : {T E : Type 0} (ss : List Scope) (k : ℕ) (s : Scope) (es : List (Named Bound)) (x : List ℕ) (b : Bound)
    (r : Result T E)
    → k < length ss → s ≡ get_or ss k s → OnOk r (es ≡ s.bindings ++ record { name = x; item = b } ∷ [])
    → OnOk r (environments_of (set ss k (record s { bindings = es }))
    ≡ with_bindings_in (environments_of ss) k ((environment_in (environments_of ss) k).bindings ++ bound_to x b ∷ []))
seen_bound ss k s es x b (Ok t) within is made =
    seen_put ss k s es within is
    ∙ ap (with_bindings_in (environments_of ss) k)
    (ap bindings_of made
    ∙ bindings_pushed s.bindings x b
    ∙ ap (λ (e : Environment). e.bindings ++ bound_to x b ∷ []) (sym (there ss k s within is)))
seen_bound ss k s es x b (Err t) within is made = tt

-- an environment is put back
pub unchanged : (ss : List Scope) (k : ℕ) (s : Scope) → s ≡ get_or ss k s → set ss k s ≡ ss
unchanged ss k s is = ap (set ss k) is ∙ set-get_or ss k s

-- a binding with another value
pub seen_rebound : (ss : List Scope) (k : ℕ) (s : Scope) (x : List ℕ) (v : Value) (b : Bound) → k < length ss
    → s ≡ get_or ss k s → AreApart s.bindings → item_named x s.bindings ≡ Some b
    → environments_of (set ss k (record s { bindings = with_item s.bindings x (record b { value = v }) }))
    ≡ with_bindings_in (environments_of ss) k (rebound x v (environment_in (environments_of ss) k).bindings)
seen_rebound ss k s x v b within is apart held =
    seen_put ss k s _ within is
    ∙ ap (with_bindings_in (environments_of ss) k)
    (rebound_is x v b s.bindings apart held
    ∙ ap (λ (e : Environment). rebound x v e.bindings) (sym (there ss k s within is)))

pub seen_as_before : (ss : List Scope) (k : ℕ) (s : Scope) (x : List ℕ) (v : Value) → k < length ss
    → s ≡ get_or ss k s → item_named x s.bindings ≡ None
    → environments_of ss
    ≡ with_bindings_in (environments_of ss) k (rebound x v (environment_in (environments_of ss) k).bindings)
seen_as_before ss k s x v within is none =
    let here = there ss k s within is in
    let same : (environment_in (environments_of ss) k).bindings
    ≡ rebound x v (environment_in (environments_of ss) k).bindings =
    ap (λ (e : Environment). e.bindings) here
    ∙ unbound_stays x v s.bindings none
    ∙ ap (λ (e : Environment). rebound x v e.bindings) (sym here) in
    sym (set-get_or (environments_of ss) k no_environment) ∙ ap (with_bindings_in (environments_of ss) k) same

-- another value for a name: what comes of it, and the environments after that

pub rebinding_found : (ss : List Scope) (k : ℕ) (s : Scope) (x : List ℕ) (o : Option Bound) (r : Rebinding)
    → k < length ss → s ≡ get_or ss k s → item_named x s.bindings ≡ o → r ≡ rebinding_of (option_map (bound_to x) o)
    → r ≡ rebinding_of (binding_named x (environment_in (environments_of ss) k).bindings)
rebinding_found ss k s x o r within is held found =
    found
    ∙ ap (λ p. rebinding_of (option_map (bound_to x) p)) (sym held)
    ∙ ap rebinding_of (bound_is ss k s x within is)

pub seen_again : (ss : List Scope) (k : ℕ) (s : Scope) (x : List ℕ) (v : Value) (b c : Bound) (mutable : Bool)
    → k < length ss → s ≡ get_or ss k s → AreApart s.bindings → item_named x s.bindings ≡ Some b
    → c ≡ with_value_if mutable v b
    → environments_of (set ss k (record s { bindings = with_item s.bindings x c }))
    ≡ with_rebinding (rebinding mutable) (environments_of ss) k x v
seen_again ss k s x v b c true within is apart held again =
    ap (λ w. environments_of (set ss k (record s { bindings = with_item s.bindings x w }))) again
    ∙ seen_rebound ss k s x v b within is apart held
seen_again ss k s x v b c false within is apart held again =
    ap (λ w. environments_of (set ss k (record s { bindings = with_item s.bindings x w }))) again
    ∙ ap (λ es. environments_of (set ss k (record s { bindings = es }))) (written_back x b s.bindings apart held)
    ∙ ap environments_of (unchanged ss k s is)
