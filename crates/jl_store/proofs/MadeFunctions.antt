-- Functions that are made in an environment of their own.
use Rattle.std.proofs.Common.{◌≡◌, ◌∙◌, ◌++◌, ◌∷◌, ℕ, Bool, List, false, true, get_or, [], ap, refl, subst, sym}
use Rattle.std.proofs.Math.Seq.{get_or-append_seam}
use Rattle.std.specs.Prelude.{is_some, IsNone, Option, Some}
use Rattle.jl_value.specs.declared.object.ObjId.{ObjId}
use Rattle.jl_value.specs.declared.value.Value.{Value}
use Rattle.jl_value.specs.declared.value.Value.TheVariants as value
use Rattle.jl_heap.specs.Objects.{Name}
use Rattle.jl_effects.specs.Running.{Ends}
use Rattle.jl_meaning.specs.Changes.{outer_there, NewBinding, NewEnvironment}
use Rattle.jl_meaning.specs.FunctionObjects.{function_name, make_function, make_function_expression, make_named}
use Rattle.jl_meaning.specs.Parts.{change_store, give, gives, lift, ◌>>=◌, Algorithm, Func}
use Rattle.jl_meaning.specs.Store.{binding_named, binding_of, next_environment, no_environment, Environment, Store}
use Rattle.jl_meaning.specs.forms.Try.{enter_catch}
use Rattle.jl_store.specs.Bindings.{catch_environment}
use Rattle.jl_store.specs.Changes.{after}
use Rattle.jl_store.specs.BigStep.{refines, BigStep}
use Rattle.jl_store.proofs.Chains.{comes_on}
use Rattle.jl_store.proofs.Steps.{comes_changed, comes_to}

-- a new environment binds no name, while environments stay
pub nothing_bound : (s t u : Store) (outer env : ℕ) (x : Name) → env ≡ next_environment s
    → t ≡ after (NewEnvironment outer) s → u.environments ≡ t.environments → IsNone (binding_of u env x)
unfolding after
nothing_bound s t u outer env x is made stays =
    let new : Environment = record { outer = outer_there s outer; bindings = [] } in
    let seen = stays ∙ ap (λ (v : Store). v.environments) made in
    let bare =
    ap (λ (l : List Environment). binding_named x (get_or l env no_environment).bindings) seen
    ∙ ap (λ k. binding_named x (get_or (s.environments ++ new ∷ []) k no_environment).bindings) is
    ∙ ap (λ (e : Environment). binding_named x e.bindings) (get_or-append_seam s.environments new [] no_environment) in
    ap is_some bare

abbrev with_name : (env : ℕ) → Name → ObjId → Algorithm ObjId
with_name env x id = do
  _ ← change_store (NewBinding env (record { name = x; value = value.Obj id; mutable = false }))
  give id

abbrev in_catch : (env : ℕ) → Name → Value → Algorithm ℕ
in_catch env x v = do
  _ ← change_store (NewBinding env (record { name = x; value = v; mutable = true }))
  give env

pub named_comes : (outer : Bool) (env inside : ℕ) (f : Func) (x : Name) (s t u v : Store) (id : ObjId)
    → inside ≡ next_environment s → t ≡ after (NewEnvironment env) s
    → BigStep (make_function outer inside f) t u (Ends (gives id))
    → v ≡ after (NewBinding inside (record { name = x; value = value.Obj id; mutable = false })) u
    → BigStep (make_named outer env f (Some x)) s v (Ends (gives id))
named_comes outer env inside f x s t u v id is made first bound =
    let rest : BigStep (make_function outer inside f >>= with_name inside x) t v (Ends (gives id)) =
    comes_on (with_name inside x) first (comes_changed _ bound comes_to) in
    let all : BigStep (change_store (NewEnvironment env) >>=
    (λ _. make_function outer inside f >>= with_name inside x)) s
    v
    (Ends (gives id)) =
    comes_changed _ made rest in
    let here =
    subst (λ k. refines (change_store (NewEnvironment env) >>= (λ _. make_function outer k f >>= with_name k x)) s v
    (Ends (gives id)))
    is all.refines in
    record { refines = here }

pub expression_comes : (outer : Bool) (env : ℕ) (f : Func) (x : Option Name) (s t : Store) (id : ObjId)
    → function_name f ≡ x → BigStep (make_named outer env f x) s t (Ends (gives id))
    → BigStep (make_function_expression outer env f) s t (Ends (gives id))
unfolding make_function_expression
expression_comes outer env f x s t id is comes =
    subst (λ o. BigStep (make_named outer env f o) s t (Ends (gives id))) (sym is) comes

-- the environment of a `catch` is that of the language
pub catch_is : (env : ℕ) (x : Name) (v : Value) → lift (catch_environment env x v) ≡ enter_catch env x v
catch_is env x v = refl

pub catch_comes : (env inside : ℕ) (x : Name) (v : Value) (s t u : Store) → inside ≡ next_environment s
    → t ≡ after (NewEnvironment env) s
    → u ≡ after (NewBinding inside (record { name = x; value = v; mutable = true })) t
    → BigStep (catch_environment env x v) s u (Ends (gives inside))
catch_comes env inside x v s t u is made bound =
    let all : BigStep (change_store (NewEnvironment env) >>= (λ _. in_catch inside x v)) s u (Ends (gives inside)) =
    comes_changed _ made (comes_changed _ bound comes_to) in
    record {
      refines =
          subst (λ k. refines (change_store (NewEnvironment env) >>= (λ _. in_catch k x v)) s u
          (Ends (gives inside))) is
          all.refines;
    }
