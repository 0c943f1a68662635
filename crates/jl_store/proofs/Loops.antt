-- Loops over algorithms in a row: what is left of one.
use Rattle.std.proofs.Common.{◌≡◌, ℕ, zero, suc, ◌+◌, ◌<◌, List, [], ◌∷◌, length, get_or, drop, refl, sym, ap, ◌∙◌}
use Rattle.std.proofs.Common.{subst, arith}
use Rattle.std.proofs.Common.{add-one, drop-cons, true}
use Rattle.jl_value.specs.declared.object.ObjId.{ObjId}
use Rattle.jl_value.specs.declared.value.Value.{Value}
use Rattle.jl_ast.specs.declared.tree.Function.{Function}
use Rattle.jl_effects.specs.Running.{Ends, Fails, Finish}
use Rattle.jl_heap.specs.Objects.{Name}
use Rattle.jl_heap.specs.declared.property.Prop.{Prop}
use Rattle.jl_heap.specs.declared.property.Prop.TheVariants.{Plain}
use Rattle.jl_meaning.specs.ArgumentsObject.{add_elements}
use Rattle.jl_meaning.specs.Changes.{NewProperty}
use Rattle.jl_meaning.specs.forms.Literals.{index_name}
use Rattle.jl_store.specs.Changes.{after}
use Rattle.jl_meaning.specs.DeclarationBinding.{declare_function, declare_functions, declare_global_variables}
use Rattle.jl_meaning.specs.DeclarationBinding.{declare_variables}
use Rattle.jl_meaning.specs.FunctionObjects.{function_name, make_function}
use Rattle.jl_meaning.specs.Parts.{give, gives, throws, ◌>>=◌, Algorithm, AlgorithmFault, Answer, Context}
use Rattle.jl_meaning.specs.Store.{Store}
use Rattle.jl_store.specs.Bindings.{declare_global_variable, declare_variable}
use Rattle.jl_store.specs.Plain.{plain_function, plain_functions}
use Rattle.jl_store.specs.BigStep.{BigStep}
use Rattle.jl_store.proofs.Chains.{comes_after, comes_failed, comes_on, comes_thrown}
use Rattle.jl_store.proofs.Steps.{comes_by_adding, comes_to}

-- from this store the algorithm p has come to that one, where q is left of it
pub record Leaves (p : Algorithm (Unit {0})) (s : Store) (q : Algorithm (Unit {0})) (t : Store) : Type 0 where
  pub on : (u : Store) (e : Finish AlgorithmFault (Answer (Unit {0}))) → BigStep q t u e → BigStep p s u e

pub all_left : (p : Algorithm (Unit {0})) (s : Store) → Leaves p s p s
all_left p s = record { on = λ u e comes. comes }

pub next_done : {p q r : Algorithm (Unit {0})} {s t u : Store} → Leaves p s (r >>= (λ _. q)) t
    → BigStep r t u (Ends (gives tt)) → Leaves p s q u
next_done before step = record { on = λ u e rest. before.on u e (comes_after step rest) }

pub all_done : {p : Algorithm (Unit {0})} {s t : Store} → Leaves p s (give tt) t → BigStep p s t (Ends (gives tt))
all_done before = before.on _ _ comes_to

-- the next one throws, or fails
pub next_thrown : {p r : Algorithm (Unit {0})} {s t u : Store} {v : Value} (q : Algorithm (Unit {0}))
    → Leaves p s (r >>= (λ _. q)) t
    → BigStep r t u (Ends (throws v)) → BigStep p s u (Ends (throws v))
next_thrown q before step = before.on _ _ (comes_thrown _ step)

pub next_failed : {p r : Algorithm (Unit {0})} {s t u : Store} {f : AlgorithmFault} (q : Algorithm (Unit {0}))
    → Leaves p s (r >>= (λ _. q)) t
    → BigStep r t u (Fails f) → BigStep p s u (Fails f)
next_failed q before step = before.on _ _ (comes_failed _ step)

-- variables of a program, from one of them on
pub globals_from : {p : Algorithm (Unit {0})} {s t : Store} (i : ℕ) (names : List Name) (x : Name)
    → Leaves p s (declare_global_variables (drop i names)) t → i < length names → x ≡ get_or names i x
    → Leaves p s (declare_global_variable x >>= (λ _. declare_global_variables (drop (i + 1) names))) t
globals_from {p} {s} {t} i names x before within is =
    let split : drop i names ≡ x ∷ drop (i + 1) names =
    drop-cons names i x within ∙ ap (λ y. y ∷ drop (suc i) names) (sym is)
    ∙ ap (λ k. x ∷ drop k names) (sym (add-one i)) in
    subst (λ l. Leaves p s (declare_global_variables l) t) split before

-- variables

pub variable_done : {p : Algorithm (Unit {0})} {s t u : Store} (env i : ℕ) (names : List Name) (x : Name)
    → Leaves p s (declare_variables env (drop i names)) t → i < length names → x ≡ get_or names i x
    → BigStep (declare_variable env x) t u (Ends (gives tt)) → Leaves p s (declare_variables env (drop (i + 1) names)) u
variable_done {p} {s} {t} env i names x before within is step =
    let split : drop i names ≡ x ∷ drop (i + 1) names =
    drop-cons names i x within ∙ ap (λ y. y ∷ drop (suc i) names) (sym is)
    ∙ ap (λ k. x ∷ drop k names) (sym (add-one i)) in
    next_done (subst (λ l. Leaves p s (declare_variables env l) t) split before) step

pub none_left : {A : Type 0} (xs : List A) (i : ℕ) → length xs ≡ i → drop i xs ≡ []
none_left [] zero e = refl
none_left [] (suc i) e = refl
none_left (x ∷ xs) zero e = absurd (omega (arith, e))
none_left (x ∷ xs) (suc i) e = none_left xs i (omega (arith, e))

pub variables_done : {p : Algorithm (Unit {0})} {s t : Store} (env : ℕ) (names : List Name)
    → Leaves p s (declare_variables env (drop (length names) names)) t → BigStep p s t (Ends (gives tt))
variables_done {p} {s} {t} env names before =
    all_done (subst (λ l. Leaves p s (declare_variables env l) t) (none_left names (length names) refl) before)

-- elements of an arguments object

pub element_done : {p : Algorithm (Unit {0})} {s t u : Store} (id : ObjId) (i : ℕ) (args : List Value) (v : Value)
    (x : Name) (q : Prop) → Leaves p s (add_elements id i (drop i args)) t → i < length args → v ≡ get_or args i v
    → x ≡ index_name i → q ≡ Plain v true true true → u ≡ after (NewProperty id x q) t
    → Leaves p s (add_elements id (i + 1) (drop (i + 1) args)) u
element_done {p} {s} {t} {u} id i args v x q before within is named as_data made =
    let split : drop i args ≡ v ∷ drop (i + 1) args =
    drop-cons args i v within ∙ ap (λ w. w ∷ drop (suc i) args) (sym is)
    ∙ ap (λ k. v ∷ drop k args) (sym (add-one i)) in
    next_done (subst (λ l. Leaves p s (add_elements id i l) t) split before) (comes_by_adding id named as_data made)

-- functions that a body declares

pub function_done : {p : Algorithm (Unit {0})} {s t u v : Store} {id : ObjId} (c : Context) (i : ℕ)
    (fs : List Function) (f : Function) → Leaves p s (declare_functions (plain_functions (drop i fs)) c) t
    → i < length fs → f ≡ get_or fs i f
    → BigStep (make_function c.strict c.env (plain_function f)) t u (Ends (gives id))
    → BigStep (declare_function c.env (function_name (plain_function f)) id) u v (Ends (gives tt))
    → Leaves p s (declare_functions (plain_functions (drop (i + 1) fs)) c) v
function_done {p} {s} {t} {u} {v} {id} c i fs f before within is made declared =
    let split : drop i fs ≡ f ∷ drop (i + 1) fs =
    drop-cons fs i f within ∙ ap (λ g. g ∷ drop (suc i) fs) (sym is) ∙ ap (λ k. f ∷ drop k fs) (sym (add-one i)) in
    let left = subst (λ l. Leaves p s (declare_functions (plain_functions l) c) t) split before in
    record {
      on = λ w e rest. left.on w e (comes_on _ made (comes_after declared rest));
    }
