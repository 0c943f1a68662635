-- Steps of a program's declarations.
use Rattle.std.proofs.Common.{◌≡◌, ◌∙◌, ℕ, suc, ◌+◌, ◌<◌, Bool, true, false, List, ◌∷◌, length, get_or, drop, refl, ap}
use Rattle.std.proofs.Common.{add-one, drop-cons, subst, sym, ◌&&◌}
use Rattle.std.specs.Prelude.{if◌then◌else◌, codes, None, Option, Some}
use Rattle.std.specs.Str.{bytes_eq}
use Rattle.jl_ast.specs.Spans.{map_forest}
use Rattle.jl_ast.specs.Tree as tree
use Rattle.jl_ast.specs.View.{view_statements}
use Rattle.jl_ast.specs.declared.tree.Body.{Body, out-Body}
use Rattle.jl_ast.specs.declared.tree.Function.{Function}
use Rattle.jl_scope.specs.Hoisting.{variables}
use Rattle.jl_value.specs.declared.object.Class.{Class}
use Rattle.jl_value.specs.declared.object.ObjId.{ObjId}
use Rattle.jl_value.specs.declared.value.Value.{Value}
use Rattle.jl_value.specs.declared.value.Value.TheVariants as value
use Rattle.jl_effects.specs.Running.{Ends, Finish}
use Rattle.jl_heap.specs.Define.{is_array, length_name}
use Rattle.jl_heap.specs.Objects.{object_at, Name}
use Rattle.jl_heap.specs.declared.property.Change as asked
use Rattle.jl_heap.specs.declared.property.Prop.TheVariants.{Accessor, Plain}
use Rattle.jl_meaning.specs.DeclarationBinding.{declare_global_function, declare_global_functions}
use Rattle.jl_meaning.specs.DeclarationBinding.{declare_global_variables, declare_program, prepare_global}
use Rattle.jl_meaning.specs.Defining.{define_own_property, define_with_number, with_length}
use Rattle.jl_meaning.specs.FunctionObjects.{function_name, make_function}
use Rattle.jl_meaning.specs.Intrinsics.{global_object}
use Rattle.jl_meaning.specs.Errors.{require}
use Rattle.jl_meaning.specs.Parts.{gives, throws, ◌>>=◌, Algorithm, AlgorithmFault, Answer, Code, Context}
use Rattle.jl_meaning.specs.Properties.{can_put, get_property, Property}
use Rattle.jl_meaning.specs.Putting.{put, put_found, put_if, put_on}
use Rattle.jl_meaning.specs.Store.{Store}
use Rattle.jl_store.specs.BigStep.{refines, BigStep}
use Rattle.jl_store.specs.Plain.{plain_code, plain_function, plain_functions}
use Rattle.jl_store.proofs.Chains.{comes_after, comes_on, comes_thrown}
use Rattle.jl_store.proofs.Loops.{Leaves}
use Rattle.jl_store.proofs.Trees.{body_plain}
use Rattle.jl_meaning.proofs.Binds.{bind_assoc}
use Rattle.jl_realm.specs.Global.{declare_made, is_no_accessor, put_change, HasGlobalObject}

abbrev EndOf : Type 0 → Type 0
EndOf A = Finish AlgorithmFault (Answer A)

-- on an ordinary object nothing is converted
defines : {s t : Store} {e : EndOf Bool} (x : Name) (change : asked.Change) → HasGlobalObject s
    → BigStep (define_with_number global_object x change) s t e
    → BigStep (define_own_property global_object x change) s t e
unfolding define_own_property
defines {s} {t} {e} x change has comes =
    let P = λ (k : Class).
    refines (with_length (is_array k && bytes_eq x length_name) change change.value
    >>= (λ c. define_with_number global_object x c)) s t e in
    record { refines = subst P (sym has.ordinary.class) comes.refines }

put_as : (x : Name) (v : Value) (p : Option Property) → is_no_accessor p ≡ true
    → put_found global_object x v p ≡ define_own_property global_object x (put_change v p)
put_as x v None none = refl
put_as x v (Some (true, Plain w a b c)) none = refl
put_as x v (Some (false, Plain w a b c)) none = refl
put_as x v (Some (is_own, Accessor get set a b)) none = absurd (let differ : false ≡ true = none in cc)

-- a put that is done
pub put_done : (s t : Store) (x : Name) (v : Value) (e : EndOf Bool) → HasGlobalObject s
    → is_no_accessor (get_property s global_object.0 x) ≡ true
    → can_put (object_at s.heap global_object.0).extensible (get_property s global_object.0 x) ≡ true
    → BigStep (define_with_number global_object x (put_change v (get_property s global_object.0 x))) s t e
    → BigStep (put_on s (value.Obj global_object) x v) s t e
put_done s t x v e has none can comes =
    let p = get_property s global_object.0 x in
    subst (λ b. BigStep (put_if b global_object x v p) s t e) (sym can)
    (subst (λ q. BigStep q s t e) (sym (put_as x v p none)) (defines x (put_change v p) has comes))

-- functions of a program, from one of them on
pub functions_from : {p : Algorithm (Unit {0})} {s t : Store} (c : Context) (i : ℕ) (fs : List Function) (f : Function)
    → Leaves p s (declare_global_functions (plain_functions (drop i fs)) c) t → i < length fs → f ≡ get_or fs i f
    → Leaves p s (declare_made (plain_function f) c
    >>= (λ _. declare_global_functions (plain_functions (drop (i + 1) fs)) c)) t
functions_from {p} {s} {t} c i fs f before within is =
    let split : drop i fs ≡ f ∷ drop (i + 1) fs =
    drop-cons fs i f within ∙ ap (λ g. g ∷ drop (suc i) fs) (sym is) ∙ ap (λ k. f ∷ drop k fs) (sym (add-one i)) in
    let rest = λ (_ : Unit {0}). declare_global_functions (plain_functions (drop (i + 1) fs)) c in
    let apart = subst (λ l. Leaves p s (declare_global_functions (plain_functions l) c) t) split before in
    subst (λ q. Leaves p s q t)
    (sym (bind_assoc (make_function c.strict c.env (plain_function f))
    (declare_global_function c.strict (function_name (plain_function f))) rest)) apart

-- a put, where it was asked for so much
pub put_comes : {s t u : Store} {e : EndOf (Unit {0})} {done holds : Bool} (throwing : Bool) (x : Name) (v : Value)
    → BigStep (put_on s (value.Obj global_object) x v) s t (Ends (gives done))
    → holds ≡ (if throwing then done else true) → BigStep (require holds (codes "cannot write")) t u e
    → BigStep (put throwing (value.Obj global_object) x v) s u e
unfolding put
put_comes {s} {t} {u} {e} {done} {holds} throwing x v first is rest =
    let message = codes "cannot write" in
    let all = comes_on (λ d. require (if throwing then d else true) message) first
    (subst (λ b. BigStep (require b message) t u e) is rest) in
    record { refines = all.refines }

-- a function is bound where its property is ready
pub bound : {s t u : Store} {e : EndOf (Unit {0})} (strict : Bool) (x : Name) (f : ObjId)
    → BigStep (prepare_global x (get_property s global_object.0 x)) s t (Ends (gives tt))
    → BigStep (put strict (value.Obj global_object) x (value.Obj f)) t u e
    → BigStep (declare_global_function strict (Some x) f) s u e
bound strict x f first rest =
    let all = comes_after first rest in
    record { refines = all.refines }

pub bound_thrown : {s t : Store} {w : Value} (strict : Bool) (x : Name) (f : ObjId)
    → BigStep (prepare_global x (get_property s global_object.0 x)) s t (Ends (throws w))
    → BigStep (declare_global_function strict (Some x) f) s t (Ends (throws w))
bound_thrown strict x f first =
    let all = comes_thrown (λ _. put strict (value.Obj global_object) x (value.Obj f)) first in
    record { refines = all.refines }

-- a function is made, and then declared by its name
pub declared : {s t u : Store} {e : EndOf (Unit {0})} (c : Context) (f : Function) (id : ObjId) (name : Option Name)
    → function_name (plain_function f) ≡ name
    → BigStep (make_function c.strict c.env (plain_function f)) s t (Ends (gives id))
    → BigStep (declare_global_function c.strict name id) t u e → BigStep (declare_made (plain_function f) c) s u e
declared {s} {t} {u} {e} c f id name is made rest =
    comes_on (λ i. declare_global_function c.strict (function_name (plain_function f)) i) made
    (subst (λ n. BigStep (declare_global_function c.strict n id) t u e) (sym is) rest)

-- the functions of a program, and then its variables
module _ (b : Body) (fs : List Function) (is : fs ≡ (out-Body b).functions) (c : Context) where
  abbrev code : Code
  code = tree.body (out-Body b).strict (plain_functions (out-Body b).functions)
      (map_forest (λ s. 0) (view_statements (out-Body b).statements))

  pub program_comes : {s t u : Store} {e : EndOf (Unit {0})}
      → BigStep (declare_global_functions (plain_functions fs) c) s t (Ends (gives tt))
      → BigStep (declare_global_variables (variables (plain_code b))) t u e
      → BigStep (declare_program (plain_code b) c) s u e
  unfolding declare_program
  program_comes {s} {t} {u} {e} first rest =
      let functions =
      subst (λ l. BigStep (declare_global_functions (plain_functions l) c) s t (Ends (gives tt))) is first in
      let names = subst (λ k. BigStep (declare_global_variables (variables k)) t u e) (body_plain b) rest in
      let all : BigStep (declare_program code c) s u e = comes_after functions names in
      subst (λ k. BigStep (declare_program k c) s u e) (sym (body_plain b)) all

  pub program_thrown : {s t : Store} {w : Value}
      → BigStep (declare_global_functions (plain_functions fs) c) s t (Ends (throws w))
      → BigStep (declare_program (plain_code b) c) s t (Ends (throws w))
  unfolding declare_program
  program_thrown {s} {t} {w} first =
      let functions =
      subst (λ l. BigStep (declare_global_functions (plain_functions l) c) s t (Ends (throws w))) is first in
      let all : BigStep (declare_program code c) s t (Ends (throws w)) =
      comes_thrown (λ _. declare_global_variables (variables code)) functions in
      subst (λ k. BigStep (declare_program k c) s t (Ends (throws w))) (sym (body_plain b)) all
