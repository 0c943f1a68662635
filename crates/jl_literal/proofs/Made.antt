-- What literals have made.
use Rattle.std.proofs.Common.{◌≡◌, ◌∙◌, Bool, List, Option, None, Some, ℕ, refl, sym, ap}
use Rattle.jl_num.specs.Number.{Number}
use Rattle.jl_ast.specs.View.{view_function}
use Rattle.jl_ast.specs.declared.tree.Function.{Function}
use Rattle.jl_value.specs.declared.ending.Fault.TheVariants.{Misuse}
use Rattle.jl_value.specs.declared.object.Class.{Class}
use Rattle.jl_value.specs.declared.object.Class.TheVariants as class
use Rattle.jl_value.specs.declared.object.ObjId.{ObjId}
use Rattle.jl_value.specs.declared.value.Value.{Value}
use Rattle.jl_value.specs.declared.value.Value.TheVariants as value
use Rattle.jl_heap.specs.Objects.{object_at}
use Rattle.jl_heap.specs.declared.inner.Inner.{Inner}
use Rattle.jl_op.specs.declared.op.Op.{Op}
use Rattle.jl_op.specs.declared.op.Op.TheVariants as op
use Rattle.jl_effects.specs.Running.{Ends}
use Rattle.jl_meaning.specs.FunctionObjects.{make_function_expression, script_number}
use Rattle.jl_meaning.specs.Noting.{note_or_misuse, performs}
use Rattle.jl_meaning.specs.Parts.{gives, lift, ◌>>=◌}
use Rattle.jl_meaning.specs.Store.{Store}
use Rattle.jl_meaning.specs.forms.Literals.{function_literal, literal_of, literal_op, object_literal, of_array}
use Rattle.jl_meaning.specs.forms.Literals.{of_function}
use Rattle.jl_meaning.specs.forms.Literals.{literal, of_object}
use Rattle.jl_store.specs.BigStep.{BigStep}
use Rattle.jl_store.specs.Plain.{plain_function}
use Rattle.jl_state.specs.Rest.{RefinesExpression}
use Rattle.jl_state.specs.Trees.{plain}
use Rattle.jl_state.specs.declared.act.Act.{Act}
use Rattle.jl_state.specs.declared.act.Act.TheVariants as act
use Rattle.jl_state.specs.declared.state.State.{State}
use Rattle.jl_state.proofs.Stores.{gives_comes, IsStored}
use Rattle.jl_state.proofs.Chains.{gives_looked}

abbrev outcome : Option Op → Value → Act
outcome None v = act.Fault Misuse
outcome (Some o) v = act.Give v

ended : (s : State) (v : Value) (o : Option Op) → RefinesExpression s (note_or_misuse performs 0 v o) s (outcome o v)
ended s v None = record { is = λ kept told. refl }
ended s v (Some o) = record { is = λ kept told. refl }

-- the value is given where the operation is of the form's kind
noted : (s : State) (form : Option Op → Option Op) (v : Value) (o : Option Op) → form (literal_op s.store.heap v) ≡ o
    → RefinesExpression s (literal_of form 0 v) s (outcome o v)
unfolding literal_of
noted s form v o is =
    gives_looked s (λ store. note_or_misuse performs 0 v (form (literal_op store.heap v)))
    (note_or_misuse performs 0 v o) s (outcome o v) (ap (note_or_misuse performs 0 v) (sym is)) (ended s v o)

abbrev literal_at : Store → ObjId → Option Op
literal_at store id = object_literal id (object_at store.heap id.0).class (object_at store.heap id.0).inner

seen : (s : State) (store : Store) (form : Option Op → Option Op) (id : ObjId) (o : Option Op) → s.store ≡ store
    → form (literal_at store id) ≡ o → RefinesExpression s (literal_of form 0 (value.Obj id)) s
    (outcome o (value.Obj id))
seen s store form id o same is =
    noted s form (value.Obj id) o (ap (λ (t : Store). form (literal_at t id)) same ∙ is)

-- arrays

no_array_function : (id : ObjId) (o : Option ℕ) → of_array (function_literal id o) ≡ None
no_array_function id None = refl
no_array_function id (Some n) = refl

no_array : (k : Class) (i : Inner) (id : ObjId) → (k ≡ class.Array → ⊥) → of_array (object_literal id k i) ≡ None
no_array class.Array i id differ = absurd (differ refl)
no_array class.Function i id differ = no_array_function id (script_number i)
no_array k i id differ = refl

pub array_given : (s : State) (store : Store) (id : ObjId) (k : Class) → k ≡ (object_at store.heap id.0).class
    → k ≡ class.Array → s.store ≡ store → RefinesExpression s (literal_of of_array 0 (value.Obj id)) s
    (act.Give (value.Obj id))
array_given s store id k of_it is same =
    seen s store of_array id (Some (op.ArrayLiteral id)) same
    (ap (λ c. of_array (object_literal id c (object_at store.heap id.0).inner)) (sym of_it ∙ is))

pub no_array_given : (s : State) (store : Store) (id : ObjId) (k : Class) → k ≡ (object_at store.heap id.0).class
    → (k ≡ class.Array → ⊥) → s.store ≡ store
    → RefinesExpression s (literal_of of_array 0 (value.Obj id)) s (act.Fault Misuse)
no_array_given s store id k of_it differ same =
    seen s store of_array id None same
    (no_array (object_at store.heap id.0).class (object_at store.heap id.0).inner id (λ is. differ (of_it ∙ is)))

-- objects

no_object_function : (id : ObjId) (o : Option ℕ) → of_object (function_literal id o) ≡ None
no_object_function id None = refl
no_object_function id (Some n) = refl

is_object : (k : Class) (i : Inner) (id : ObjId) → (k ≡ class.Array → ⊥) → (k ≡ class.Function → ⊥)
    → of_object (object_literal id k i) ≡ Some (op.ObjectLiteral id)
is_object class.Array i id no_array no_function = absurd (no_array refl)
is_object class.Function i id no_array no_function = absurd (no_function refl)
is_object k i id no_array no_function = refl

pub object_given : (s : State) (store : Store) (id : ObjId) (k : Class) → k ≡ (object_at store.heap id.0).class
    → (k ≡ class.Array → ⊥) → (k ≡ class.Function → ⊥) → s.store ≡ store
    → RefinesExpression s (literal_of of_object 0 (value.Obj id)) s (act.Give (value.Obj id))
object_given s store id k of_it no_array no_function same =
    seen s store of_object id (Some (op.ObjectLiteral id)) same
    (is_object (object_at store.heap id.0).class (object_at store.heap id.0).inner id (λ is. no_array (of_it ∙ is))
    (λ is. no_function (of_it ∙ is)))

pub array_is_no_object : (s : State) (store : Store) (id : ObjId) (k : Class)
    → k ≡ (object_at store.heap id.0).class → k ≡ class.Array → s.store ≡ store
    → RefinesExpression s (literal_of of_object 0 (value.Obj id)) s (act.Fault Misuse)
array_is_no_object s store id k of_it is same =
    seen s store of_object id None same
    (ap (λ c. of_object (object_literal id c (object_at store.heap id.0).inner)) (sym of_it ∙ is))

pub function_is_no_object : (s : State) (store : Store) (id : ObjId) (k : Class)
    → k ≡ (object_at store.heap id.0).class → k ≡ class.Function → s.store ≡ store
    → RefinesExpression s (literal_of of_object 0 (value.Obj id)) s (act.Fault Misuse)
function_is_no_object s store id k of_it is same =
    seen s store of_object id None same
    (ap (λ c. of_object (object_literal id c (object_at store.heap id.0).inner)) (sym of_it ∙ is)
    ∙ no_object_function id (script_number (object_at store.heap id.0).inner))

-- functions

no_function : (k : Class) (i : Inner) (id : ObjId) → (k ≡ class.Function → ⊥)
    → of_function (object_literal id k i) ≡ None
no_function class.Array i id differ = refl
no_function class.Function i id differ = absurd (differ refl)
no_function k i id differ = refl

pub function_given : (s : State) (store : Store) (id : ObjId) (k : Class) (n : ℕ)
    → k ≡ (object_at store.heap id.0).class → k ≡ class.Function
    → script_number (object_at store.heap id.0).inner ≡ Some n → s.store ≡ store
    → RefinesExpression s (literal_of of_function 0 (value.Obj id)) s (act.Give (value.Obj id))
function_given s store id k n of_it is number same =
    seen s store of_function id (Some (op.FunctionLiteral id n)) same
    (ap (λ c. of_function (object_literal id c (object_at store.heap id.0).inner)) (sym of_it ∙ is)
    ∙ ap (λ o. of_function (function_literal id o)) number)

pub no_function_given : (s : State) (store : Store) (id : ObjId) (k : Class)
    → k ≡ (object_at store.heap id.0).class → (k ≡ class.Function → ⊥) → s.store ≡ store
    → RefinesExpression s (literal_of of_function 0 (value.Obj id)) s (act.Fault Misuse)
no_function_given s store id k of_it differ same =
    seen s store of_function id None same
    (no_function (object_at store.heap id.0).class (object_at store.heap id.0).inner id (λ is. differ (of_it ∙ is)))

pub no_script_given : (s : State) (store : Store) (id : ObjId) (k : Class)
    → k ≡ (object_at store.heap id.0).class → k ≡ class.Function
    → script_number (object_at store.heap id.0).inner ≡ None → s.store ≡ store
    → RefinesExpression s (literal_of of_function 0 (value.Obj id)) s (act.Fault Misuse)
no_script_given s store id k of_it is none same =
    seen s store of_function id None same
    (ap (λ c. of_function (object_literal id c (object_at store.heap id.0).inner)) (sym of_it ∙ is)
    ∙ ap (λ o. of_function (function_literal id o)) none)

-- primitive values

pub number_given : (s : State) (n : Number)
    → RefinesExpression s (literal performs 0 (value.Num n)) s (act.Give (value.Num n))
unfolding literal
number_given s n = record { is = λ kept told. refl }

pub text_given : (s : State) (x : List ℕ)
    → RefinesExpression s (literal performs 0 (value.Text x)) s (act.Give (value.Text x))
unfolding literal
text_given s x = record { is = λ kept told. refl }

pub truth_given : (s : State) (b : Bool) → RefinesExpression s (literal performs 0 (value.Bool b)) s
    (act.Give (value.Bool b))
unfolding literal
truth_given s b = record { is = λ kept told. refl }

pub null_given : (s : State) → RefinesExpression s (literal performs 0 value.Null) s (act.Give value.Null)
unfolding literal
null_given s = record { is = λ kept told. refl }

-- a function expression makes its function, which is given
pub function_made : (s t : State) → IsStored s t → (strict : Bool) (env : ℕ) (f : Function) (object : ObjId) (a : Act)
    → BigStep (make_function_expression strict env (plain_function f)) s.store t.store (Ends (gives object))
    → RefinesExpression t (literal_of of_function 0 (value.Obj object)) t a
    → RefinesExpression s (lift (make_function_expression strict env (plain (view_function f)))
    >>= λ object. literal_of of_function 0 (value.Obj object)) t a
function_made s t stored strict env f object a comes refines =
    gives_comes s t stored (make_function_expression strict env (plain_function f)) object
    (λ object. literal_of of_function 0 (value.Obj object)) t a comes refines

pub ruleset primitives = (number_given, text_given, truth_given, null_given)

pub ruleset arrays = (array_given, no_array_given)

pub ruleset objects = (object_given, array_is_no_object, function_is_no_object)

pub ruleset functions = (function_given, no_function_given, no_script_given)
