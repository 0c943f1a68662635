-- Functions of the script that are entered.
use Rattle.std.proofs.Common.{◌≡◌, ◌<◌, ◌∷◌, ◌∙◌, ap, get_or, length, refl, subst, sym, Bool, List, Some, ℕ}
use Rattle.std.specs.Prelude.{option_map, slice_get}
use Rattle.std.proofs.lemmas.Option.{slice_get-map, slice_get_read}
use Rattle.jl_ast.specs.Table.{number_of}
use Rattle.jl_ast.specs.Tree as tree
use Rattle.jl_ast.specs.Tree.{Forest}
use Rattle.jl_ast.specs.declared.tree.Function.{out-Function}
use Rattle.jl_scope.specs.Hoisting.{variables}
use Rattle.jl_value.specs.declared.ending.Completion.TheVariants as completion
use Rattle.jl_value.specs.declared.object.ObjId.{ObjId}
use Rattle.jl_value.specs.declared.value.Value.{Value}
use Rattle.jl_value.specs.declared.value.Value.TheVariants as value
use Rattle.jl_heap.specs.Objects.{Name}
use Rattle.jl_effects.specs.Running.{Ends}
use Rattle.jl_meaning.specs.Changes.{NewEnvironment}
use Rattle.jl_meaning.specs.DeclarationBinding.{bind_arguments_if_used, bind_parameters, declare_body}
use Rattle.jl_meaning.specs.DeclarationBinding.{declare_function, declare_functions, declare_variables}
use Rattle.jl_meaning.specs.FunctionObjects.{function_body, function_name, function_params, make_function}
use Rattle.jl_meaning.specs.FunctionObjects.{ScriptFunction}
use Rattle.jl_meaning.specs.Parts.{give, gives, throws, ◌>>=◌, Algorithm, Code, Context}
use Rattle.jl_meaning.specs.Parts as parts
use Rattle.jl_meaning.specs.Store.{next_environment, Store}
use Rattle.jl_meaning.specs.forms.Functions.{call_script, enter_function, function_context, this_within}
use Rattle.jl_meaning.specs.Conversions.{to_object}
use Rattle.jl_store.specs.Answers.{ends_with}
use Rattle.jl_store.specs.Changes.{after}
use Rattle.jl_store.specs.BigStep.{BigStep}
use Rattle.jl_store.specs.Plain.{code_in}
use Rattle.jl_store.specs.declared.answer.Answer.{Answer as Answered}
use Rattle.jl_store.specs.declared.answer.Answer.TheVariants as answer
use Rattle.jl_store.proofs.Chains.{comes_after, comes_on, comes_thrown}
use Rattle.jl_store.proofs.Trees.{plain_is}
use Rattle.jl_state.specs.Rest.{RefinesExpression}
use Rattle.jl_state.specs.Words.{call_of, context_of, function_of, table_of}
use Rattle.jl_state.specs.declared.act.Act.{Act}
use Rattle.jl_state.specs.declared.act.Act.TheVariants as act
use Rattle.jl_state.specs.declared.act.Invocation.{Invocation}
use Rattle.jl_state.specs.declared.calls.Call.{Call}
use Rattle.jl_state.specs.declared.script_function.ScriptFunction.{ScriptFunction as Known}
use Rattle.jl_state.specs.declared.state.State.{State}
use Rattle.jl_state.proofs.Stores.{gives_comes, gives_thrown}
use Rattle.jl_function.specs.inner.Entered.{body_result, call_if_known, this_as_object}
use Rattle.jl_function.proofs.Bodies.{runs_function}

-- the function with a number

pub known : (l : List Known) (n : ℕ) (f : Known) → slice_get l n ≡ Some f
    → slice_get (table_of l) n ≡ Some (function_of f)
known l n f is = slice_get-map function_of l n ∙ ap (option_map function_of) is

pub found_at : (l k : List Known) (n : ℕ) (f : Known) → k ≡ l → n < length k → f ≡ get_or k n f → slice_get l n ≡ Some f
found_at l k n f is below at = ap (λ m. slice_get m n) (sym is) ∙ slice_get_read k (length k) n f refl below at

-- what a function declares doesn't depend on the call in which it does

functions_alike : (fs : Forest ℕ tree.func) (c : Context)
    → declare_functions fs (code_in c.env c.strict) ≡ declare_functions fs c
functions_alike tree.end c = refl
functions_alike (tree.more f l) c =
    ap (λ p. make_function c.strict c.env f >>= λ id. declare_function c.env (function_name f) id >>= λ _. p)
    (functions_alike l c)

declares_alike : (b : Code) (strict : Bool) (callee : ObjId) (params : List Name) (args : List Value) (c : Context)
    → declare_body b strict callee params args (code_in c.env c.strict) ≡ declare_body b strict callee params args c
unfolding declare_body
declares_alike (tree.body s fs l) strict callee params args c =
    ap (λ p. bind_parameters c.env params args >>= λ _. p >>= λ _.
    bind_arguments_if_used (tree.body s fs l) strict callee c.env params args >>= λ _.
    declare_variables c.env (variables (tree.body s fs l))) (functions_alike fs c)

-- a function is entered: a new environment, and then what its body declares
pub enters : (s t u : Store) (f : ScriptFunction) (b : Code) (params : List Name) (args : List Value)
    (env inside : ℕ) (call : parts.Call) (this : Value) → inside ≡ next_environment s
    → t ≡ after (NewEnvironment env) s → function_body f.func ≡ b → function_params f.func ≡ params → args ≡ call.args
    → BigStep (declare_body b f.strict call.callee params args (code_in inside f.strict)) t u (Ends (gives tt))
    → BigStep (enter_function f env this call) s u (Ends (gives (function_context f inside this call)))
unfolding enter_function
enters s t u f b params args env inside call this next made body_is params_is args_are declared =
    subst (λ n. BigStep (enter_function f env this call) s u (Ends (gives (function_context f n this call)))) (sym next)
    (record { refines = (comes_after there (record { refines = (refl, refl) })).refines })
  where
    declares : Code → List Name → ℕ → Algorithm (Unit {0})
    declares d xs n = declare_body d f.strict call.callee xs call.args (function_context f n this call)

    in_call : BigStep (declares b params inside) t u (Ends (gives tt))
    in_call =
        subst (λ p. BigStep p t u (Ends (gives tt)))
        (declares_alike b f.strict call.callee params call.args (function_context f inside this call))
        (subst (λ l. BigStep (declare_body b f.strict call.callee params l (code_in inside f.strict)) t u
        (Ends (gives tt))) args_are declared)

    of_function : BigStep (declares (function_body f.func) (function_params f.func) inside) t u (Ends (gives tt))
    of_function =
        subst (λ d. BigStep (declares d (function_params f.func) inside) t u (Ends (gives tt))) (sym body_is)
        (subst (λ xs. BigStep (declares b xs inside) t u (Ends (gives tt))) (sym params_is) in_call)

    there : BigStep (declares (function_body f.func) (function_params f.func) (next_environment s))
        (after (NewEnvironment env) s) u (Ends (gives tt))
    there =
        subst (λ n. BigStep (declares (function_body f.func) (function_params f.func) n)
        (after (NewEnvironment env) s) u
        (Ends (gives tt))) next
        (subst (λ v. BigStep (declares (function_body f.func) (function_params f.func) inside) v u
        (Ends (gives tt))) made
        of_function)

-- where a body runs is where the function was entered
pub context_is : (f : Known) (inside : ℕ) (this : Value) (call : Invocation) (args : ℕ) (calls : List Call)
    → args ≡ length call.args
    → context_of (record {
      function = (out-Function f.function.now).number;
      this = this;
      args = args;
      by_new = call.by_new;
    } ∷ calls) (record { env = inside; strict = f.is_strict })
    ≡ function_context (function_of f) inside this (call_of call)
context_is f inside this call args calls counted =
    ap (λ n. with_number n args) (sym (ap number_of (plain_is f.function.now)))
    ∙ ap (λ n. with_number (number_of (function_of f).func) n) counted
  where
    with_number : (number count : ℕ) → Context
    with_number number count = record {
      env = inside;
      strict = f.is_strict;
      call = Some (record { function = number; this = this; args = count; by_new = call.by_new });
    }

-- the function is called: `this`, the entry, and the body one after another
module _ (s : State) (x y : Store) (f : ScriptFunction) (env inside : ℕ) (call : parts.Call) (this : Value) where
  abbrev entered : State
  entered = record s { store = y }

  pub calls_script : (c : Context) (t : State) (a : Act) (r : Answered Value)
      → BigStep (this_within f.strict call.this) s.store x (ends_with r) → r ≡ answer.Gives this
      → BigStep (enter_function f env this call) x y (Ends (gives (function_context f inside this call)))
      → c ≡ function_context f inside this call
      → RefinesExpression entered (body_result (table_of s.functions) f.func c) t a
      → RefinesExpression s (call_script (table_of s.functions) f env call) t a
  calls_script c t a r comes given entry is refines =
      gives_comes s (record s { store = x }) refl (this_within f.strict call.this) this _ t a
      (subst (λ b. BigStep (this_within f.strict call.this) s.store x (ends_with b)) given comes)
      (gives_comes (record s { store = x }) entered refl (enter_function f env this call)
      (function_context f inside this call) _ t a entry
      (runs_function entered f this call (function_context f inside this call) t a
      (subst (λ d. RefinesExpression entered (body_result (table_of s.functions) f.func d) t a) is refines)))

-- where `this` can't be an object, nothing is called
pub throws_this : (s : State) (x : Store) (f : ScriptFunction) (env : ℕ) (call : parts.Call) (v : Value)
    (r : Answered Value) → BigStep (this_within f.strict call.this) s.store x (ends_with r) → r ≡ answer.Throws v
    → RefinesExpression s (call_script (table_of s.functions) f env call) (record s { store = x })
    (act.Complete (completion.Throw v))
throws_this s x f env call v r comes is =
    gives_thrown s (record s { store = x }) refl (this_within f.strict call.this) v _
    (subst (λ b. BigStep (this_within f.strict call.this) s.store x (ends_with b)) is comes)

-- the same of a function with a number

pub calls_known : (s : State) (number env : ℕ) (call : parts.Call) (f : Known) (t : State) (a : Act)
    → slice_get s.functions number ≡ Some f
    → RefinesExpression s (call_script (table_of s.functions) (function_of f) env call) t a
    → RefinesExpression s (call_if_known (table_of s.functions) (slice_get (table_of s.functions) number) env call) t a
calls_known s number env call f t a found refines =
    subst (λ o. RefinesExpression s (call_if_known (table_of s.functions) o env call) t a)
    (sym (known s.functions number f found))
    refines

-- `this` as an object

pub object_is : (v : Value) (s t : Store) (r : Answered ObjId) (id : ObjId)
    → BigStep (to_object v) s t (ends_with r) → r ≡ answer.Gives id
    → BigStep (this_as_object v) s t (Ends (gives (value.Obj id)))
object_is v s t r id comes is =
    comes_on (λ i. give (value.Obj i)) (subst (λ b. BigStep (to_object v) s t (ends_with b)) is comes)
    (record { refines = (refl, refl) })

pub no_object : (v : Value) (s t : Store) (r : Answered ObjId) (thrown : Value)
    → BigStep (to_object v) s t (ends_with r) → r ≡ answer.Throws thrown
    → BigStep (this_as_object v) s t (Ends (throws thrown))
no_object v s t r thrown comes is =
    comes_thrown (λ i. give (value.Obj i)) (subst (λ b. BigStep (to_object v) s t (ends_with b)) is comes)
