-- Calls by the function that a callee is, and calls of which no hook tells.
use Rattle.std.proofs.Common.{◌≡◌, ◌∙◌, ◌+◌, refl, sym, ap, subst, true, false, Bool, List, None, Option, Some, ℕ}
use Rattle.std.proofs.Common.{if◌then◌else◌}
use Rattle.jl_value.specs.declared.error_kind.ErrorKind.TheVariants.{TypeError}
use Rattle.jl_value.specs.declared.object.ObjId.{ObjId}
use Rattle.jl_value.specs.declared.value.Value.{Value}
use Rattle.jl_value.specs.declared.value.Value.TheVariants as value
use Rattle.jl_heap.specs.Describe.{seen_of}
use Rattle.jl_heap.specs.Objects.{object_at, Objects}
use Rattle.jl_op.specs.declared.op.Op.TheVariants as op
use Rattle.jl_effects.specs.Effects.{Look, Perform}
use Rattle.jl_algorithm.proofs.Throwing.{gives_left_out}
use Rattle.jl_meaning.specs.Errors.{throw_error, throw_type_error}
use Rattle.jl_meaning.specs.Noting.{emits}
use Rattle.jl_meaning.specs.Parts.{begin_call, give, lift, ◌>>=◌, Algorithm, Answer, CallOf, Part}
use Rattle.jl_meaning.specs.Store.{Store}
use Rattle.jl_meaning.specs.forms.Calls.{can_be_called, function_of, invoke, no_function}
use Rattle.jl_state.specs.Rest.{RefinesExpression, RefinesAlgorithm}
use Rattle.jl_state.specs.Words.{call_of, noting, table_of}
use Rattle.jl_state.specs.declared.act.Act.{Act}
use Rattle.jl_state.specs.declared.act.Act.TheVariants as act
use Rattle.jl_state.specs.declared.act.Invocation.{Invocation}
use Rattle.jl_state.specs.declared.state.State.{State}
use Rattle.jl_state.proofs.Steps.{gives_noted}
use Rattle.jl_call.specs.inner.Invoked.{function_found, invoke_function}
use Rattle.jl_state.proofs.Chains.{gives_looked}

abbrev given_or_thrown : (by_new : Bool) → Option ObjId → Algorithm ObjId
given_or_thrown by_new (Some f) = give f
given_or_thrown by_new None = throw_type_error (no_function by_new)

-- the function that is found is the one of the language
function_is : (by_new : Bool) (heap : Objects) (v : Value)
    → given_or_thrown by_new (function_found by_new heap v) ≡ function_of by_new heap v
function_is by_new heap value.Undefined = refl
function_is by_new heap value.Null = refl
function_is by_new heap (value.Bool b) = refl
function_is by_new heap (value.Num n) = refl
function_is by_new heap (value.Text units) = refl
function_is by_new heap (value.Obj id) = by (can_be_called by_new (object_at heap id.0).inner)
  where
    by : (b : Bool) → given_or_thrown by_new (if b then Some id else None)
        ≡ (if b then give id else throw_type_error (no_function by_new))
    by true = refl
    by false = refl

module _ (s t : State) (a : Act) (emitting : Bool) (id : ℕ) (callee this : Value) (args : List Value)
    (by_new : Bool) where
  abbrev called : ObjId → Part (Answer Value)
  called f = invoke_function (table_of s.functions) (noting emitting) id
      (record { callee = f; this = this; args = args; by_new = by_new })

  by_found : (o : Option ObjId) → o ≡ function_found by_new s.store.heap callee
      → RefinesExpression s (lift (given_or_thrown by_new o) >>= called) t a
      → RefinesExpression s (invoke (table_of s.functions) (noting emitting) id callee this args by_new) t a
  unfolding invoke
  by_found o is refines =
      gives_looked s (λ (store : Store). lift (function_of by_new store.heap callee) >>= called)
      (lift (given_or_thrown by_new o) >>= called) t a
      (ap (λ (q : Option ObjId). lift (given_or_thrown by_new q) >>= called) is
      ∙ ap (λ (p : Algorithm ObjId). lift p >>= called) (function_is by_new s.store.heap callee))
      refines

  -- the callee is this function
  pub invokes : (f : ObjId) → Some f ≡ function_found by_new s.store.heap callee → RefinesExpression s (called f) t a
      → RefinesExpression s (invoke (table_of s.functions) (noting emitting) id callee this args by_new) t a
  invokes f is refines = by_found (Some f) is refines

  -- it is none
  pub refuses : (message : List ℕ) → message ≡ no_function by_new → None ≡ function_found by_new s.store.heap callee
      → RefinesAlgorithm s (throw_error TypeError message) t a
      → RefinesExpression s (invoke (table_of s.functions) (noting emitting) id callee this args by_new) t a
  refuses message same is refines =
      by_found None is
      (gives_left_out s TypeError (no_function by_new) called t a
      (subst (λ m. RefinesAlgorithm s (throw_error TypeError m) t a) same refines))

-- a call of which a hook tells
pub invokes_telling : (s t : State) (a : Act) (emitting : Bool) (id : ℕ) (c : Invocation) → emitting ≡ true
    → RefinesExpression s (invoke_function (table_of s.functions) emits id (call_of c)) t a
    → RefinesExpression s (invoke_function (table_of s.functions) (noting emitting) id (call_of c)) t a
invokes_telling s t a emitting id c is refines =
    subst (λ (b : Bool). RefinesExpression s (invoke_function (table_of s.functions) (noting b) id (call_of c)) t a)
    (sym is) refines

-- a call of which no hook tells
pub invokes_silently : (s : State) (emitting : Bool) (id : ℕ) (c : Invocation) → emitting ≡ false
    → RefinesExpression s (invoke_function (table_of s.functions) (noting emitting) id (call_of c)) s (act.Call c)
invokes_silently s emitting id c is =
    subst (λ (b : Bool). RefinesExpression s (invoke_function (table_of s.functions) (noting b) id (call_of c)) s
    (act.Call c))
    (sym is) (record { is = noted.is })
  where
    noted : RefinesExpression s (begin_call CallOf (call_of c) >>= λ v. Look (λ store.
        Perform (record { 0 = id + 1 }, op.InvokePost c.callee (seen_of store.heap v)) (give v))) s (act.Call c)
    noted =
        gives_noted s (λ store v. (record { 0 = id + 1 }, op.InvokePost c.callee (seen_of store.heap v)))
        (begin_call CallOf (call_of c)) s (act.Call c) (record { is = λ kept told. refl })

pub ruleset invocations = (invokes, refuses)
