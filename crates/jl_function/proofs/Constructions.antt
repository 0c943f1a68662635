-- Constructions by functions of the script.
use Rattle.std.proofs.Common.{◌≡◌, ◌∙◌, ap, codes, refl, subst, sym, List, None, Option, Some, ℕ}
use Rattle.std.specs.Prelude.{if◌then◌else◌, is_some, slice_get, true}
use mathlib.Core.Path.{fun_ext}
use Rattle.jl_value.specs.Tests.{is_object}
use Rattle.jl_value.specs.declared.object.Class.TheVariants as class
use Rattle.jl_value.specs.declared.object.ObjId.{ObjId}
use Rattle.jl_value.specs.declared.value.Value.{Value}
use Rattle.jl_value.specs.declared.value.Value.TheVariants as value
use Rattle.jl_heap.specs.Objects.{Name}
use Rattle.jl_heap.specs.declared.inner.Inner.TheVariants as inner
use Rattle.jl_effects.specs.Effects.{and_then}
use Rattle.jl_effects.specs.Running.{Ends}
use Rattle.jl_effects.proofs.Chains.{and_then-assoc, row-and_then}
use Rattle.jl_meaning.specs.Changes.{NewObject}
use Rattle.jl_meaning.specs.FunctionObjects.{FunctionTable, ScriptFunction}
use Rattle.jl_meaning.specs.Getting.{get}
use Rattle.jl_meaning.specs.Parts.{fault_of, give, continue_with, gives, lift, new_object, throws, ◌>>=◌, Algorithm}
use Rattle.jl_meaning.specs.Parts.{Answer, CallOf, Part}
use Rattle.jl_meaning.specs.Parts as parts
use Rattle.jl_meaning.specs.Store.{next_object, Store}
use Rattle.jl_meaning.specs.forms.Functions.{call_script, construct_script, new_instance, prototype_for}
use Rattle.jl_store.specs.Changes.{after}
use Rattle.jl_state.specs.Rest.{RefinesExpression, RefinesAlgorithm}
use Rattle.jl_state.specs.Steps.{ValueWaits}
use Rattle.jl_state.specs.ValueFrames.{value_after}
use Rattle.jl_state.specs.Words.{call_of, function_of, table_of}
use Rattle.jl_state.specs.declared.act.Act.{Act}
use Rattle.jl_state.specs.declared.act.Invocation.{Invocation}
use Rattle.jl_state.specs.declared.calls.Call.{Call}
use Rattle.jl_state.specs.declared.script_function.ScriptFunction.{ScriptFunction as Known}
use Rattle.jl_state.specs.declared.state.State.{State}
use Rattle.jl_state.specs.declared.value_frame.ValueFrame.TheVariants as waiting
use Rattle.jl_state.proofs.Stores.{gives_comes}
use Rattle.jl_function.specs.inner.Entered.{call_if_known, construct_if_known}
use Rattle.jl_function.proofs.Entries.{known}

-- the new object, with its prototype, is what the function is called with
abbrev with_object : FunctionTable → ScriptFunction → (env : ℕ) → parts.Call → ObjId → Part (Answer Value)
with_object table f env call id =
    call_script table f env (record call { this = value.Obj id })
    >>= λ v. give (if is_object v then v else value.Obj id)

abbrev with_prototype : FunctionTable → ScriptFunction → (env : ℕ) → parts.Call → (proto : Value)
    → Part (Answer Value)
with_prototype table f env call proto =
    lift (new_object class.Object (Some (prototype_for proto)) inner.Nothing) >>= with_object table f env call

abbrev prototype_of : parts.Call → Algorithm Value
prototype_of call = get (value.Obj call.callee) (codes "prototype")

-- the prototype is got, and then the rest is done with it
construct_is : (table : FunctionTable) (f : ScriptFunction) (env : ℕ) (call : parts.Call)
    → (lift (prototype_of call) >>= with_prototype table f env call) ≡ construct_script table f env call
unfolding new_instance
construct_is table f env call =
    ap (and_then (lift (prototype_of call))) (fun_ext each)
    ∙ sym (and_then-assoc (lift (prototype_of call)) (λ a. lift (continue_with made a)) (continue_with constructed))
    ∙ ap (λ q. and_then q (continue_with constructed))
    (sym (row-and_then CallOf fault_of (prototype_of call) (continue_with made)))
  where
    made : Value → Algorithm Value
    made proto =
        new_object class.Object (Some (prototype_for proto)) inner.Nothing >>= λ id. give (value.Obj id)

    constructed : Value → Part (Answer Value)
    constructed object =
        call_script table f env (record call { this = object }) >>= λ v. give (if is_object v then v else object)

    each : (a : Answer Value)
        → continue_with (with_prototype table f env call) a
        ≡ and_then (lift (continue_with made a)) (continue_with constructed)
    each (gives proto) = refl
    each (throws v) = refl

-- what the frame that waits for the prototype does with it

after_prototype : (table : FunctionTable) (calls : List Call) (number env : ℕ) (call : Invocation) (f : ScriptFunction)
    (proto : Value) → slice_get table number ≡ Some f
    → value_after table calls (waiting.InstancePrototype number env call) proto
    ≡ with_prototype table f env (call_of call) proto
after_prototype table calls number env call f proto is = rw is refl

-- the function with a number, if there is one
there : (l : List Known) (n : ℕ) → is_some (slice_get l n) ≡ true
    → (f : ScriptFunction) × (slice_get (table_of l) n ≡ Some f)
there l n some = by (slice_get l n) refl some
  where
    by : (o : Option Known) → slice_get l n ≡ o → is_some o ≡ true
        → (f : ScriptFunction) × (slice_get (table_of l) n ≡ Some f)
    by (Some f) is e = (function_of f, known l n f is)
    by None is e = absurd (let differ = e in cc)

pub begins_construction : (s u : State) (number env : ℕ) (call : Invocation) (name : Name) (t : State) (a : Act)
    → is_some (slice_get s.functions number) ≡ true → name ≡ codes "prototype"
    → ValueWaits s (waiting.InstancePrototype number env call) u
    → RefinesAlgorithm u (get (value.Obj call.callee) name) t a
    → RefinesExpression s (construct_if_known (table_of s.functions) (slice_get (table_of s.functions) number) env
    (call_of call))
    t a
begins_construction s u number env call name t a some is waits refines =
    let f = there s.functions number some in
    subst (λ o. RefinesExpression s (construct_if_known (table_of s.functions) o env (call_of call)) t a) (sym f.1)
    (subst (λ p. RefinesExpression s p t a) (construct_is (table_of s.functions) f.0 env (call_of call))
    (subst (λ (k : Value → Part (Answer Value)). RefinesExpression s (lift (prototype_of (call_of call)) >>= k) t a)
    (fun_ext (λ proto. after_prototype (table_of s.functions) s.calls number env call f.0 proto f.1))
    (waits.works (get (value.Obj call.callee) (codes "prototype")) t a
    (subst (λ x. RefinesAlgorithm u (get (value.Obj call.callee) x) t a) is refines))))

-- the object is made, with which the function is called
pub goes_on_with : (s : State) (x : Store) (u : State) (number env : ℕ) (call : Invocation) (proto : Value)
    (made : ObjId) (t : State) (a : Act) → is_some (slice_get s.functions number) ≡ true → made ≡ next_object s.store
    → x ≡ after (NewObject class.Object (Some (prototype_for proto)) inner.Nothing) s.store
    → ValueWaits (record s { store = x }) (waiting.Constructed (value.Obj made)) u → u.functions ≡ s.functions
    → RefinesExpression u (call_if_known (table_of u.functions) (slice_get (table_of u.functions) number) env
    (record (call_of call) { this = value.Obj made })) t a
    → RefinesExpression s (value_after (table_of s.functions) s.calls
    (waiting.InstancePrototype number env call) proto) t a
goes_on_with s x u number env call proto made t a some next is waits functions refines =
    let f = there s.functions number some in
    subst (λ p. RefinesExpression s p t a)
    (sym (after_prototype (table_of s.functions) s.calls number env call f.0 proto f.1))
    (gives_comes s (record s { store = x }) refl
    (new_object class.Object (Some (prototype_for proto)) inner.Nothing) made
    (with_object (table_of s.functions) f.0 env (call_of call)) t a
    (record { refines = (ap (λ i. Ends (gives i)) (sym next), sym is) })
    (subst (λ o. RefinesExpression (record s { store = x })
    (call_if_known (table_of s.functions) o env (record (call_of call) { this = value.Obj made })
    >>= λ v. give (if is_object v then v else value.Obj made)) t a) f.1
    (waits.gives (call_if_known (table_of s.functions) (slice_get (table_of s.functions) number) env
    (record (call_of call) { this = value.Obj made })) t a
    (subst (λ l. RefinesExpression u (call_if_known (table_of l) (slice_get (table_of l) number) env
    (record (call_of call) { this = value.Obj made })) t a) functions refines))))
