-- What follows when the observer has been told of an operation.
use Rattle.jl_value.specs.declared.value.Value.{Value}
use Rattle.jl_meaning.specs.Parts.{begin_call, give, lift, ◌>>=◌, Algorithm, CallOf}
use Rattle.jl_op.specs.declared.op.OpId.{OpId}
use Rattle.std.proofs.Common.{◌≡◌, ◌+◌, refl, subst, sym, Bool}
use Rattle.jl_heap.specs.Objects.{Name}
use Rattle.jl_meaning.specs.Putting.{put}
use Rattle.jl_state.specs.Rest.{RefinesExpression, RefinesAlgorithm}
use Rattle.jl_state.specs.Steps.{ValueWaits}
use Rattle.jl_state.specs.EmitFrames.{emit_after}
use Rattle.jl_state.specs.ValueFrames.{value_after}
use Rattle.jl_state.specs.Words.{call_of, table_of}
use Rattle.jl_state.specs.declared.act.Invocation.{Invocation}
use Rattle.jl_state.specs.declared.hook.CallId.{CallId}
use Rattle.jl_state.specs.declared.frame.EmitFrame.TheVariants as told
use Rattle.jl_state.specs.declared.value_frame.ValueFrame.TheVariants as waiting
use Rattle.jl_state.specs.declared.act.Act.{Act}
use Rattle.jl_state.specs.declared.act.Act.TheVariants as act
use Rattle.jl_state.specs.declared.frame.EmitFrame.{EmitFrame}
use Rattle.jl_state.specs.declared.state.State.{State}
use Rattle.jl_state.proofs.Chains.{gives_lifted}

-- an algorithm is done, and then a value given
pub gives_then : {A : Type 0} (s : State) (p : Algorithm A) (v : Value) (t : State) (a : Act)
    → RefinesAlgorithm s (p >>= λ _. give v) t a → RefinesExpression s (lift p >>= λ _. give v) t a
gives_then s p v t a refines = gives_lifted s p (λ _. give v) t a refines

-- a call is made, and what it gives is emitted
pub makes_call : (s t : State) (id : CallId) (post : OpId) (c : Invocation) → post ≡ record { 0 = id.pre + 1 }
    → ValueWaits s (waiting.EmitInvoke post c.callee) t
    → RefinesExpression s (emit_after (told.Invoke id c)) t (act.Call c)
makes_call s t id post c is waits =
    subst (λ (i : OpId). RefinesExpression s (begin_call CallOf (call_of c)
    >>= value_after (table_of s.functions) s.calls (waiting.EmitInvoke i c.callee)) t (act.Call c)) is
    (waits.gives (begin_call CallOf (call_of c)) t (act.Call c) (record { is = λ kept before. refl }))

-- a value is put to a member, and then one given
pub puts_told : (s t : State) (a : Act) (f : EmitFrame) (base : Value) (x : Name) (v : Value) (strict : Bool)
    (given : Value) → f ≡ told.Put base x v strict given
    → RefinesAlgorithm s (put strict base x v >>= λ _. give given) t a
    → RefinesExpression s (emit_after f) t a
puts_told s t a f base x v strict given is refines =
    subst (λ (g : EmitFrame). RefinesExpression s (emit_after g) t a) (sym is)
    (gives_then s (put strict base x v) given t a refines)
