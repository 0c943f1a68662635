-- Calls begun, by what the callee is inside.
use Rattle.std.proofs.Common.{◌≡◌, refl, subst, sym}
use Rattle.jl_value.specs.declared.value.Value.{Value}
use Rattle.jl_heap.specs.Objects.{object_at}
use Rattle.jl_effects.specs.Effects.{Look}
use Rattle.jl_meaning.specs.FunctionObjects.{FunctionTable}
use Rattle.jl_meaning.specs.Parts.{begin_call, Answer, CallOf, Part}
use Rattle.jl_meaning.specs.Parts as parts
use Rattle.jl_meaning.specs.Jobs.{call_inside}
use Rattle.jl_state.specs.Rest.{RefinesExpression}
use Rattle.jl_state.specs.Steps.{RanOut, Took}
use Rattle.jl_state.specs.Words.{table_of}
use Rattle.jl_state.specs.declared.act.Act.{Act}
use Rattle.jl_state.specs.declared.act.Act.TheVariants as act
use Rattle.jl_state.specs.declared.state.State.{State}
use Rattle.jl_state.proofs.Steps.{begins_call}

-- what a call does after its step
abbrev entry : FunctionTable → parts.Call → Part (Answer Value)
entry table call = Look (λ store. call_inside table store.heap call (object_at store.heap call.callee.0).inner)

pub spends : (s t : State) (call : parts.Call) → t ≡ s → RanOut s
    → RefinesExpression s (begin_call CallOf call) t act.Spent
spends s t call same out =
    subst (λ u. RefinesExpression s (begin_call CallOf call) u act.Spent) (sym same)
    (begins_call s call (entry (table_of s.functions) call) s act.Spent refl
    (out.gives (entry (table_of s.functions) call)))

pub begins : (s t : State) (call : parts.Call) (u : State) (a : Act) → Took s t → t.functions ≡ s.functions
    → RefinesExpression t (call_inside (table_of t.functions) t.store.heap call
    (object_at t.store.heap call.callee.0).inner) u a
    → RefinesExpression s (begin_call CallOf call) u a
begins s t call u a took functions refines =
    begins_call s call (entry (table_of s.functions) call) u a refl
    (took.gives (entry (table_of s.functions) call) u a
    (subst (λ f. RefinesExpression t (entry (table_of f) call) u a) functions (record { is = refines.is })))
