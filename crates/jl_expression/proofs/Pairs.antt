-- Pairs of calls of hooks, which begin with a step.
use Rattle.std.proofs.Common.{◌≡◌, List, None, Option, Some, ℕ, ap, refl, subst, sym}
use Rattle.jl_value.specs.declared.value.Value.{Value}
use Rattle.jl_effects.specs.Effects.{Step}
use Rattle.jl_meaning.specs.FunctionObjects.{FunctionTable}
use Rattle.jl_meaning.specs.Parts.{Answer, Context, Exprs, Part}
use Rattle.jl_meaning.specs.forms.HookCalls.{HookCall, Opener}
use Rattle.jl_meaning.specs.forms.Hooks.{call_pair, Arguments}
use Rattle.jl_state.specs.Rest.{RefinesExpression}
use Rattle.jl_state.specs.Steps.{RanOut, Took}
use Rattle.jl_state.specs.Words.{context_of, table_of}
use Rattle.jl_state.specs.declared.act.Act.{Act}
use Rattle.jl_state.specs.declared.act.Act.TheVariants as act
use Rattle.jl_state.specs.declared.calls.Call.{Call}
use Rattle.jl_state.specs.declared.frame.Here.{Here}
use Rattle.jl_state.specs.declared.script_function.ScriptFunction.{ScriptFunction}
use Rattle.jl_state.specs.declared.state.State.{State}
use Rattle.jl_expression.specs.inner.Begun.{arguments, pair_begun}

stepped : (table : FunctionTable) (c : Context) (call : Option (HookCall Opener)) (first : Arguments)
    (second : Part (Answer (List Value)))
    → call_pair table c call first second ≡ Step (pair_begun table c call first second)
stepped table c None first second = refl
stepped table c (Some h) first second = refl

-- none is left
pub spends_no_step : (s t : State) (table : FunctionTable) (c : Context) (call : Option (HookCall Opener))
    (first : Arguments) (second : Part (Answer (List Value))) → RanOut s → t ≡ s
    → RefinesExpression s (call_pair table c call first second) t act.Spent
spends_no_step s t table c call first second ran_out same =
    subst (λ (u : State). RefinesExpression s (call_pair table c call first second) u act.Spent) (sym same)
    (subst (λ (p : Part (Answer Value)). RefinesExpression s p s act.Spent) (sym (stepped table c call first second))
    (ran_out.gives (pair_begun table c call first second)))

module _ (call : Option (HookCall Opener)) (first second : Exprs) (here : Here) where
  abbrev paired : List ScriptFunction → List Call → Part (Answer Value)
  paired functions calls =
      call_pair (table_of functions) (context_of calls here) call
      (arguments (table_of functions) first (context_of calls here))
      (arguments (table_of functions) second (context_of calls here) 0)

  abbrev paired_later : List ScriptFunction → List Call → Part (Answer Value)
  paired_later functions calls =
      pair_begun (table_of functions) (context_of calls here) call
      (arguments (table_of functions) first (context_of calls here))
      (arguments (table_of functions) second (context_of calls here) 0)

  -- one is, which changes neither the functions nor the calls that are running
  pub spends_step : (s t u : State) (a : Act) (n : ℕ) → Took s t → t ≡ record s { left = n }
      → RefinesExpression t (paired_later t.functions t.calls) u a
      → RefinesExpression s (paired s.functions s.calls) u a
  spends_step s t u a n took is refines =
      subst (λ (p : Part (Answer Value)). RefinesExpression s p u a)
      (sym (stepped (table_of s.functions) (context_of s.calls here) call
      (arguments (table_of s.functions) first (context_of s.calls here))
      (arguments (table_of s.functions) second (context_of s.calls here) 0)))
      (took.gives (paired_later s.functions s.calls) u a
      (subst (λ (f : List ScriptFunction). RefinesExpression t (paired_later f s.calls) u a)
      (ap (λ (v : State). v.functions) is)
      (subst (λ (l : List Call). RefinesExpression t (paired_later t.functions l) u a)
      (ap (λ (v : State). v.calls) is) refines)))
