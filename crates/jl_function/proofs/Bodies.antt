-- Bodies of functions, each in a call that is the innermost one.
use Rattle.std.proofs.Common.{◌≡◌, ◌∷◌, ◌∙◌, ap, refl, subst, sym, Bool, List, ℕ}
use mathlib.Core.Path.{fun_ext}
use Rattle.jl_ast.specs.View.{view_function, view_statements}
use Rattle.jl_ast.specs.declared.tree.Body.{out-Body}
use Rattle.jl_ast.specs.declared.tree.Function.{Function, out-Function}
use Rattle.jl_value.specs.declared.ending.Completion.{Completion}
use Rattle.jl_value.specs.declared.value.Value.{Value}
use Rattle.jl_op.specs.Operations.{Operation}
use Rattle.jl_effects.specs.Effects.{and_then, End}
use Rattle.jl_effects.specs.Running.{outcome_then, run, RunState}
use Rattle.jl_effects.specs.Traces.{quietly}
use Rattle.jl_effects.proofs.Chains.{and_then-assoc, run-and_then}
use Rattle.jl_meaning.specs.FunctionObjects.{function_body, FunctionTable, ScriptFunction}
use Rattle.jl_meaning.specs.Mean.{language}
use Rattle.jl_meaning.specs.Parts.{Answer, Context, Part}
use Rattle.jl_meaning.specs.Parts as parts
use Rattle.jl_meaning.specs.Statements.{execute_all}
use Rattle.jl_meaning.specs.Store.{Store}
use Rattle.jl_meaning.specs.forms.Functions.{leave_function, result_of, run_body, run_function}
use Rattle.jl_meaning.specs.Jobs.{job}
use Rattle.jl_state.specs.Rest.{as_completion, as_value, given_of, continuation, continuation_of, run_in, run_state}
use Rattle.jl_state.specs.Rest.{RefinesStatement, RefinesExpression}
use Rattle.jl_state.specs.Rest.{Completion-given}
use Rattle.jl_state.specs.Trees.{plain, plain_forest}
use Rattle.jl_state.specs.Words.{context_of, table_of}
use Rattle.jl_state.specs.declared.act.Act.{Act}
use Rattle.jl_state.specs.declared.calls.Call.{Call}
use Rattle.jl_state.specs.declared.frame.Frame.{Frame}
use Rattle.jl_state.specs.declared.frame.Frame.TheVariants as frame
use Rattle.jl_state.specs.declared.frame.Here.{Here}
use Rattle.jl_state.specs.declared.state.State.{State}
use Rattle.jl_store.proofs.Trees.{body_is_plain, body_plain}
use Rattle.jl_function.specs.inner.Entered.{body_result}

-- the end of a body is what its function gives where the call was made
body_same : (table : FunctionTable) (calls : List Call) (frames : List Frame) (call : Call) (p : Part Completion)
    → and_then (as_completion p) (continuation table (call ∷ calls) (frame.Body ∷ frames))
    ≡ and_then (as_value (and_then p result_of)) (continuation table calls frames)
body_same table calls frames call p =
    and_then-assoc p (λ how. End (Completion-given how)) (continuation table (call ∷ calls) (frame.Body ∷ frames))
    ∙ ap (and_then p) (fun_ext (λ how.
    and_then-assoc (result_of how) (λ a. End (given_of a)) (continuation table calls frames)))
    ∙ sym (and_then-assoc p result_of (λ a. continuation table calls frames (given_of a)))
    ∙ sym (and_then-assoc (and_then p result_of) (λ a. End (given_of a)) (continuation table calls frames))

-- t is s with one more call, for whose body a frame waits
body_waits : (s t : State) (call : Call) (p : Part Completion) (u : State) (a : Act)
    → t ≡ record s { calls = call ∷ s.calls; stack = frame.Body ∷ s.stack } → RefinesStatement t p u a
    → RefinesExpression s (and_then p result_of) u a
body_waits s t call p u a is refines = record {
  is = λ kept told.
      refines.is kept told
      ∙ ap (λ (v : State). run_in kept told v (and_then (as_completion p) (continuation_of v))) is
      ∙ ap (λ q. run_in kept told s q) (body_same (table_of s.functions) s.calls s.stack call p);
}

-- the statements of a body
statements_are : (table : FunctionTable) (f : Function) (c : Context)
    → run_body table (function_body (plain (view_function f))) c
    ≡ execute_all table (plain_forest (view_statements (out-Body (out-Function f).body).statements)) c
statements_are table f c =
    ap (λ b. run_body table b c) (body_is_plain f ∙ body_plain (out-Function f).body)

-- the statements of a body, in a call that was begun
pub runs_body : (s : State) (calls : List Call) (frames : List Frame) (f : Function) (here : Here) (call : Call)
    (u : State) (a : Act) → calls ≡ call ∷ s.calls → frames ≡ frame.Body ∷ s.stack
    → RefinesStatement (record s { calls = calls; stack = frames })
    (execute_all (table_of s.functions) (plain_forest (view_statements (out-Body (out-Function f).body).statements))
    (context_of calls here)) u a
    → RefinesExpression s (body_result (table_of s.functions) (plain (view_function f))
    (context_of (call ∷ s.calls) here)) u a
runs_body s calls frames f here call u a begun waits refines =
    subst (λ p. RefinesExpression s (and_then p result_of) u a)
    (sym (statements_are (table_of s.functions) f (context_of (call ∷ s.calls) here)))
    (body_waits s (record s { calls = calls; stack = frames }) call _ u a
    (ap (λ l. record s { calls = l; stack = frames }) begun
    ∙ ap (λ l. record s { calls = call ∷ s.calls; stack = l }) waits)
    (subst (λ l. RefinesStatement (record s { calls = calls; stack = frames })
    (execute_all (table_of s.functions) (plain_forest (view_statements (out-Body (out-Function f).body).statements))
    (context_of l here)) u a) begun refines))

-- that a function is left is an operation of the script's own
left_alike : (s : State) (f : ScriptFunction) (p : Part Completion) (kept : Operation → Bool) (told : List Operation)
    → run_in kept told s (and_then (as_value (and_then p result_of)) (continuation_of s))
    ≡ run_in kept told s (and_then (as_value (and_then p (leave_function f))) (continuation_of s))
left_alike s f p kept told =
    ap (λ q. run_in kept told s q) (apart result_of)
    ∙ run-and_then language (quietly kept) (job (table_of s.functions)) (later result_of) s.left p (run_state told s)
    ∙ ap (outcome_then (run language (quietly kept) (job (table_of s.functions)) s.left p (run_state told s)))
    (fun_ext (λ how. fun_ext (λ n. fun_ext (λ w. each how n w))))
    ∙ sym (run-and_then language (quietly kept) (job (table_of s.functions)) (later (leave_function f)) s.left p
    (run_state told s))
    ∙ sym (ap (λ q. run_in kept told s q) (apart (leave_function f)))
  where
    later : (Completion → Part (Answer Value)) → Completion → Part Completion
    later k how = and_then (as_value (k how)) (continuation_of s)

    apart : (k : Completion → Part (Answer Value))
        → and_then (as_value (and_then p k)) (continuation_of s) ≡ and_then p (later k)
    apart k =
        ap (λ q. and_then q (continuation_of s)) (and_then-assoc p k (λ a. End (given_of a)))
        ∙ and_then-assoc p (λ how. as_value (k how)) (continuation_of s)

    each : (how : Completion) (n : ℕ) (w : RunState Store Operation)
        → run language (quietly kept) (job (table_of s.functions)) n (later result_of how) w
        ≡ run language (quietly kept) (job (table_of s.functions)) n (later (leave_function f) how) w
    each how n w = refl

-- a function that has been entered runs, as its body does
pub runs_function : (s : State) (f : ScriptFunction) (this : Value) (call : parts.Call) (c : Context) (t : State)
    (a : Act) → RefinesExpression s (body_result (table_of s.functions) f.func c) t a
    → RefinesExpression s (run_function (table_of s.functions) f this call c) t a
runs_function s f this call c t a refines = record {
  is = λ kept told.
      refines.is kept told ∙ left_alike s f (run_body (table_of s.functions) (function_body f.func) c) kept told;
}
