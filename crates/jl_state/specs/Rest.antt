-- What is left to do of a state, and after an act, as a run that records hooks alone.
use Rattle.std.specs.Prelude.{[], map, ◌∷◌, ◌≡◌, Bool, List, ℕ}
use Rattle.jl_value.specs.declared.ending.Completion.{Completion}
use Rattle.jl_value.specs.declared.ending.Completion.TheVariants as completion
use Rattle.jl_value.specs.declared.ending.Fault.{Fault}
use Rattle.jl_value.specs.declared.ending.Fault.TheVariants.{Misuse}
use Rattle.jl_value.specs.declared.value.Value.{Value}
use Rattle.jl_ast.specs.View.{view_expression, view_statement}
use Rattle.jl_op.specs.Operations.{Operation}
use Rattle.jl_op.specs.declared.op.Op.TheVariants as op
use Rattle.jl_effects.specs.Effects.{and_then, Begin, Emit, End, Fail}
use Rattle.jl_effects.specs.Running.{Fails, Outcome, Over, run, RunState, Spent}
use Rattle.jl_effects.specs.Traces.{quietly}
use Rattle.jl_meaning.specs.Completions.{if_normal, normal, on_given}
use Rattle.jl_meaning.specs.Completions as completions
use Rattle.jl_meaning.specs.Expressions.{evaluate}
use Rattle.jl_meaning.specs.FunctionObjects.{FunctionTable}
use Rattle.jl_meaning.specs.Mean.{end_of, language}
use Rattle.jl_meaning.specs.Noting.{note, performs}
use Rattle.jl_meaning.specs.Parts.{answer_of, give, gives, lift, throws, Algorithm, Answer, CallOf, Part}
use Rattle.jl_meaning.specs.Statements.{execute}
use Rattle.jl_meaning.specs.Store.{Store}
use Rattle.jl_meaning.specs.forms.Functions.{result_of}
use Rattle.jl_state.specs.AlgorithmFrames.{algorithm_after}
use Rattle.jl_state.specs.EmitFrames.{emit_after}
use Rattle.jl_state.specs.StatementFrames.{completion_after, statement_after}
use Rattle.jl_state.specs.ValueFrames.{value_after}
use Rattle.jl_meaning.specs.Jobs.{job}
use Rattle.jl_state.specs.Trees.{plain}
use Rattle.jl_state.specs.Words.{call_of, context_of, table_of, without_innermost}
use Rattle.jl_state.specs.declared.act.Act.{Act}
use Rattle.jl_state.specs.declared.act.Act.TheVariants as act
use Rattle.jl_state.specs.declared.calls.Call.{Call}
use Rattle.jl_state.specs.declared.frame.Frame.{Frame}
use Rattle.jl_state.specs.declared.frame.Frame.TheVariants as frame
use Rattle.jl_state.specs.declared.state.State.{State}
use Rattle.std.specs.Borrow.{Bor}

-- what a frame is handed
pub data Given : Type 0 where
  Nothing : Given
  Value-given : Value → Given
  Completion-given : Completion → Given

abbrev pub given_of : Answer Value → Given
given_of (gives v) = Value-given v
given_of (throws v) = Completion-given (completion.Throw v)

abbrev pub as_value : Part (Answer Value) → Part Given
as_value p = and_then p (λ a. End (given_of a))

abbrev pub as_completion : Part Completion → Part Given
as_completion p = and_then p (λ how. End (Completion-given how))

-- a frame that takes no completion, over which each passes that is abrupt
abbrev pub passed_on : Completion → Part Given
passed_on completion.Normal = Fail Misuse
passed_on how = End (Completion-given how)

-- a frame that goes on by itself
abbrev pub on_nothing : Part Given → Given → Part Given
on_nothing p Nothing = p
on_nothing p (Value-given v) = Fail Misuse
on_nothing p (Completion-given how) = passed_on how

-- a frame that waits for a value
abbrev pub on_value : (Value → Part Given) → Given → Part Given
on_value k Nothing = Fail Misuse
on_value k (Value-given v) = k v
on_value k (Completion-given how) = passed_on how

-- a frame that waits for a completion
abbrev pub on_completion : (Completion → Part Given) → Given → Part Given
on_completion k (Completion-given how) = k how
on_completion k g = Fail Misuse

abbrev pub after : FunctionTable → List Call → Frame → Given → Part Given
after table calls (frame.Value f) = on_value (λ v. as_value (value_after table calls f v))
after table calls (frame.Algorithm f) = on_value (λ v. as_value (lift (algorithm_after f v)))
after table calls (frame.Statement f) = on_value (λ v. as_completion (statement_after table calls f v))
after table calls (frame.Completion f) = on_completion (λ how. as_completion (completion_after table calls f how))
after table calls (frame.Told f) = on_nothing (as_value (emit_after f))
after table calls (frame.Give v) = on_nothing (as_value (give v))
after table calls frame.Body = on_completion (λ how. as_value (result_of how))

-- the calls that are running when a frame is done
abbrev pub calls_after : List Call → Frame → List Call
calls_after calls frame.Body = without_innermost calls
calls_after calls f = calls

-- how a program ends whose statements have completed so (clause 14)
abbrev pub end_program : Completion → Part Completion
end_program how =
    and_then (if_normal (completions.◌>>=◌ (note performs 1 (λ heap. op.ScriptExit)) (λ _. normal)) how) end_of

-- what is done with what the innermost of the frames is handed, to the end of the program
abbrev pub continuation : FunctionTable → List Call → List Frame → Given → Part Completion
continuation table calls [] (Completion-given how) = end_program how
continuation table calls [] g = Fail Misuse
continuation table calls (f ∷ frames) g = and_then (after table calls f g)
    (continuation table (calls_after calls f) frames)

abbrev pub continuation_of : State → Given → Part Completion
continuation_of s g = continuation (table_of s.functions) s.calls s.stack g

abbrev pub run_state : (told : List Operation) → State → RunState Store Operation
run_state told s = record { store = s.store; output = s.output; operations = []; hooks = told }

-- the run of a part in a state, where hooks have told of these operations, and are to be told of the kept ones
abbrev pub run_in : (kept : Operation → Bool) → (told : List Operation) → State → Part Completion
    → Outcome Store Fault Operation Completion
run_in kept told s p = run language (quietly kept) (job (table_of s.functions)) s.left p (run_state told s)

-- what comes of a state after an act
abbrev pub behaviour_after : (kept : Operation → Bool) → (told : List Operation) → State → Act
    → Outcome Store Fault Operation Completion
behaviour_after kept told s (act.Evaluate e here) =
    run_in kept told s (and_then (as_value (evaluate (table_of s.functions) (plain (view_expression e.now))
    (context_of s.calls here))) (continuation_of s))
behaviour_after kept told s (act.Execute t here labels) =
    run_in kept told s (and_then (as_completion (execute (table_of s.functions) (plain (view_statement t.now))
    (map (λ (x : Bor (List ℕ)). x.now) labels) (context_of s.calls here))) (continuation_of s))
behaviour_after kept told s (act.Give v) = run_in kept told s (continuation_of s (Value-given v))
behaviour_after kept told s (act.Complete how) = run_in kept told s (continuation_of s (Completion-given how))
behaviour_after kept told s (act.Call c) =
    run_in kept told s (Begin (CallOf (call_of c)) (λ end. continuation_of s (given_of (answer_of end))))
behaviour_after kept told s (act.Emit id o) = run_in kept told s (Emit (id, o) (continuation_of s Nothing))
behaviour_after kept told s (act.Fault fault) = Over (Fails fault) s.left (run_state told s)
behaviour_after kept told s act.Spent = Spent (run_state told s)

-- The act, and the state that it leaves, come to what the part p would, and the frames of s after it: a part that ends
-- with an answer, one that ends with a completion, and an algorithm.
pub record RefinesExpression (s : State) (p : Part (Answer Value)) (t : State) (a : Act) : Type 0 where
  pub is : (kept : Operation → Bool) (told : List Operation)
      → behaviour_after kept told t a ≡ run_in kept told s (and_then (as_value p) (continuation_of s))

pub record RefinesStatement (s : State) (p : Part Completion) (t : State) (a : Act) : Type 0 where
  pub is : (kept : Operation → Bool) (told : List Operation)
      → behaviour_after kept told t a ≡ run_in kept told s (and_then (as_completion p) (continuation_of s))

pub record RefinesAlgorithm (s : State) (p : Algorithm Value) (t : State) (a : Act) : Type 0 where
  pub is : (kept : Operation → Bool) (told : List Operation)
      → behaviour_after kept told t a ≡ run_in kept told s (and_then (as_value (lift p)) (continuation_of s))
