-- From the start of a run on, the machine does what the program does.
use Rattle.std.proofs.Common.{◌≡◌, [], false, refl, sym, ◌∙◌, ap, subst, Bool, List, ℕ}
use mathlib.Core.Path.{fun_ext}
use Rattle.jl_text.specs.declared.span.Span.{Span}
use Rattle.jl_ast.specs.Tree.{body, code, Program, Tree}
use Rattle.jl_ast.specs.View.{view_statements}
use Rattle.jl_ast.specs.declared.tree.Body.{Body, out-Body}
use Rattle.jl_scope.specs.Hoisting.{strict_in}
use Rattle.jl_value.specs.declared.ending.Completion.{Completion}
use Rattle.jl_value.specs.declared.ending.Completion.TheVariants as completion
use Rattle.jl_value.specs.declared.value.Value.{Value}
use Rattle.jl_op.specs.Chosen.{is_kept, Kinds}
use Rattle.jl_op.specs.Operations.{Operation}
use Rattle.jl_op.specs.declared.op.Op.TheVariants as op
use Rattle.jl_effects.specs.Effects.{and_then, End}
use Rattle.jl_effects.specs.Running.{nothing_done, outcome_then, run, RunState}
use Rattle.jl_effects.specs.Traces.{quietly}
use Rattle.jl_effects.proofs.Chains.{and_then-assoc, run-and_then}
use Rattle.jl_meaning.specs.Completions.{if_normal, normal, on_given, ◌>>=◌}
use Rattle.jl_meaning.specs.DeclarationBinding.{declare_program}
use Rattle.jl_meaning.specs.FunctionObjects.{FunctionTable}
use Rattle.jl_meaning.specs.FunctionTable.{function_table}
use Rattle.jl_meaning.specs.Mean.{end_of, global_context, language, run_program, script, Run}
use Rattle.jl_meaning.specs.Noting.{note, performs}
use Rattle.jl_meaning.specs.Parts.{gives, lift, throws, Answer, Code, Context, Part}
use Rattle.jl_meaning.specs.Realm.{realm}
use Rattle.jl_meaning.specs.Statements.{execute_all}
use Rattle.jl_meaning.specs.Store.{Store}
use Rattle.jl_meaning.specs.forms.Functions.{run_body}
use Rattle.jl_meaning.specs.Jobs.{job}
use Rattle.jl_state.specs.Rest.{as_completion, continuation, continuation_of, run_in, RefinesStatement}
use Rattle.jl_state.specs.Rest.{Completion-given}
use Rattle.jl_state.specs.Trees.{plain, plain_forest}
use Rattle.jl_state.specs.Words.{context_of, table_of}
use Rattle.jl_state.specs.declared.act.Act.{Act}
use Rattle.jl_state.specs.declared.act.Act.TheVariants as act
use Rattle.jl_state.specs.declared.calls.Call.{Call}
use Rattle.jl_state.specs.declared.frame.Frame.{Frame}
use Rattle.jl_state.specs.declared.frame.Here.{Here}
use Rattle.jl_state.specs.declared.state.State.{State}
use Rattle.jl_state.proofs.Stores.{completes_comes, completes_thrown}
use Rattle.jl_store.specs.Answers.{ends_with}
use Rattle.jl_store.specs.BigStep.{BigStep}
use Rattle.jl_store.specs.Plain.{code_in, plain_code}
use Rattle.jl_store.specs.declared.answer.Answer.{Answer as Answered}
use Rattle.jl_store.specs.declared.answer.Answer.TheVariants.{Gives, Throws}
use Rattle.jl_store.proofs.Trees.{body_plain}
use Rattle.jl_machine.specs.Runs.{hooked_mean}
use Rattle.jl_machine.specs.inner.Starts.{program_body, IsStart}

-- what a program declares is bound

pub statements_of : (table : FunctionTable) (b : Body) (c : Context)
    → execute_all table (plain_forest (view_statements (out-Body b).statements)) c ≡ run_body table (plain_code b) c
statements_of table b c = ap (λ (t : Code). run_body table t c) (sym (body_plain b))

pub declared_then : (s t u : State) (b : Body) (bound : Context) (here : Here) (a : Act)
    (answer : Answered (Unit {0})) (x : Unit {0}) → t ≡ record s { store = t.store }
    → BigStep (declare_program (plain_code b) bound) s.store t.store (ends_with answer) → answer ≡ Gives x
    → RefinesStatement t (execute_all (table_of s.functions) (plain_forest (view_statements (out-Body b).statements))
    (context_of s.calls here)) u a
    → RefinesStatement s (program_body (table_of s.functions) (plain_code b) bound (context_of s.calls here)) u a
declared_then s t u b bound here a answer x stored comes is refines =
    completes_comes s t stored (declare_program (plain_code b) bound) x
    (λ _. run_body (table_of s.functions) (plain_code b) (context_of s.calls here)) u a
    (record {
      refines = (subst (λ d. BigStep (declare_program (plain_code b) bound) s.store t.store
          (ends_with d)) is comes).refines;
    })
    (subst (λ p. RefinesStatement t p u a) (statements_of (table_of s.functions) b (context_of s.calls here)) refines)

pub declared_thrown : (s t : State) (b : Body) (bound : Context) (here : Here) (answer : Answered (Unit {0}))
    (v : Value)
    → t ≡ record s { store = t.store }
    → BigStep (declare_program (plain_code b) bound) s.store t.store (ends_with answer) → answer ≡ Throws v
    → RefinesStatement s (program_body (table_of s.functions) (plain_code b) bound (context_of s.calls here)) t
    (act.Complete (completion.Throw v))
declared_thrown s t b bound here answer v stored comes is =
    completes_thrown s t stored (declare_program (plain_code b) bound) v
    (λ _. run_body (table_of s.functions) (plain_code b) (context_of s.calls here))
    (record {
      refines = (subst (λ d. BigStep (declare_program (plain_code b) bound) s.store t.store
          (ends_with d)) is comes).refines;
    })

-- strictness doesn't depend on places
pub strict_plain : (t : Tree Span code) → strict_in false (plain t) ≡ strict_in false t
strict_plain (body strict fs l) = refl

-- the whole of what is to be done, to the end of the program
abbrev whole : FunctionTable → List Call → List Frame → Code → Context → Here → Part Completion
whole table calls frames t bound here =
    and_then (as_completion (program_body table t bound (context_of calls here))) (continuation table calls frames)

-- a program of this code
abbrev program_of : Code → Program ℕ
program_of t = record { body = t; at = 0 }

abbrev global_here : Code → Here
global_here t = record { env = 0; strict = strict_in false t }

module _ (kept : Operation → Bool) (t : Code) where
  abbrev table : FunctionTable
  table = function_table (program_of t)

  abbrev declaring : Part (Answer (Unit {0}))
  declaring = lift (declare_program t (global_context (program_of t)))

  abbrev statements : Part Completion
  statements = run_body table t (global_context (program_of t))

  abbrev exit : Part Completion
  exit = note performs 1 (λ heap. op.ScriptExit) >>= λ _. normal

  abbrev after_declaring : Answer (Unit {0}) → Part Completion
  after_declaring b = and_then (as_completion (on_given (λ _. statements) b)) (continuation table [] [])

  abbrev after_entering : Answer (Unit {0}) → Part Completion
  after_entering b = on_given (λ _. note performs 0 (λ heap. op.ScriptEnter)
      >>= λ _. and_then (run_program (program_of t)) end_of) b

  parted : whole table [] [] t (code_in 0 (strict_in false t)) (global_here t) ≡ and_then declaring after_declaring
  parted =
      ap (λ q. and_then q (continuation table [] []))
      (and_then-assoc declaring (on_given (λ _. statements)) (λ how. End (Completion-given how)))
      ∙ and_then-assoc declaring (λ b. as_completion (on_given (λ _. statements) b)) (continuation table [] [])

  ends : and_then (as_completion statements) (continuation table [] []) ≡ and_then (run_program (program_of t)) end_of
  ends =
      and_then-assoc statements (λ how. End (Completion-given how)) (continuation table [] [])
      ∙ sym (and_then-assoc statements (if_normal exit) end_of)

  each : (b : Answer (Unit {0})) (n : ℕ) (w : RunState Store Operation)
      → run language (quietly kept) (job table) n (after_declaring b) w
      ≡ run language (quietly kept) (job table) n (after_entering b) w
  each (gives tt) n w = ap (λ q. run language (quietly kept) (job table) n q w) ends
  each (throws v) n w = refl

  from_there : (n : ℕ) (w : RunState Store Operation)
      → run language (quietly kept) (job table) n (whole table [] [] t (code_in 0 (strict_in false t)) (global_here t))
      w
      ≡ run language (quietly kept) (job table) n (script (program_of t)) w
  from_there n w =
      ap (λ q. run language (quietly kept) (job table) n q w) parted
      ∙ run-and_then language (quietly kept) (job table) after_declaring n declaring w
      ∙ ap (outcome_then (run language (quietly kept) (job table) n declaring w))
      (fun_ext (λ b. fun_ext (λ m. fun_ext (λ v. each b m v))))
      ∙ sym (run-and_then language (quietly kept) (job table) after_entering n declaring w)

  -- the run of the whole from a state, by the parts of that
  abbrev run_from : FunctionTable → List Call → List Frame → ℕ → Store → List ℕ → Run
  run_from functions calls frames left store output =
      run language (quietly kept) (job functions) left
      (whole functions calls frames t (code_in 0 (strict_in false t)) (global_here t))
      (record { store = store; output = output; operations = []; hooks = [] })

  begins_there : (budget : ℕ) (here : Here) (s : State) → s.store ≡ realm → table_of s.functions ≡ table → s.calls ≡ []
      → s.stack ≡ [] → s.output ≡ [] → s.left ≡ budget → here ≡ global_here t
      → run_in kept [] s (whole (table_of s.functions) s.calls s.stack t (code_in 0 here.strict) here)
      ≡ run language (quietly kept) (job table) budget (script (program_of t)) (nothing_done realm)
  begins_there budget here s store functions calls stack output left is =
      ap (λ (h : Here). run_in kept [] s (whole (table_of s.functions) s.calls s.stack t (code_in 0 h.strict) h)) is
      ∙ ap (λ x. run_from x s.calls s.stack s.left s.store s.output) functions
      ∙ ap (λ x. run_from table x s.stack s.left s.store s.output) calls
      ∙ ap (λ x. run_from table [] x s.left s.store s.output) stack
      ∙ ap (λ x. run_from table [] [] x s.store s.output) left
      ∙ ap (λ x. run_from table [] [] budget x s.output) store
      ∙ ap (λ x. run_from table [] [] budget realm x) output
      ∙ from_there budget (nothing_done realm)

pub begins : (chosen : Kinds) (p : Program Span) (budget : ℕ) (here : Here) (s : State) → IsStart p budget s
    → here ≡ global_here (plain p.body)
    → run_in (is_kept chosen) [] s
    (and_then (as_completion (program_body (table_of s.functions) (plain p.body) (code_in 0 here.strict)
    (context_of s.calls here))) (continuation_of s))
    ≡ hooked_mean chosen p budget
unfolding hooked_mean
begins chosen p budget here s start is =
    begins_there (is_kept chosen) (plain p.body) budget here s start.store start.functions start.calls start.stack
    start.output start.left is
