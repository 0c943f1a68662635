-- What steps of the machine leave to do.
use Rattle.std.proofs.Common.{◌≡◌, ℕ, ◌∷◌, List, refl, sym, ◌∙◌, ap, subst, Bool}
use mathlib.Core.Path.{fun_ext}
use Rattle.std.specs.Borrow.{Bor}
use Rattle.jl_ast.specs.View.{view_expression}
use Rattle.jl_ast.specs.declared.tree.Expr.{Expr}
use Rattle.jl_value.specs.declared.ending.Completion.{Completion}
use Rattle.jl_value.specs.declared.value.Value.{Value}
use Rattle.jl_op.specs.Operations.{Operation}
use Rattle.jl_effects.specs.Effects.{and_then, Begin, End, Look, Perform, Step}
use Rattle.jl_effects.specs.Running.{outcome_then, run, RunState}
use Rattle.jl_effects.specs.Traces.{quietly}
use Rattle.jl_effects.proofs.Chains.{and_then-assoc, and_then-end, row-and_then, run-and_then}
use Rattle.jl_meaning.specs.Completions.{on_given}
use Rattle.jl_meaning.specs.Expressions.{evaluate}
use Rattle.jl_meaning.specs.FunctionObjects.{FunctionTable}
use Rattle.jl_meaning.specs.Mean.{language}
use Rattle.jl_meaning.specs.Parts.{answer_of, begin_call, completion_of, fault_of, give, continue_with, gives, lift}
use Rattle.jl_meaning.specs.Parts.{throws, ◌>>=◌, Algorithm, Answer, CallOf, Job, Part}
use Rattle.jl_meaning.specs.Parts as parts
use Rattle.jl_meaning.specs.Store.{Store}
use Rattle.jl_state.specs.AlgorithmFrames.{algorithm_after}
use Rattle.jl_state.specs.StatementFrames.{completion_after, statement_after}
use Rattle.jl_state.specs.ValueFrames.{value_after}
use Rattle.jl_meaning.specs.Jobs.{job}
use Rattle.jl_state.specs.Rest.{as_completion, as_value, given_of, continuation, continuation_of, run_in, run_state}
use Rattle.jl_state.specs.Rest.{RefinesStatement, RefinesExpression}
use Rattle.jl_state.specs.Rest.{Given, RefinesAlgorithm}
use Rattle.jl_state.specs.Rest.{Completion-given}
use Rattle.jl_state.specs.Steps.{AlgorithmWaits, CompletionWaits, StatementWaits, ValueWaits}
use Rattle.jl_state.specs.Trees.{plain}
use Rattle.jl_state.specs.Words.{context_of, table_of}
use Rattle.jl_state.specs.declared.act.Act.{Act}
use Rattle.jl_state.specs.declared.act.Act.TheVariants as act
use Rattle.jl_state.specs.declared.calls.Call.{Call}
use Rattle.jl_state.specs.declared.algorithm_frame.AlgorithmFrame.{AlgorithmFrame}
use Rattle.jl_state.specs.declared.statement_frame.CompletionFrame.{CompletionFrame}
use Rattle.jl_state.specs.declared.frame.Frame.{Frame}
use Rattle.jl_state.specs.declared.frame.Frame.TheVariants as frame
use Rattle.jl_state.specs.declared.frame.Here.{Here}
use Rattle.jl_state.specs.declared.statement_frame.StatementFrame.{StatementFrame}
use Rattle.jl_state.specs.declared.value_frame.ValueFrame.{ValueFrame}
use Rattle.jl_state.specs.declared.state.State.{State}

-- frames

-- a part over a frame that waits for its end
over_frame : (s t : State) (f : Frame) (p q : Part Given) → t ≡ record s { stack = f ∷ s.stack }
    → and_then p (continuation (table_of s.functions) s.calls (f ∷ s.stack)) ≡ and_then q (continuation_of s)
    → (kept : Operation → Bool) (told : List Operation)
    → run_in kept told t (and_then p (continuation_of t)) ≡ run_in kept told s (and_then q (continuation_of s))
over_frame s t f p q e same kept told =
    ap (λ (v : State). run_in kept told v (and_then p (continuation_of v))) e ∙ ap (λ q. run_in kept told s q) same

module _ (table : FunctionTable) (calls : List Call) (frames : List Frame) where
  -- a part that ends with an answer, and an expression that waits for it
  value_same : (f : ValueFrame) (p : Part (Answer Value))
      → and_then (as_value p) (continuation table calls (frame.Value f ∷ frames))
      ≡ and_then (as_value (p >>= value_after table calls f)) (continuation table calls frames)
  value_same f p =
      and_then-assoc p (λ a. End (given_of a)) (continuation table calls (frame.Value f ∷ frames))
      ∙ ap (and_then p) (fun_ext each)
      ∙ sym (and_then-assoc p (continue_with (value_after table calls f))
      (λ a. continuation table calls frames (given_of a)))
      ∙ sym (and_then-assoc (p >>= value_after table calls f) (λ a. End (given_of a)) (continuation table calls frames))
    where
      each : (a : Answer Value) → continuation table calls (frame.Value f ∷ frames) (given_of a)
          ≡ and_then (continue_with (value_after table calls f) a) (λ a. continuation table calls frames (given_of a))
      each (gives v) = and_then-assoc (value_after table calls f v) (λ a. End (given_of a))
          (continuation table calls frames)
      each (throws v) = refl

  algorithm_same : (f : AlgorithmFrame) (p : Algorithm Value)
      → and_then (as_value (lift p)) (continuation table calls (frame.Algorithm f ∷ frames))
      ≡ and_then (as_value (lift (p >>= algorithm_after f))) (continuation table calls frames)
  algorithm_same f p =
      and_then-assoc (lift p) (λ a. End (given_of a)) (continuation table calls (frame.Algorithm f ∷ frames))
      ∙ ap (and_then (lift p)) (fun_ext each)
      ∙ sym (and_then-assoc (lift p) (λ a. lift (continue_with (algorithm_after f) a))
      (λ a. continuation table calls frames (given_of a)))
      ∙ ap (λ q. and_then q (λ a. continuation table calls frames (given_of a)))
      (sym (row-and_then CallOf fault_of p (continue_with (algorithm_after f))))
      ∙ sym (and_then-assoc (lift (p >>= algorithm_after f)) (λ a. End (given_of a)) (continuation table calls frames))
    where
      each : (a : Answer Value) → continuation table calls (frame.Algorithm f ∷ frames) (given_of a)
          ≡ and_then (lift (continue_with (algorithm_after f) a)) (λ a. continuation table calls frames (given_of a))
      each (gives v) = and_then-assoc (lift (algorithm_after f v)) (λ a. End (given_of a))
          (continuation table calls frames)
      each (throws v) = refl

  statement_same : (f : StatementFrame) (p : Part (Answer Value))
      → and_then (as_value p) (continuation table calls (frame.Statement f ∷ frames))
      ≡ and_then (as_completion (and_then p (on_given (statement_after table calls f))))
      (continuation table calls frames)
  statement_same f p =
      and_then-assoc p (λ a. End (given_of a)) (continuation table calls (frame.Statement f ∷ frames))
      ∙ ap (and_then p) (fun_ext each)
      ∙ sym (and_then-assoc p (on_given (statement_after table calls f))
      (λ how. continuation table calls frames (Completion-given how)))
      ∙ sym (and_then-assoc (and_then p (on_given (statement_after table calls f))) (λ how. End (Completion-given how))
      (continuation table calls frames))
    where
      each : (a : Answer Value) → continuation table calls (frame.Statement f ∷ frames) (given_of a)
          ≡ and_then (on_given (statement_after table calls f) a)
          (λ how. continuation table calls frames (Completion-given how))
      each (gives v) =
          and_then-assoc (statement_after table calls f v) (λ how. End (Completion-given how))
          (continuation table calls frames)
      each (throws v) = refl

  completion_same : (f : CompletionFrame) (p : Part Completion)
      → and_then (as_completion p) (continuation table calls (frame.Completion f ∷ frames))
      ≡ and_then (as_completion (and_then p (completion_after table calls f))) (continuation table calls frames)
  completion_same f p =
      and_then-assoc p (λ how. End (Completion-given how)) (continuation table calls (frame.Completion f ∷ frames))
      ∙ ap (and_then p) (fun_ext (λ how.
      and_then-assoc (completion_after table calls f how) (λ how. End (Completion-given how))
      (continuation table calls frames)))
      ∙ sym (and_then-assoc p (completion_after table calls f)
      (λ how. continuation table calls frames (Completion-given how)))
      ∙ sym (and_then-assoc (and_then p (completion_after table calls f)) (λ how. End (Completion-given how))
      (continuation table calls frames))

pub value_waits : (s t : State) (f : ValueFrame) → t ≡ record s { stack = frame.Value f ∷ s.stack } → ValueWaits s f t
value_waits s t f e = record {
  gives = λ p u a refines. record {
    is = λ kept told. refines.is kept told
        ∙ over_frame s t (frame.Value f) (as_value p) (as_value (p >>= value_after (table_of s.functions) s.calls f)) e
        (value_same (table_of s.functions) s.calls s.stack f p) kept told;
  };
  works = λ p u a refines. record {
    is = λ kept told. refines.is kept told
        ∙ over_frame s t (frame.Value f) (as_value (lift p))
        (as_value (lift p >>= value_after (table_of s.functions) s.calls f)) e
        (value_same (table_of s.functions) s.calls s.stack f (lift p)) kept told;
  };
}

pub algorithm_waits : (s t : State) (f : AlgorithmFrame) → t ≡ record s { stack = frame.Algorithm f ∷ s.stack }
    → AlgorithmWaits s f t
algorithm_waits s t f e = record {
  works = λ p u a refines. record {
    is = λ kept told. refines.is kept told
        ∙ over_frame s t (frame.Algorithm f) (as_value (lift p)) (as_value (lift (p >>= algorithm_after f))) e
        (algorithm_same (table_of s.functions) s.calls s.stack f p) kept told;
  };
}

pub statement_waits : (s t : State) (f : StatementFrame) → t ≡ record s { stack = frame.Statement f ∷ s.stack }
    → StatementWaits s f t
statement_waits s t f e = record {
  gives = λ p u a refines. record {
    is = λ kept told. refines.is kept told
        ∙ over_frame s t (frame.Statement f) (as_value p)
        (as_completion (and_then p (on_given (statement_after (table_of s.functions) s.calls f)))) e
        (statement_same (table_of s.functions) s.calls s.stack f p) kept told;
  };
  works = λ p u a refines. record {
    is = λ kept told. refines.is kept told
        ∙ over_frame s t (frame.Statement f) (as_value (lift p))
        (as_completion (and_then (lift p) (on_given (statement_after (table_of s.functions) s.calls f)))) e
        (statement_same (table_of s.functions) s.calls s.stack f (lift p)) kept told;
  };
}

pub completion_waits : (s t : State) (f : CompletionFrame) → t ≡ record s { stack = frame.Completion f ∷ s.stack }
    → CompletionWaits s f t
completion_waits s t f e = record {
  completes = λ p u a refines. record {
    is = λ kept told. refines.is kept told
        ∙ over_frame s t (frame.Completion f) (as_completion p)
        (as_completion (and_then p (completion_after (table_of s.functions) s.calls f))) e
        (completion_same (table_of s.functions) s.calls s.stack f p) kept told;
  };
}

-- an expression is begun, for whose value a frame waits

abbrev value_of : State → Bor Expr → Here → Part (Answer Value)
value_of s e here = evaluate (table_of s.functions) (plain (view_expression e.now)) (context_of s.calls here)

begins : (s t : State) (e : Bor Expr) (here : Here) → t.calls ≡ s.calls → t.functions ≡ s.functions
    → RefinesExpression t (value_of s e here) t (act.Evaluate e here)
begins s t e here calls functions =
    subst (λ c. RefinesExpression t (evaluate (table_of s.functions) (plain (view_expression e.now))
    (context_of c here)) t
    (act.Evaluate e here)) calls
    (subst (λ f. RefinesExpression t (evaluate (table_of f) (plain (view_expression e.now)) (context_of t.calls here)) t
    (act.Evaluate e here)) functions (record { is = λ kept told. refl }))

pub evaluates : (s t : State) (f : ValueFrame) (e : Bor Expr) (here : Here)
    → t ≡ record s { stack = frame.Value f ∷ s.stack }
    → RefinesExpression s (value_of s e here >>= value_after (table_of s.functions) s.calls f) t (act.Evaluate e here)
evaluates s t f e here is =
    (value_waits s t f is).gives (value_of s e here) t (act.Evaluate e here)
    (begins s t e here (ap (λ (v : State). v.calls) is) (ap (λ (v : State). v.functions) is))

pub evaluates_for : (s t : State) (f : StatementFrame) (e : Bor Expr) (here : Here)
    → t ≡ record s { stack = frame.Statement f ∷ s.stack }
    → RefinesStatement s (and_then (value_of s e here) (on_given (statement_after (table_of s.functions) s.calls f))) t
    (act.Evaluate e here)
evaluates_for s t f e here is =
    (statement_waits s t f is).gives (value_of s e here) t (act.Evaluate e here)
    (begins s t e here (ap (λ (v : State). v.calls) is) (ap (λ (v : State). v.functions) is))

-- algorithms as parts
pub gives_works : (s : State) (p : Algorithm Value) (t : State) (a : Act) → RefinesAlgorithm s p t a
    → RefinesExpression s (lift p) t a
gives_works s p t a refines = record { is = refines.is }

-- a look at the store
pub looks : (s : State) (k : Store → Algorithm Value) (p : Algorithm Value) (t : State) (a : Act) → p ≡ k s.store
    → RefinesAlgorithm s p t a → RefinesAlgorithm s (Look k) t a
looks s k p t a e refines = record {
  is = λ kept told. refines.is kept told ∙ ap
      (λ q. run_in kept told s (and_then (as_value (lift q)) (continuation_of s))) e;
}

-- two continuations of a part between which no quiet run makes a difference
pub gives_alike : {A : Type 0} (s : State) (p : Part (Answer A)) (k l : A → Part (Answer Value)) (t : State) (a : Act)
    → ((b : A) (kept : Operation → Bool) (n : ℕ) (w : RunState Store Operation)
    → run language (quietly kept) (job (table_of s.functions)) n (and_then (as_value (k b)) (continuation_of s)) w
    ≡ run language (quietly kept) (job (table_of s.functions)) n (and_then (as_value (l b)) (continuation_of s)) w)
    → RefinesExpression s (p >>= k) t a → RefinesExpression s (p >>= l) t a
gives_alike {A} s p k l t a alike refines = record { is = λ kept told. refines.is kept told ∙ same kept told }
  where
    later : (A → Part (Answer Value)) → Answer A → Part Completion
    later m b = and_then (as_value (continue_with m b)) (continuation_of s)

    apart : (m : A → Part (Answer Value)) → and_then (as_value (p >>= m)) (continuation_of s) ≡ and_then p (later m)
    apart m =
        ap (λ q. and_then q (continuation_of s)) (and_then-assoc p (continue_with m) (λ b. End (given_of b)))
        ∙ and_then-assoc p (λ b. as_value (continue_with m b)) (continuation_of s)

    each : (kept : Operation → Bool) (b : Answer A) (n : ℕ) (w : RunState Store Operation)
        → run language (quietly kept) (job (table_of s.functions)) n (later k b) w
        ≡ run language (quietly kept) (job (table_of s.functions)) n (later l b) w
    each kept (gives v) n w = alike v kept n w
    each kept (throws v) n w = refl

    same : (kept : Operation → Bool) (told : List Operation)
        → run_in kept told s (and_then (as_value (p >>= k)) (continuation_of s))
        ≡ run_in kept told s (and_then (as_value (p >>= l)) (continuation_of s))
    same kept told =
        ap (λ q. run_in kept told s q) (apart k)
        ∙ run-and_then language (quietly kept) (job (table_of s.functions)) (later k) s.left p (run_state told s)
        ∙ ap (outcome_then (run language (quietly kept) (job (table_of s.functions)) s.left p (run_state told s)))
        (fun_ext (λ b. fun_ext (λ n. fun_ext (λ w. each kept b n w))))
        ∙ sym (run-and_then language (quietly kept) (job (table_of s.functions)) (later l) s.left p (run_state told s))
        ∙ sym (ap (λ q. run_in kept told s q) (apart l))

-- a part of which what it gives is given on
given_on : (p : Part (Answer Value)) → (p >>= λ v. give v) ≡ p
given_on p = ap (and_then p) (fun_ext each) ∙ and_then-end p
  where
    on : Answer Value → Part (Answer Value)
    on b = continue_with (λ v. give v) b

    each : (b : Answer Value) → on b ≡ End b
    each (gives v) = refl
    each (throws v) = refl

-- an operation of the script's own after a part makes no difference
pub gives_noted : (s : State) (o : Store → Value → Operation) (p : Part (Answer Value)) (t : State) (a : Act)
    → RefinesExpression s p t a → RefinesExpression s (p >>= λ v. Look (λ store. Perform (o store v) (give v))) t a
gives_noted s o p t a refines =
    gives_alike s p (λ v. give v) (λ v. Look (λ store. Perform (o store v) (give v))) t a (λ v kept n w. refl)
    (record {
      is = λ kept told.
          refines.is kept told ∙ ap (λ q. run_in kept told s (and_then (as_value q) (continuation_of s)))
          (sym (given_on p));
    })

-- a job takes a step, and then does what it does
begun : (s : State) (j : Job) (k : Completion → Part Completion) (kept : Operation → Bool) (told : List Operation)
    → run_in kept told s (Step (and_then (job (table_of s.functions) j) k)) ≡ run_in kept told s (Begin j k)
begun s j k kept told = refl

-- a call that is made is its job, after a step
pub begins_call : (s : State) (c : parts.Call) (p : Part (Answer Value)) (t : State) (a : Act)
    → job (table_of s.functions) (CallOf c) ≡ and_then p (λ b. End (completion_of b))
    → RefinesExpression s (Step p) t a → RefinesExpression s (begin_call CallOf c) t a
begins_call s c p t a is refines = record {
  is = λ kept told.
      refines.is kept told
      ∙ ap (λ q. run_in kept told s (Step q)) same
      ∙ begun s (CallOf c) (λ end. and_then (as_value (End (answer_of end))) (continuation_of s)) kept told;
}
  where
    after_job : Completion → Part Completion
    after_job end = and_then (as_value (End (answer_of end))) (continuation_of s)

    each : (b : Answer Value) → continuation_of s (given_of b) ≡ after_job (completion_of b)
    each (gives v) = refl
    each (throws v) = refl

    same : and_then (as_value p) (continuation_of s) ≡ and_then (job (table_of s.functions) (CallOf c)) after_job
    same =
        and_then-assoc p (λ b. End (given_of b)) (continuation_of s)
        ∙ ap (and_then p) (fun_ext each)
        ∙ sym (and_then-assoc p (λ b. End (completion_of b)) after_job)
        ∙ ap (λ q. and_then q after_job) (sym is)

-- a turn of a loop is its job, after a step
pub begins_turn : (s : State) (turn : parts.Turn) (t : State) (a : Act)
    → RefinesStatement s (Step (job (table_of s.functions) (parts.TurnOf turn))) t a
    → RefinesStatement s (Begin (parts.TurnOf turn) End) t a
begins_turn s turn t a refines = record {
  is = λ kept told.
      refines.is kept told
      ∙ ap (λ q. run_in kept told s (Step q)) same
      ∙ begun s (parts.TurnOf turn) (λ end. and_then (as_completion (End end)) (continuation_of s)) kept told;
}
  where
    same : and_then (as_completion (job (table_of s.functions) (parts.TurnOf turn))) (continuation_of s)
        ≡ and_then (job (table_of s.functions) (parts.TurnOf turn))
        (λ end. and_then (as_completion (End end)) (continuation_of s))
    same = and_then-assoc (job (table_of s.functions) (parts.TurnOf turn)) (λ how. End (Completion-given how))
        (continuation_of s)
