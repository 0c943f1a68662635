-- What an algorithm that looks at the store and changes it, and calls no function, leaves to do of a state.
use Rattle.std.proofs.Common.{◌≡◌, List, Bool, sym, ◌∙◌, ap}
use Rattle.jl_value.specs.declared.ending.Completion.{Completion}
use Rattle.jl_value.specs.declared.ending.Completion.TheVariants as completion
use Rattle.jl_value.specs.declared.value.Value.{Value}
use Rattle.jl_op.specs.Operations.{Operation}
use Rattle.jl_effects.specs.Effects.{and_then, End}
use Rattle.jl_effects.specs.Running.{step, Ends, Fails, Over}
use Rattle.jl_effects.specs.Traces.{quietly}
use Rattle.jl_effects.proofs.Chains.{and_then-assoc, row-and_then}
use Rattle.jl_meaning.specs.Completions.{on_given}
use Rattle.jl_meaning.specs.Mean.{language}
use Rattle.jl_meaning.specs.Parts.{fault_of, continue_with, gives, lift, throws, ◌>>=◌, Algorithm, AlgorithmFault}
use Rattle.jl_meaning.specs.Parts.{Answer, CallOf, Part}
use Rattle.jl_store.specs.BigStep.{BigStep}
use Rattle.jl_store.proofs.Chains.{comes_fails, comes_runs}
use Rattle.jl_meaning.specs.Jobs.{job}
use Rattle.jl_state.specs.Rest.{as_completion, as_value, given_of, behaviour_after, continuation_of, run_in, run_state}
use Rattle.jl_state.specs.Rest.{RefinesStatement}
use Rattle.jl_state.specs.Rest.{RefinesExpression}
use Rattle.jl_state.specs.Rest.{Completion-given, RefinesAlgorithm}
use Rattle.jl_state.specs.Words.{table_of}
use Rattle.jl_state.specs.declared.act.Act.{Act}
use Rattle.jl_state.specs.declared.act.Act.TheVariants as act
use Rattle.jl_state.specs.declared.state.State.{State}

-- t is s with another store
abbrev pub IsStored : State → State → Type 0
IsStored s t = t ≡ record s { store = t.store }

-- what an algorithm ends with is handed on
abbrev pub act_of : Answer Value → Act
act_of (gives v) = act.Give v
act_of (throws v) = act.Complete (completion.Throw v)

module _ {A : Type 0} (s t : State) (is : IsStored s t) (p : Algorithm A) where
  -- the run goes on with the end of the algorithm
  goes : (b : Answer A) (k : Answer A → Part Completion) → BigStep p s.store t.store (Ends b)
      → (kept : Operation → Bool) (told : List Operation)
      → run_in kept told (record s { store = t.store }) (k b) ≡ run_in kept told s (and_then (lift p) k)
  goes b k comes kept told =
      sym (comes_runs (quietly kept) (job (table_of s.functions))
      (λ q v. step language (quietly kept) (job (table_of s.functions)) s.left q v) s.left k (run_state told s) comes)

  over : (f : AlgorithmFault) (k : Answer A → Part Completion) → BigStep p s.store t.store (Fails f)
      → (kept : Operation → Bool) (told : List Operation)
      → behaviour_after kept told t (act.Fault (fault_of f)) ≡ run_in kept told s (and_then (lift p) k)
  over f k comes kept told =
      ap (λ (v : State). Over (Fails (fault_of f)) v.left (run_state told v)) is
      ∙ sym (comes_fails (quietly kept) (job (table_of s.functions))
      (λ q v. step language (quietly kept) (job (table_of s.functions)) s.left q v) s.left k (run_state told s) comes)

  -- how a part that begins with the algorithm is taken apart
  abbrev later : (A → Part (Answer Value)) → Answer A → Part Completion
  later k b = and_then (as_value (continue_with k b)) (continuation_of s)

  apart : (k : A → Part (Answer Value)) → and_then (as_value (lift p >>= k)) (continuation_of s) ≡ and_then (lift p)
      (later k)
  apart k =
      ap (λ q. and_then q (continuation_of s)) (and_then-assoc (lift p) (continue_with k) (λ b. End (given_of b)))
      ∙ and_then-assoc (lift p) (λ b. as_value (continue_with k b)) (continuation_of s)

  abbrev later_work : (A → Algorithm Value) → Answer A → Part Completion
  later_work k b = and_then (as_value (lift (continue_with k b))) (continuation_of s)

  apart_work : (k : A → Algorithm Value)
      → and_then (as_value (lift (p >>= k))) (continuation_of s) ≡ and_then (lift p) (later_work k)
  apart_work k =
      ap (λ q. and_then (as_value q) (continuation_of s)) (row-and_then CallOf fault_of p (continue_with k))
      ∙ ap (λ q. and_then q (continuation_of s))
      (and_then-assoc (lift p) (λ b. lift (continue_with k b)) (λ b. End (given_of b)))
      ∙ and_then-assoc (lift p) (λ b. as_value (lift (continue_with k b))) (continuation_of s)

  abbrev later_completion : (A → Part Completion) → Answer A → Part Completion
  later_completion k b = and_then (as_completion (on_given k b)) (continuation_of s)

  apart_completion : (k : A → Part Completion)
      → and_then (as_completion (and_then (lift p) (on_given k))) (continuation_of s) ≡ and_then (lift p)
      (later_completion k)
  apart_completion k =
      ap (λ q. and_then q (continuation_of s))
      (and_then-assoc (lift p) (on_given k) (λ how. End (Completion-given how)))
      ∙ and_then-assoc (lift p) (λ b. as_completion (on_given k b)) (continuation_of s)

  -- what is given is gone on with

  pub gives_comes : (a : A) (k : A → Part (Answer Value)) (u : State) (x : Act)
      → BigStep p s.store t.store (Ends (gives a)) → RefinesExpression t (k a) u x
      → RefinesExpression s (lift p >>= k) u x
  gives_comes a k u x comes refines = record {
    is = λ kept told.
        refines.is kept told
        ∙ ap (λ (v : State). run_in kept told v (and_then (as_value (k a)) (continuation_of v))) is
        ∙ goes (gives a) (later k) comes kept told
        ∙ ap (λ q. run_in kept told s q) (sym (apart k));
  }

  pub works_comes : (a : A) (k : A → Algorithm Value) (u : State) (x : Act)
      → BigStep p s.store t.store (Ends (gives a)) → RefinesAlgorithm t (k a) u x → RefinesAlgorithm s (p >>= k) u x
  works_comes a k u x comes refines = record {
    is = λ kept told.
        refines.is kept told
        ∙ ap (λ (v : State). run_in kept told v (and_then (as_value (lift (k a))) (continuation_of v))) is
        ∙ goes (gives a) (later_work k) comes kept told
        ∙ ap (λ q. run_in kept told s q) (sym (apart_work k));
  }

  pub completes_comes : (a : A) (k : A → Part Completion) (u : State) (x : Act)
      → BigStep p s.store t.store (Ends (gives a)) → RefinesStatement t (k a) u x
      → RefinesStatement s (and_then (lift p) (on_given k)) u x
  completes_comes a k u x comes refines = record {
    is = λ kept told.
        refines.is kept told
        ∙ ap (λ (v : State). run_in kept told v (and_then (as_completion (k a)) (continuation_of v))) is
        ∙ goes (gives a) (later_completion k) comes kept told
        ∙ ap (λ q. run_in kept told s q) (sym (apart_completion k));
  }

  -- what is thrown is thrown on

  thrown : (v : Value) (kept : Operation → Bool) (told : List Operation)
      → behaviour_after kept told t (act.Complete (completion.Throw v))
      ≡ run_in kept told (record s { store = t.store }) (continuation_of s (Completion-given (completion.Throw v)))
  thrown v kept told =
      ap (λ (w : State). run_in kept told w (continuation_of w (Completion-given (completion.Throw v)))) is

  pub gives_thrown : (v : Value) (k : A → Part (Answer Value)) → BigStep p s.store t.store (Ends (throws v))
      → RefinesExpression s (lift p >>= k) t (act.Complete (completion.Throw v))
  gives_thrown v k comes = record {
    is = λ kept told.
        thrown v kept told ∙ goes (throws v) (later k) comes kept told ∙ ap (λ q. run_in kept told s q) (sym (apart k));
  }

  pub works_thrown : (v : Value) (k : A → Algorithm Value) → BigStep p s.store t.store (Ends (throws v))
      → RefinesAlgorithm s (p >>= k) t (act.Complete (completion.Throw v))
  works_thrown v k comes = record {
    is = λ kept told.
        thrown v kept told ∙ goes (throws v) (later_work k) comes kept told
        ∙ ap (λ q. run_in kept told s q) (sym (apart_work k));
  }

  pub completes_thrown : (v : Value) (k : A → Part Completion) → BigStep p s.store t.store (Ends (throws v))
      → RefinesStatement s (and_then (lift p) (on_given k)) t (act.Complete (completion.Throw v))
  completes_thrown v k comes = record {
    is = λ kept told.
        thrown v kept told ∙ goes (throws v) (later_completion k) comes kept told
        ∙ ap (λ q. run_in kept told s q) (sym (apart_completion k));
  }

  -- and a fault ends the run

  pub gives_failed : (f : AlgorithmFault) (k : A → Part (Answer Value)) → BigStep p s.store t.store (Fails f)
      → RefinesExpression s (lift p >>= k) t (act.Fault (fault_of f))
  gives_failed f k comes = record {
    is = λ kept told. over f (later k) comes kept told ∙ ap (λ q. run_in kept told s q) (sym (apart k));
  }

  pub works_failed : (f : AlgorithmFault) (k : A → Algorithm Value) → BigStep p s.store t.store (Fails f)
      → RefinesAlgorithm s (p >>= k) t (act.Fault (fault_of f))
  works_failed f k comes = record {
    is = λ kept told. over f (later_work k) comes kept told ∙ ap (λ q. run_in kept told s q) (sym (apart_work k));
  }

  pub completes_failed : (f : AlgorithmFault) (k : A → Part Completion) → BigStep p s.store t.store (Fails f)
      → RefinesStatement s (and_then (lift p) (on_given k)) t (act.Fault (fault_of f))
  completes_failed f k comes = record {
    is = λ kept told.
        over f (later_completion k) comes kept told ∙ ap (λ q. run_in kept told s q) (sym (apart_completion k));
  }

-- an algorithm that gives a value, as all that is done
pub works_ends : (s t : State) (is : IsStored s t) (p : Algorithm Value) (b : Answer Value)
    → BigStep p s.store t.store (Ends b) → RefinesAlgorithm s p t (act_of b)
works_ends s t is p b comes = record {
  is = λ kept told.
      handed_on b kept told
      ∙ goes s t is p b (λ c. continuation_of s (given_of c)) comes kept told
      ∙ ap (λ q. run_in kept told s q) (sym (and_then-assoc (lift p) (λ c. End (given_of c)) (continuation_of s)));
}
  where
    handed_on : (c : Answer Value) (kept : Operation → Bool) (told : List Operation)
        → behaviour_after kept told t (act_of c) ≡ run_in kept told (record s { store = t.store })
        (continuation_of s (given_of c))
    handed_on (gives v) kept told = ap (λ (w : State). run_in kept told w (continuation_of w (given_of (gives v)))) is
    handed_on (throws v) kept told = ap (λ (w : State). run_in kept told w (continuation_of w (given_of (throws v)))) is

pub works_fails : (s t : State) (is : IsStored s t) (p : Algorithm Value) (f : AlgorithmFault)
    → BigStep p s.store t.store (Fails f) → RefinesAlgorithm s p t (act.Fault (fault_of f))
works_fails s t is p f comes = record {
  is = λ kept told.
      over s t is p f (λ c. continuation_of s (given_of c)) comes kept told
      ∙ ap (λ q. run_in kept told s q) (sym (and_then-assoc (lift p) (λ c. End (given_of c)) (continuation_of s)));
}
