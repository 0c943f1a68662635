-- What the calls of a state do to what is left to do: each turns what holds of the state after it into what holds of
-- the state before.
use Rattle.std.specs.Prelude.{◌≡◌}
use Rattle.jl_value.specs.declared.ending.Completion.{Completion}
use Rattle.jl_value.specs.declared.value.Value.{Value}
use Rattle.jl_effects.specs.Effects.{and_then, Step}
use Rattle.jl_meaning.specs.Completions.{on_given}
use Rattle.jl_meaning.specs.Parts.{lift, ◌>>=◌, Algorithm, Answer, Part}
use Rattle.jl_state.specs.AlgorithmFrames.{algorithm_after}
use Rattle.jl_state.specs.StatementFrames.{completion_after, statement_after}
use Rattle.jl_state.specs.ValueFrames.{value_after}
use Rattle.jl_state.specs.Rest.{end_program, continuation_of, RefinesStatement, Completion-given, RefinesExpression}
use Rattle.jl_state.specs.Rest.{RefinesAlgorithm}
use Rattle.jl_state.specs.Words.{table_of}
use Rattle.jl_state.specs.declared.act.Act.{Act}
use Rattle.jl_state.specs.declared.act.Act.TheVariants as act
use Rattle.jl_state.specs.declared.algorithm_frame.AlgorithmFrame.{AlgorithmFrame}
use Rattle.jl_state.specs.declared.statement_frame.CompletionFrame.{CompletionFrame}
use Rattle.jl_state.specs.declared.statement_frame.StatementFrame.{StatementFrame}
use Rattle.jl_state.specs.declared.value_frame.ValueFrame.{ValueFrame}
use Rattle.jl_state.specs.declared.state.State.{State}

-- t is s, of whose steps one was taken
pub record Took (s t : State) : Type 0 where
  pub gives : (p : Part (Answer Value)) (u : State) (a : Act) → RefinesExpression t p u a
      → RefinesExpression s (Step p) u a
  pub completes : (p : Part Completion) (u : State) (a : Act) → RefinesStatement t p u a
      → RefinesStatement s (Step p) u a
  pub works : (p : Algorithm Value) (u : State) (a : Act) → RefinesAlgorithm t p u a → RefinesAlgorithm s (Step p) u a

-- no step is left
pub record RanOut (s : State) : Type 0 where
  pub gives : (p : Part (Answer Value)) → RefinesExpression s (Step p) s act.Spent
  pub completes : (p : Part Completion) → RefinesStatement s (Step p) s act.Spent
  pub works : (p : Algorithm Value) → RefinesAlgorithm s (Step p) s act.Spent

-- t is s with a frame on it
pub record ValueWaits (s : State) (f : ValueFrame) (t : State) : Type 0 where
  pub gives : (p : Part (Answer Value)) (u : State) (a : Act) → RefinesExpression t p u a
      → RefinesExpression s (p >>= value_after (table_of s.functions) s.calls f) u a
  pub works : (p : Algorithm Value) (u : State) (a : Act) → RefinesAlgorithm t p u a
      → RefinesExpression s (lift p >>= value_after (table_of s.functions) s.calls f) u a

pub record AlgorithmWaits (s : State) (f : AlgorithmFrame) (t : State) : Type 0 where
  pub works : (p : Algorithm Value) (u : State) (a : Act) → RefinesAlgorithm t p u a
      → RefinesAlgorithm s (p >>= algorithm_after f) u a

pub record StatementWaits (s : State) (f : StatementFrame) (t : State) : Type 0 where
  pub gives : (p : Part (Answer Value)) (u : State) (a : Act) → RefinesExpression t p u a
      → RefinesStatement s (and_then p (on_given (statement_after (table_of s.functions) s.calls f))) u a
  pub works : (p : Algorithm Value) (u : State) (a : Act) → RefinesAlgorithm t p u a
      → RefinesStatement s (and_then (lift p) (on_given (statement_after (table_of s.functions) s.calls f))) u a

pub record CompletionWaits (s : State) (f : CompletionFrame) (t : State) : Type 0 where
  pub completes : (p : Part Completion) (u : State) (a : Act) → RefinesStatement t p u a
      → RefinesStatement s (and_then p (completion_after (table_of s.functions) s.calls f)) u a

-- the part has the value v at once, with which t goes on, and no frame waits for it
pub record Supplies (s : State) (p : Part (Answer Value)) (v : Value) (t : State) : Type 0 where
  pub gives : (k : Value → Part (Answer Value)) (u : State) (a : Act) → RefinesExpression t (k v) u a
      → RefinesExpression s (p >>= k) u a
  pub completes : (k : Value → Part Completion) (u : State) (a : Act) → RefinesStatement t (k v) u a
      → RefinesStatement s (and_then p (on_given k)) u a

-- what the frames of s do with a completion, those of t do
pub record LeavesTo (s : State) (how : Completion) (t : State) : Type 0 where
  pub is : continuation_of s (Completion-given how) ≡ continuation_of t (Completion-given how)

-- no frame handles it, so that the program ends with it
pub record IsUncaught (s : State) (how : Completion) : Type 0 where
  pub is : continuation_of s (Completion-given how) ≡ end_program how
