-- Parts that have their value at once, so that what waits for it pushes no frame.
use Rattle.std.proofs.Common.{◌≡◌, ◌-◌, ◌<◌, ◌≤◌, ◌∙◌, ap, arith, refl, subst, sym, IfOk, Option, Result, Some, ℕ}
use mathlib.Core.Path.{fun_ext}
use Rattle.std.proofs.lemmas.Result.{IfOk-weaker}
use Rattle.jl_num.specs.Number.{Number}
use Rattle.jl_value.specs.declared.value.Value.{Value}
use Rattle.jl_value.specs.declared.value.Value.TheVariants as value
use Rattle.jl_op.specs.Operations.{Operation}
use Rattle.jl_op.specs.declared.op.Op.{Op}
use Rattle.jl_effects.specs.Effects.{and_then, Look, Perform, Step}
use Rattle.jl_effects.specs.Running.{Ends}
use Rattle.jl_effects.proofs.Chains.{and_then-assoc}
use Rattle.jl_meaning.specs.Completions.{on_given}
use Rattle.jl_meaning.specs.Noting.{note_or_misuse, performs}
use Rattle.jl_meaning.specs.Parts.{continue_with, give, gives, lift, throws, ◌>>=◌, Algorithm, Answer, Part}
use Rattle.jl_meaning.specs.Store.{Store}
use Rattle.jl_meaning.specs.forms.Literals.{literal, literal_op}
use Rattle.jl_value.specs.declared.ending.Completion.{Completion}
use Rattle.jl_meaning.proofs.Binds.{bind_assoc}
use Rattle.jl_store.specs.BigStep.{BigStep}
use Rattle.jl_state.specs.Clauses.{Evaluates, Executes, RankAtMost, Resumes, ResumesStatement}
use Rattle.jl_state.specs.Rank.{RankedBelow}
use Rattle.jl_state.specs.Rest.{RefinesStatement, RefinesExpression}
use Rattle.jl_state.specs.StatementFrames.{statement_after}
use Rattle.jl_state.specs.Steps.{Supplies, Took}
use Rattle.jl_state.specs.ValueFrames.{value_after}
use Rattle.jl_state.specs.Words.{table_of}
use Rattle.jl_state.specs.declared.act.Act.{Act}
use Rattle.jl_state.specs.declared.calls.Call.{Call}
use Rattle.jl_state.specs.declared.state.State.{State}
use Rattle.jl_state.specs.declared.statement_frame.StatementFrame.{StatementFrame}
use Rattle.jl_state.specs.declared.value_frame.ValueFrame.{ValueFrame}
use Rattle.jl_state.proofs.Stores.{completes_comes, gives_comes}

-- a part that takes a step first
pub supplies_step : (s t : State) (p : Part (Answer Value)) (v : Value) → Took s t → Supplies t p v t
    → Supplies s (Step p) v t
supplies_step s t p v took supplies = record {
  gives = λ k u a refines. took.gives (p >>= k) u a (supplies.gives k u a refines);
  completes = λ k u a refines. took.completes (and_then p (on_given k)) u a (supplies.completes k u a refines);
}

-- a value
pub supplies_given : (s : State) (v : Value) → Supplies s (give v) v s
supplies_given s v = record { gives = λ k u a refines. refines; completes = λ k u a refines. refines }

-- an algorithm that leaves the store as it is
pub supplies_comes : (s : State) (p : Algorithm Value) (v : Value) → BigStep p s.store s.store (Ends (gives v))
    → Supplies s (lift p) v s
supplies_comes s p v comes = record {
  gives = λ k u a refines. gives_comes s s refl p v k u a comes refines;
  completes = λ k u a refines. completes_comes s s refl p v k u a comes refines;
}

-- a look at the store
pub supplies_looked : (s : State) (l : Store → Part (Answer Value)) (p : Part (Answer Value)) (v : Value)
    → p ≡ l s.store → Supplies s p v s → Supplies s (Look l) v s
supplies_looked s l p v e supplies = record {
  gives = λ k u a refines. record {
    is = (subst (λ q. RefinesExpression s (q >>= k) u a) e (supplies.gives k u a refines)).is;
  };
  completes = λ k u a refines. record {
    is = (subst (λ q. RefinesStatement s (and_then q (on_given k)) u a) e (supplies.completes k u a refines)).is;
  };
}

-- an operation of the script's own
pub supplies_performed : (s : State) (o : Operation) (p : Part (Answer Value)) (v : Value) → Supplies s p v s
    → Supplies s (Perform o p) v s
supplies_performed s o p v supplies = record {
  gives = λ k u a refines. record { is = (supplies.gives k u a refines).is };
  completes = λ k u a refines. record { is = (supplies.completes k u a refines).is };
}

-- and one after a part, by the value of that
module _ (o : Store → Value → Operation) where
  abbrev noted : Value → Part (Answer Value)
  noted v = Look (λ store. Perform (o store v) (give v))

  noted_completes : (p : Part (Answer Value)) (k : Value → Part Completion)
      → and_then (p >>= noted) (on_given k)
      ≡ and_then p (on_given (λ v. Look (λ store. Perform (o store v) (k v))))
  noted_completes p k = and_then-assoc p (continue_with noted) (on_given k) ∙ ap (and_then p) (fun_ext each)
    where
      each : (b : Answer Value) → and_then (continue_with noted b) (on_given k)
          ≡ on_given (λ v. Look (λ store. Perform (o store v) (k v))) b
      each (gives v) = refl
      each (throws v) = refl

  pub supplies_noted : (s : State) (p : Part (Answer Value)) (v : Value) → Supplies s p v s
      → Supplies s (p >>= λ w. Look (λ store. Perform (o store w) (give w))) v s
  supplies_noted s p v supplies = record {
    gives = λ k u a refines. subst (λ q. RefinesExpression s q u a) (sym (bind_assoc p noted k))
        (supplies.gives (λ w. noted w >>= k) u a (record { is = refines.is }));
    completes = λ k u a refines. subst (λ q. RefinesStatement s q u a) (sym (noted_completes p k))
        (supplies.completes (λ w. Look (λ store. Perform (o store w) (k w))) u a (record { is = refines.is }));
  }

-- a literal of a primitive value (7.8)
pub supplies_literal : (s : State) (v : Value) (o : Op) → Some o ≡ literal_op s.store.heap v
    → Supplies s (literal performs 0 v) v s
unfolding literal
supplies_literal s v o is =
    supplies_looked s (λ store. note_or_misuse performs 0 v (literal_op store.heap v))
    (note_or_misuse performs 0 v (Some o)) v (ap (note_or_misuse performs 0 v) is)
    (supplies_performed s (record { 0 = 0 }, o) (give v) v (supplies_given s v))

-- What goes on with the value after that step: with t, which is s but for the step.
abbrev TookOne : State → State → Type 0
TookOne s t = t ≡ record s { left = s.left - 1 }

module _ (s t : State) (is : TookOne s t) (p : Part (Answer Value)) (v : Value) (supplies : Supplies s p v t) where
  -- an expression whose frame is resumed at once
  pub supplied_value : (f : ValueFrame) (u : State) (a : Act)
      → RefinesExpression t (value_after (table_of t.functions) t.calls f v) u a
      → RefinesExpression s (p >>= value_after (table_of s.functions) s.calls f) u a
  supplied_value f u a refines =
      supplies.gives (value_after (table_of s.functions) s.calls f) u a
      (subst (λ c. RefinesExpression t (value_after (table_of s.functions) c f v) u a) (ap (λ (w : State). w.calls) is)
      (subst (λ l. RefinesExpression t (value_after (table_of l) t.calls f v) u a)
      (ap (λ (w : State). w.functions) is) refines))

  -- a statement
  pub supplied_statement : (f : StatementFrame) (u : State) (a : Act)
      → RefinesStatement t (statement_after (table_of t.functions) t.calls f v) u a
      → RefinesStatement s (and_then p (on_given (statement_after (table_of s.functions) s.calls f))) u a
  supplied_statement f u a refines =
      supplies.completes (statement_after (table_of s.functions) s.calls f) u a
      (subst (λ c. RefinesStatement t (statement_after (table_of s.functions) c f v) u a)
      (ap (λ (w : State). w.calls) is)
      (subst (λ l. RefinesStatement t (statement_after (table_of l) t.calls f v) u a)
      (ap (λ (w : State). w.functions) is)
      refines))

  -- the same of what a call answers that goes on
  pub resumes_supplied : {E : Type 0} (f : ValueFrame) (r : Result Act E) (u : State) → Resumes t f v r u
      → Evaluates s (p >>= value_after (table_of s.functions) s.calls f) r u
  resumes_supplied f r u refines =
      IfOk-weaker r (λ a. RefinesExpression t (value_after (table_of t.functions) t.calls f v) u a)
      (λ a. RefinesExpression s (p >>= value_after (table_of s.functions) s.calls f) u a)
      (λ a g. supplied_value f u a g) refines

  pub resumes_supplied_statement : {E : Type 0} (f : StatementFrame) (r : Result Act E) (u : State)
      → ResumesStatement t f v r u
      → Executes s (and_then p (on_given (statement_after (table_of s.functions) s.calls f))) r u
  resumes_supplied_statement f r u refines =
      IfOk-weaker r (λ a. RefinesStatement t (statement_after (table_of t.functions) t.calls f v) u a)
      (λ a. RefinesStatement s (and_then p (on_given (statement_after (table_of s.functions) s.calls f))) u a)
      (λ a g. supplied_statement f u a g) refines

  pub evaluates_supplied : {E : Type 0} (k : Value → Part (Answer Value)) (r : Result Act E) (u : State)
      → Evaluates t (k v) r u → Evaluates s (p >>= k) r u
  evaluates_supplied k r u refines =
      IfOk-weaker r (λ a. RefinesExpression t (k v) u a) (λ a. RefinesExpression s (p >>= k) u a)
      (λ a g. supplies.gives k u a g) refines

  pub executes_supplied : {E : Type 0} (k : Value → Part Completion) (r : Result Act E) (u : State)
      → Executes t (k v) r u → Executes s (and_then p (on_given k)) r u
  executes_supplied k r u refines =
      IfOk-weaker r (λ a. RefinesStatement t (k v) u a) (λ a. RefinesStatement s (and_then p (on_given k)) u a)
      (λ a g. supplies.completes k u a g) refines

-- after a step, what is done may be as much as is due until the next one, whatever it was before

pub falls_after_step : {n m : ℕ} (s t u : State) (a : Act) → t.left < s.left → RankedBelow t m u a → RankedBelow s n u a
falls_after_step {n} {m} s t u a fewer bounded =
    let left : u.left ≤ t.left = bounded.left in
    record {
      left = omega arith;
      lower = λ same. absurd (omega arith);
    }

pub falls_supplied : {E : Type 0} (n m : ℕ) (s t : State) (r : Result Act E) (u : State) → t.left < s.left
    → RankAtMost t m r u → RankAtMost s n r u
falls_supplied n m s t r u fewer bounded =
    IfOk-weaker r (λ a. RankedBelow t m u a) (λ a. RankedBelow s n u a)
    (λ a g. falls_after_step s t u a fewer g) bounded
