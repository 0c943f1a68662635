-- Turns of loops (12.6).
use Rattle.std.proofs.Common.{◌≡◌, ◌-◌, ◌∷◌, List, None, Option, Some, ℕ, false, true}
use Rattle.std.proofs.Common.{ap, if◌then◌else◌, refl, sym, subst}
use Rattle.std.specs.Borrow.{Bor}
use Rattle.jl_value.specs.declared.ending.Completion.{Completion}
use Rattle.jl_value.specs.declared.ending.Completion.TheVariants as completion
use Rattle.jl_value.specs.declared.value.Value.{Value}
use Rattle.jl_conv.specs.Conversions.{truth_of}
use Rattle.jl_effects.specs.Effects.{and_then}
use Rattle.jl_meaning.specs.Completions.{normal, on_given}
use Rattle.jl_meaning.specs.FunctionObjects.{FunctionTable}
use Rattle.jl_meaning.specs.Parts.{Part, TurnOf}
use Rattle.jl_meaning.specs.Statements.{execute_all}
use Rattle.jl_meaning.specs.forms.Loops.{after_body, begin_turn}
use Rattle.jl_meaning.specs.forms.Operators.{decide}
use Rattle.jl_ast.specs.View.{view_statements}
use Rattle.jl_ast.specs.declared.tree.Stmt.{Stmt}
use Rattle.jl_meaning.specs.Jobs.{job}
use Rattle.jl_state.specs.Rest.{RefinesStatement}
use Rattle.jl_state.specs.StatementFrames.{after_loop_body, loop_body, next_turn, statement_after}
use Rattle.jl_state.specs.Steps.{RanOut, Took}
use Rattle.jl_state.specs.Trees.{plain_forest}
use Rattle.jl_state.specs.Turns.{body_seen, labels_seen, turn_seen}
use Rattle.jl_state.specs.Words.{context_of, table_of}
use Rattle.jl_state.specs.declared.act.Act.{Act}
use Rattle.jl_state.specs.declared.act.Act.TheVariants as act
use Rattle.jl_state.specs.declared.calls.Call.{Call}
use Rattle.jl_state.specs.declared.frame.Frame.TheVariants as frame
use Rattle.jl_state.specs.declared.frame.Here.{Here}
use Rattle.jl_state.specs.declared.statement_frame.CompletionFrame.TheVariants as completing
use Rattle.jl_state.specs.declared.statement_frame.Loop.{Loop}
use Rattle.jl_state.specs.declared.statement_frame.Loop.TheVariants as loop
use Rattle.jl_state.specs.declared.statement_frame.LoopTurn.{LoopTurn}
use Rattle.jl_state.specs.declared.statement_frame.StatementFrame.TheVariants as statement
use Rattle.jl_state.specs.declared.state.State.{State}
use Rattle.jl_state.proofs.Steps.{begins_turn}
use Rattle.jl_statement.specs.inner.Ends.{ends_or}
use Rattle.jl_statement.specs.inner.Turns.{is_do, turn_inside}
use Rattle.jl_statement.proofs.Executes.{statements_over}
use Rattle.jl_statement.proofs.Followed.{decided}

module _ (table : FunctionTable) (calls : List Call) where
  next_of : (k : Loop) (here : Here) (labels : List (Bor (List ℕ)))
      → next_turn table calls (record { kind = k; here = here; labels = labels })
      ≡ begin_turn (turn_seen calls (record { kind = k; here = here; labels = labels }))
  next_of (loop.Do l e) here labels = refl
  next_of (loop.While e l) here labels = refl
  next_of (loop.For e u l) here labels = refl
  next_of (loop.ForIn x visits l) here labels = refl

  body_next : (k : Loop) (here : Here) (labels : List (Bor (List ℕ)))
      → loop_body table calls (record { kind = k; here = here; labels = labels })
      ≡ and_then (execute_all table (plain_forest (view_statements (body_seen k))) (context_of calls here))
      (after_loop_body table calls (record { kind = k; here = here; labels = labels }))
  body_next (loop.Do l e) here labels = refl
  body_next (loop.While e l) here labels = refl
  body_next (loop.For e u l) here labels = refl
  body_next (loop.ForIn x visits l) here labels = refl

  abbrev tested_by : (turn : LoopTurn) (v : Value) → Part Completion → Part Completion
  tested_by turn v p = and_then (decide 0 v) (on_given (λ truth. if truth then p else normal))

  tested_first : (k : Loop) (here : Here) (labels : List (Bor (List ℕ))) (v : Value) → is_do k ≡ false
      → statement_after table calls (statement.Test (record { kind = k; here = here; labels = labels })) v
      ≡ tested_by (record { kind = k; here = here; labels = labels }) v
      (loop_body table calls (record { kind = k; here = here; labels = labels }))
  tested_first (loop.Do l e) here labels v is = absurd (let differ = is in cc)
  tested_first (loop.While e l) here labels v is = refl
  tested_first (loop.For e u l) here labels v is = refl
  tested_first (loop.ForIn x visits l) here labels v is = refl

  tested_last : (k : Loop) (here : Here) (labels : List (Bor (List ℕ))) (v : Value) → is_do k ≡ true
      → statement_after table calls (statement.Test (record { kind = k; here = here; labels = labels })) v
      ≡ tested_by (record { kind = k; here = here; labels = labels }) v
      (next_turn table calls (record { kind = k; here = here; labels = labels }))
  tested_last (loop.Do l e) here labels v is = refl
  tested_last (loop.While e l) here labels v is = absurd (let differ = is in cc)
  tested_last (loop.For e u l) here labels v is = absurd (let differ = is in cc)
  tested_last (loop.ForIn x visits l) here labels v is = absurd (let differ = is in cc)

  tested_over : (k : Loop) (here : Here) (labels : List (Bor (List ℕ))) (v : Value)
      → statement_after table calls (statement.Test (record { kind = k; here = here; labels = labels })) v
      ≡ tested_by (record { kind = k; here = here; labels = labels }) v
      (if is_do k then next_turn table calls (record { kind = k; here = here; labels = labels })
      else loop_body table calls (record { kind = k; here = here; labels = labels }))
  tested_over (loop.Do l e) here labels v = refl
  tested_over (loop.While e l) here labels v = refl
  tested_over (loop.For e u l) here labels v = refl
  tested_over (loop.ForIn x visits l) here labels v = refl

-- a turn takes a step
pub turns : (s t : State) (turn : LoopTurn) (u : State) (a : Act) → Took s t → t ≡ record s { left = s.left - 1 }
    → RefinesStatement t (turn_inside (table_of t.functions) t.calls turn) u a
    → RefinesStatement s (next_turn (table_of s.functions) s.calls turn) u a
turns s t turn u a took is refines =
    let table = table_of s.functions in
    subst (λ q. RefinesStatement s q u a) (sym (next_of table s.calls turn.kind turn.here turn.labels))
    (begins_turn s (turn_seen s.calls turn) u a
    (took.completes (job table (TurnOf (turn_seen s.calls turn))) u a
    (subst (λ c. RefinesStatement t (turn_inside table c turn) u a) (ap (λ (v : State). v.calls) is)
    (subst (λ f. RefinesStatement t (turn_inside (table_of f) t.calls turn) u a)
    (ap (λ (v : State). v.functions) is) refines))))

pub turn_spent : (s t : State) (turn : LoopTurn) → RanOut s → t ≡ s
    → RefinesStatement s (next_turn (table_of s.functions) s.calls turn) t act.Spent
turn_spent s t turn none is =
    let table = table_of s.functions in
    subst (λ u. RefinesStatement s (next_turn table s.calls turn) u act.Spent) (sym is)
    (subst (λ q. RefinesStatement s q s act.Spent) (sym (next_of table s.calls turn.kind turn.here turn.labels))
    (begins_turn s (turn_seen s.calls turn) s act.Spent (none.completes (job table (TurnOf (turn_seen s.calls turn))))))

-- the body of a turn, over the loop
pub bodies : (s t : State) (turn : LoopTurn) (l : List Stmt) (u : State) (a : Act)
    → t ≡ record s { stack = frame.Completion (completing.LoopBody turn) ∷ s.stack } → l ≡ body_seen turn.kind
    → RefinesStatement t (execute_all (table_of t.functions) (plain_forest (view_statements l))
    (context_of t.calls turn.here))
    u a
    → RefinesStatement s (loop_body (table_of s.functions) s.calls turn) u a
bodies s t turn l u a is body refines =
    subst (λ q. RefinesStatement s q u a)
    (sym (body_next (table_of s.functions) s.calls turn.kind turn.here turn.labels))
    (subst (λ m. RefinesStatement s (and_then (execute_all (table_of s.functions) (plain_forest (view_statements m))
    (context_of s.calls turn.here)) (after_loop_body (table_of s.functions) s.calls turn)) u a) body
    (statements_over s t (completing.LoopBody turn) l turn.here u a is refines))

-- the test of a loop holds, before its body or after it
pub tested_body : (s : State) (turn : LoopTurn) (v : Value) (t : State) (a : Act) → true ≡ truth_of v
    → is_do turn.kind ≡ false → RefinesStatement s (loop_body (table_of s.functions) s.calls turn) t a
    → RefinesStatement s (statement_after (table_of s.functions) s.calls (statement.Test turn) v) t a
tested_body s turn v t a holds is refines =
    let table = table_of s.functions in
    subst (λ q. RefinesStatement s q t a) (sym (tested_first table s.calls turn.kind turn.here turn.labels v is))
    (decided s v true (λ truth. if truth then loop_body table s.calls turn else normal) t a holds refines)

pub tested_turn : (s : State) (turn : LoopTurn) (v : Value) (t : State) (a : Act) → true ≡ truth_of v
    → is_do turn.kind ≡ true → RefinesStatement s (next_turn (table_of s.functions) s.calls turn) t a
    → RefinesStatement s (statement_after (table_of s.functions) s.calls (statement.Test turn) v) t a
tested_turn s turn v t a holds is refines =
    let table = table_of s.functions in
    subst (λ q. RefinesStatement s q t a) (sym (tested_last table s.calls turn.kind turn.here turn.labels v is))
    (decided s v true (λ truth. if truth then next_turn table s.calls turn else normal) t a holds refines)

-- the test does not hold
pub tested_end : (s : State) (turn : LoopTurn) (v : Value) → false ≡ truth_of v
    → RefinesStatement s (statement_after (table_of s.functions) s.calls (statement.Test turn) v) s
    (act.Complete completion.Normal)
tested_end s turn v fails =
    let table = table_of s.functions in
    subst (λ q. RefinesStatement s q s (act.Complete completion.Normal))
    (sym (tested_over table s.calls turn.kind turn.here turn.labels v))
    (decided s v false (λ truth. if truth then (if is_do turn.kind then next_turn table s.calls turn
    else loop_body table s.calls turn) else normal) s (act.Complete completion.Normal) fails
    (record { is = λ kept told. refl }))

-- a loop goes on after its body, or ends
pub ends_so : (s : State) (turn : LoopTurn) (how : Completion) (r : Option Completion) (t : State) (a : Act)
    → ((next : Part Completion) → after_body (labels_seen turn.labels) next how ≡ ends_or next r)
    → RefinesStatement s (ends_or (after_loop_body (table_of s.functions) s.calls turn completion.Normal) r) t a
    → RefinesStatement s (after_loop_body (table_of s.functions) s.calls turn how) t a
ends_so s turn how r t a is refines =
    subst (λ q. RefinesStatement s q t a)
    (sym (is (after_loop_body (table_of s.functions) s.calls turn completion.Normal)))
    refines

pub ends_loop : (s : State) (turn : LoopTurn) (how : Completion) (r : Option Completion) (last : Completion)
    → ((next : Part Completion) → after_body (labels_seen turn.labels) next how ≡ ends_or next r) → r ≡ Some last
    → RefinesStatement s (after_loop_body (table_of s.functions) s.calls turn how) s (act.Complete last)
ends_loop s turn how r last is ended =
    ends_so s turn how r s (act.Complete last) is
    (subst (λ o. RefinesStatement s (ends_or
    (after_loop_body (table_of s.functions) s.calls turn completion.Normal) o) s
    (act.Complete last)) (sym ended) (record { is = λ kept told. refl }))

pub goes_on : (s : State) (turn : LoopTurn) (how : Completion) (r : Option Completion) (t : State) (a : Act)
    → ((next : Part Completion) → after_body (labels_seen turn.labels) next how ≡ ends_or next r) → r ≡ None
    → RefinesStatement s (after_loop_body (table_of s.functions) s.calls turn completion.Normal) t a
    → RefinesStatement s (after_loop_body (table_of s.functions) s.calls turn how) t a
goes_on s turn how r t a is going refines =
    ends_so s turn how r t a is
    (subst (λ o. RefinesStatement s (ends_or
    (after_loop_body (table_of s.functions) s.calls turn completion.Normal) o) t a)
    (sym going) refines)
