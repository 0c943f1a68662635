-- Turns of loops, by the kind of the loop (12.6).
use Rattle.std.proofs.Common.{◌≡◌, [], Bool, List, None, Option, Some, ℕ, if◌then◌else◌, subst, sym}
use Rattle.std.specs.Borrow.{Bor}
use Rattle.jl_ast.specs.View.{view_expression, view_optional}
use Rattle.jl_ast.specs.declared.tree.Expr.{Expr}
use Rattle.jl_ast.specs.declared.tree.Stmt.{Stmt}
use Rattle.jl_value.specs.declared.ending.Completion.{Completion}
use Rattle.jl_value.specs.declared.ending.Completion.TheVariants as completion
use Rattle.jl_value.specs.declared.value.Value.{Value}
use Rattle.jl_value.specs.declared.value.Value.TheVariants as value
use Rattle.jl_effects.specs.Effects.{and_then}
use Rattle.jl_heap.specs.Objects.{Name}
use Rattle.jl_meaning.specs.Completions.{normal, on_given, then_do}
use Rattle.jl_meaning.specs.Expressions.{evaluate}
use Rattle.jl_meaning.specs.Parts.{lift, Answer, Part}
use Rattle.jl_meaning.specs.References.{put_name}
use Rattle.jl_meaning.specs.Statements.{test_loop, update_loop}
use Rattle.jl_meaning.specs.forms.Names.{unless_hooks}
use Rattle.jl_state.specs.Rest.{RefinesStatement}
use Rattle.jl_state.specs.StatementFrames.{after_loop_body, loop_body, next_turn, statement_after}
use Rattle.jl_state.specs.Trees.{plain, plain_optional}
use Rattle.jl_state.specs.Words.{context_of, table_of}
use Rattle.jl_state.specs.declared.act.Act.{Act}
use Rattle.jl_state.specs.declared.statement_frame.Loop.{Loop}
use Rattle.jl_state.specs.declared.statement_frame.Loop.TheVariants as loop
use Rattle.jl_state.specs.declared.statement_frame.LoopTurn.{LoopTurn}
use Rattle.jl_state.specs.declared.statement_frame.StatementFrame.{StatementFrame}
use Rattle.jl_state.specs.declared.statement_frame.StatementFrame.TheVariants as statement
use Rattle.jl_state.specs.declared.statement_frame.Visits.{Visits}
use Rattle.jl_state.specs.declared.state.State.{State}
use Rattle.jl_statement.specs.inner.Turns.{turn_inside, visit_on}
use Rattle.jl_statement.proofs.Followed.{tests, updates}

-- what holds of a turn of a loop of this kind holds of a turn whose loop is of this kind
by_kind : (P : LoopTurn → Type 0) (turn : LoopTurn) (k : Loop) → turn.kind ≡ k → P (record turn { kind = k })
    → P turn
by_kind P turn k is holds = subst (λ j. P (record turn { kind = j })) (sym is) holds

module _ (s : State) (turn : LoopTurn) (t : State) (a : Act) where
  abbrev Refines : Part Completion → Type 0
  Refines p = RefinesStatement s p t a

  abbrev body : LoopTurn → Part Completion
  body w = loop_body (table_of s.functions) s.calls w

  abbrev next : LoopTurn → Part Completion
  next w = next_turn (table_of s.functions) s.calls w

  abbrev inside : LoopTurn → Part Completion
  inside w = turn_inside (table_of s.functions) s.calls w

  abbrev after : LoopTurn → Part Completion
  after w = after_loop_body (table_of s.functions) s.calls w completion.Normal

  abbrev value_of : Expr → Part (Answer Value)
  value_of e = evaluate (table_of s.functions) (plain (view_expression e)) (context_of s.calls turn.here)

  -- the value of an expression, for which a frame waits
  abbrev handed_to : StatementFrame → Expr → Part Completion
  handed_to f e = and_then (value_of e) (on_given (statement_after (table_of s.functions) s.calls f))

  abbrev if_true : Part Completion → Bool → Part Completion
  if_true p truth = if truth then p else normal

  -- what a turn does after the step with which it begins

  pub turns_do : (l : Bor (List Stmt)) (e : Bor Expr) → turn.kind ≡ loop.Do l e → Refines (body turn)
      → Refines (inside turn)
  turns_do l e is =
      by_kind (λ w. Refines (body w) → Refines (inside w)) turn (loop.Do l e) is (λ refines. refines)

  pub turns_while : (e : Bor Expr) (l : Bor (List Stmt)) → turn.kind ≡ loop.While e l
      → Refines (handed_to (statement.Test turn) e.now) → Refines (inside turn)
  turns_while e l is =
      by_kind (λ w. Refines (handed_to (statement.Test w) e.now) → Refines (inside w)) turn (loop.While e l) is
      (tests s (value_of e.now) (if_true (body (record turn { kind = loop.While e l }))) t a)

  pub turns_for : (e u : Bor (Option Expr)) (l : Bor (List Stmt)) (x : Expr) → turn.kind ≡ loop.For e u l
      → e.now ≡ Some x → Refines (handed_to (statement.Test turn) x) → Refines (inside turn)
  turns_for e u l x is some =
      let over = record turn { kind = loop.For e u l } in
      by_kind (λ w. Refines (handed_to (statement.Test w) x) → Refines (inside w)) turn (loop.For e u l) is
      (λ refines. subst (λ o. Refines (and_then (test_loop (table_of s.functions) (plain_optional (view_optional o)) 0
      (context_of s.calls turn.here)) (on_given (if_true (body over))))) (sym some)
      (tests s (value_of x) (if_true (body over)) t a refines))

  -- a `for` without a test
  pub turns_untested : (e u : Bor (Option Expr)) (l : Bor (List Stmt)) → turn.kind ≡ loop.For e u l
      → e.now ≡ None → Refines (body turn) → Refines (inside turn)
  turns_untested e u l is none =
      let over = record turn { kind = loop.For e u l } in
      by_kind (λ w. Refines (body w) → Refines (inside w)) turn (loop.For e u l) is
      (λ refines. subst (λ o. Refines (and_then (test_loop (table_of s.functions) (plain_optional (view_optional o)) 0
      (context_of s.calls turn.here)) (on_given (if_true (body over))))) (sym none) refines)

  -- a turn of a `for-in`, which has no name to put
  pub turns_for_in : (x : Bor (List ℕ)) (visits : Visits) (l : Bor (List Stmt)) (name : Name)
      → turn.kind ≡ loop.ForIn x visits l → name ≡ []
      → Refines (and_then (unless_hooks x.now (lift (put_name turn.here.strict turn.here.env x.now (value.Text name))))
      (on_given (λ _. body turn)))
      → Refines (inside turn)
  turns_for_in x visits l name is none =
      let put = λ (n : Name) (w : LoopTurn). and_then (unless_hooks x.now (lift (put_name turn.here.strict turn.here.env
      x.now (value.Text n)))) (on_given (λ _. body w)) in
      by_kind (λ w. Refines (put name w) → Refines (inside w)) turn (loop.ForIn x visits l) is
      (subst (λ n. Refines (put n (record turn { kind = loop.ForIn x visits l }))) none)

  -- what follows the body of a loop that goes on

  pub ends_do : (l : Bor (List Stmt)) (e : Bor Expr) → turn.kind ≡ loop.Do l e
      → Refines (handed_to (statement.Test turn) e.now) → Refines (after turn)
  ends_do l e is =
      by_kind (λ w. Refines (handed_to (statement.Test w) e.now) → Refines (after w)) turn (loop.Do l e) is
      (tests s (value_of e.now) (if_true (next (record turn { kind = loop.Do l e }))) t a)

  pub ends_while : (e : Bor Expr) (l : Bor (List Stmt)) → turn.kind ≡ loop.While e l → Refines (next turn)
      → Refines (after turn)
  ends_while e l is =
      by_kind (λ w. Refines (next w) → Refines (after w)) turn (loop.While e l) is (λ refines. refines)

  pub ends_for : (e u : Bor (Option Expr)) (l : Bor (List Stmt)) (x : Expr) → turn.kind ≡ loop.For e u l
      → u.now ≡ Some x → Refines (handed_to (statement.Update turn) x) → Refines (after turn)
  ends_for e u l x is some =
      let over = record turn { kind = loop.For e u l } in
      by_kind (λ w. Refines (handed_to (statement.Update w) x) → Refines (after w)) turn (loop.For e u l) is
      (λ refines. subst (λ o. Refines (then_do (update_loop (table_of s.functions) (plain_optional (view_optional o))
      (context_of s.calls turn.here)) (next over))) (sym some) (updates s (value_of x) (next over) t a refines))

  -- a `for` without an update
  pub ends_without : (e u : Bor (Option Expr)) (l : Bor (List Stmt)) → turn.kind ≡ loop.For e u l → u.now ≡ None
      → Refines (next turn) → Refines (after turn)
  ends_without e u l is none =
      let over = record turn { kind = loop.For e u l } in
      by_kind (λ w. Refines (next w) → Refines (after w)) turn (loop.For e u l) is
      (λ refines. subst (λ o. Refines (then_do (update_loop (table_of s.functions) (plain_optional (view_optional o))
      (context_of s.calls turn.here)) (next over))) (sym none) refines)

  pub ends_for_in : (x : Bor (List ℕ)) (visits : Visits) (l : Bor (List Stmt)) → turn.kind ≡ loop.ForIn x visits l
      → Refines (visit_on s.calls turn) → Refines (after turn)
  ends_for_in x visits l is =
      by_kind (λ w. Refines (visit_on s.calls w) → Refines (after w)) turn (loop.ForIn x visits l) is
      (λ refines. refines)
