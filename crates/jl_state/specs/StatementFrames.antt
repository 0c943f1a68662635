-- What a statement does that waits for a value or for the completion of another.
use Rattle.std.specs.Option.{option_or}
use Rattle.std.specs.Prelude.{drop, if◌then◌else◌, ◌+◌}
use Rattle.std.specs.Prelude.{List, Option, Some, ℕ}
use Rattle.jl_ast.specs.Tree as tree
use Rattle.jl_ast.specs.View.{view_branch, view_cases, view_catch, view_declarators, view_expression}
use Rattle.jl_ast.specs.View.{view_optional, view_statements}
use Rattle.jl_ast.specs.declared.tree.Case.{Case}
use Rattle.jl_ast.specs.declared.tree.Expr.{Expr}
use Rattle.jl_ast.specs.declared.tree.Ident.{Ident}
use Rattle.jl_ast.specs.declared.tree.Stmt.{Stmt}
use Rattle.jl_value.specs.declared.ending.Completion.{Completion}
use Rattle.jl_value.specs.declared.value.Value.{Value}
use Rattle.jl_conv.specs.Comparisons.{strictly_equal}
use Rattle.jl_op.specs.declared.op.Op.TheVariants as op
use Rattle.jl_effects.specs.Effects.{and_then, End}
use Rattle.jl_meaning.specs.Completions.{ends_as, if_normal, normal, then_do}
use Rattle.jl_meaning.specs.Completions as completions
use Rattle.jl_meaning.specs.FunctionObjects.{FunctionTable}
use Rattle.jl_meaning.specs.Noting.{note_value, performs}
use Rattle.jl_meaning.specs.Parts.{begin_call, gives, give, lift, look, new_object, or_fault}
use Rattle.jl_meaning.specs.Parts.{◌>>=◌, Algorithm, Answer, CallOf, Context, NumberOutside, Part}
use Rattle.jl_meaning.specs.Statements.{execute_all, execute_branch, execute_from, handle, select, test_loop}
use Rattle.jl_meaning.specs.Statements.{update_loop}
use Rattle.jl_meaning.specs.forms.Jumps.{after_labelled, return_value, throw_value}
use Rattle.jl_meaning.specs.forms.Loops.{after_body, begin_turn, visit_all, visit_next}
use Rattle.jl_meaning.specs.forms.Operators.{decide}
use Rattle.jl_meaning.specs.forms.Simple.{declare_all}
use Rattle.jl_meaning.specs.forms.Switch.{after_switch, default_of}
use Rattle.jl_meaning.specs.forms.Try.{unless_abrupt}
use Rattle.jl_state.specs.Trees.{items_left, plain, plain_forest, plain_optional}
use Rattle.jl_state.specs.Turns.{body_seen, labels_seen, turn_seen, visits_seen}
use Rattle.jl_state.specs.Words.{context_of}
use Rattle.jl_state.specs.declared.calls.Call.{Call}
use Rattle.jl_state.specs.declared.statement_frame.CompletionFrame.{CompletionFrame}
use Rattle.jl_state.specs.declared.statement_frame.CompletionFrame.TheVariants as completing
use Rattle.jl_state.specs.declared.frame.Here.{Here}
use Rattle.jl_state.specs.declared.statement_frame.Loop.{Loop}
use Rattle.jl_state.specs.declared.statement_frame.Loop.TheVariants as loop
use Rattle.jl_state.specs.declared.statement_frame.LoopTurn.{LoopTurn}
use Rattle.jl_state.specs.declared.statement_frame.StatementFrame.{StatementFrame}
use Rattle.jl_state.specs.declared.statement_frame.StatementFrame.TheVariants as statement

module _ (table : FunctionTable) (calls : List Call) where
  abbrev context : Here → Context
  context here = context_of calls here

  abbrev statements : List Stmt → Here → Part Completion
  statements l here = execute_all table (plain_forest (view_statements l)) (context here)

  abbrev branch : Option (List Stmt) → Here → Part Completion
  branch l here = execute_branch table (plain_optional (view_branch l)) (context here)

  abbrev declared_variables : List (Ident × Option Expr) → Here → Part (Answer (Unit {0}))
  declared_variables l here = declare_all table (plain_forest (view_declarators l)) (context here)

  abbrev pub next_turn : LoopTurn → Part Completion
  next_turn t = begin_turn (turn_seen calls t)

  -- what follows the body of a loop that has completed and goes on
  abbrev after_turn : LoopTurn → Loop → Part Completion
  after_turn t (loop.Do l e) = completions.◌>>=◌ (test_loop table (tree.present (plain (view_expression e.now))) 0
      (context t.here))
      (λ truth. if truth then next_turn t else normal)
  after_turn t (loop.While e l) = next_turn t
  after_turn t (loop.For e u l) =
      then_do (update_loop table (plain_optional (view_optional u.now)) (context t.here)) (next_turn t)
  after_turn t (loop.ForIn x visits l) =
      visit_next x.now (plain_forest (view_statements l.now)) (context t.here) (labels_seen t.labels) 0
      (visits_seen visits)

  abbrev pub after_loop_body : LoopTurn → Completion → Part Completion
  after_loop_body t how = after_body (labels_seen t.labels) (after_turn t t.kind) how

  -- the body of a turn, and what follows
  abbrev pub loop_body : LoopTurn → Part Completion
  loop_body t = and_then (statements (body_seen t.kind) t.here) (after_loop_body t)

  -- what the test of a loop leads to, if it holds
  abbrev after_loop_test : LoopTurn → Loop → Part Completion
  after_loop_test t (loop.Do l e) = next_turn t
  after_loop_test t k = loop_body t

  -- the clauses of a `switch` from the one that is selected
  abbrev run_clauses : List Case → Here → Option ℕ → Part Completion
  run_clauses l here selected =
      ends_as after_switch (execute_from table (option_or selected (default_of (plain_forest (view_cases l))))
      (plain_forest (view_cases l)) (context here))

  abbrev pub statement_after : StatementFrame → Value → Part Completion
  statement_after statement.Expression _ = normal
  statement_after (statement.Variables rest here) _ =
      completions.◌>>=◌ (declared_variables (items_left rest) here) (λ _. normal)
  statement_after (statement.ForHead rest t) _ =
      completions.◌>>=◌ (declared_variables (items_left rest) t.here) (λ _. next_turn t)
  statement_after (statement.ForExpression t) _ = next_turn t
  statement_after (statement.If a b here) v =
      completions.◌>>=◌ (decide 0 v) (λ truth. if truth then statements a.now here else branch b.now here)
  statement_after (statement.ForInObject x l here labels) v =
      completions.◌>>=◌ (note_value performs 0 op.ForIn v)
      (λ _. visit_all x.now (plain_forest (view_statements l.now)) (context here) (labels_seen labels) 0 v)
  statement_after (statement.ForInBody t) _ = loop_body t
  statement_after (statement.Test t) v =
      completions.◌>>=◌ (decide 0 v) (λ truth. if truth then after_loop_test t t.kind else normal)
  statement_after (statement.Update t) _ = next_turn t
  statement_after statement.Return v = return_value 0 v
  statement_after statement.Throw v = throw_value 0 v
  statement_after (statement.Switch l here) v =
      completions.◌>>=◌ (select table 0 (plain_forest (view_cases l.now)) v (context here)) (run_clauses l.now here)
  statement_after (statement.CaseTest v index l here) w =
      completions.◌>>=◌ (if strictly_equal v w then give (Some index)
      else select table (index + 1) (plain_forest (view_cases (drop (index + 1) l.now))) v (context here))
      (run_clauses l.now here)

  abbrev pub completion_after : CompletionFrame → Completion → Part Completion
  completion_after (completing.Statements rest here) how = if_normal (statements (items_left rest) here) how
  completion_after (completing.Clauses rest here) how =
      if_normal (execute_from table (Some 0) (plain_forest (view_cases (items_left rest))) (context here)) how
  completion_after completing.Switch how = End (after_switch how)
  completion_after (completing.Labelled x) how = End (after_labelled x.now how)
  completion_after (completing.LoopBody t) how = after_loop_body t how
  completion_after (completing.TryBlock h f here) tried =
      and_then (handle table (plain_optional (view_catch h.now)) tried (context here))
      (λ handled. ends_as (unless_abrupt handled) (branch f.now here))
  completion_after (completing.CatchBlock f here) handled = ends_as (unless_abrupt handled) (branch f.now here)
  completion_after (completing.FinallyBlock before) how = End (unless_abrupt before how)
