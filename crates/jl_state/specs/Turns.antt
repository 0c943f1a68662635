-- What a turn of a loop, its labels and its visits stand for (12.6, 12.12).
use Rattle.std.specs.Borrow.{Bor}
use Rattle.std.specs.Prelude.{[], drop, map, List, ℕ}
use Rattle.jl_ast.specs.View.{view_expression, view_optional, view_statements}
use Rattle.jl_ast.specs.declared.tree.Stmt.{Stmt}
use Rattle.jl_heap.specs.Objects.{Name}
use Rattle.jl_meaning.specs.Parts.{do_loop, for_in_loop, for_loop, while_loop}
use Rattle.jl_meaning.specs.Parts as parts
use Rattle.jl_state.specs.Trees.{plain, plain_forest, plain_optional}
use Rattle.jl_state.specs.Words.{context_of, visit_of}
use Rattle.jl_state.specs.declared.calls.Call.{Call}
use Rattle.jl_state.specs.declared.statement_frame.Loop.{Loop}
use Rattle.jl_state.specs.declared.statement_frame.Loop.TheVariants as loop
use Rattle.jl_state.specs.declared.statement_frame.LoopTurn.{LoopTurn}
use Rattle.jl_state.specs.declared.statement_frame.Visits.{Visits}

-- the labels before a statement, the innermost one first
abbrev pub labels_seen : List (Bor (List ℕ)) → List Name
labels_seen labels = map (λ (x : Bor (List ℕ)). x.now) labels

-- the visits that are left
abbrev pub visits_seen : Visits → List parts.Visit
visits_seen v = map visit_of (drop v.from v.visits)

-- a loop, which has no name to put where it is a `for-in`
abbrev pub loop_seen : Loop → parts.Loop
loop_seen (loop.Do l e) = do_loop (plain_forest (view_statements l.now)) (plain (view_expression e.now))
loop_seen (loop.While e l) = while_loop (plain (view_expression e.now)) (plain_forest (view_statements l.now))
loop_seen (loop.For e u l) =
    for_loop (plain_optional (view_optional e.now)) (plain_optional (view_optional u.now))
    (plain_forest (view_statements l.now))
loop_seen (loop.ForIn x visits l) = for_in_loop x.now [] (visits_seen visits) (plain_forest (view_statements l.now))

-- its body
abbrev pub body_seen : Loop → List Stmt
body_seen (loop.Do l e) = l.now
body_seen (loop.While e l) = l.now
body_seen (loop.For e u l) = l.now
body_seen (loop.ForIn x visits l) = l.now

abbrev pub turn_seen : List Call → LoopTurn → parts.Turn
turn_seen calls t =
    record { loop = loop_seen t.kind; context = context_of calls t.here; labels = labels_seen t.labels; id = 0 }
