-- Turns of loops (12.6).
use Rattle.std.specs.Prelude.{false, true, Bool, List}
use Rattle.jl_ast.specs.View.{view_statements}
use Rattle.jl_value.specs.declared.ending.Completion.{Completion}
use Rattle.jl_heap.specs.Objects.{Name}
use Rattle.jl_meaning.specs.Completions.{normal}
use Rattle.jl_meaning.specs.FunctionObjects.{FunctionTable}
use Rattle.jl_meaning.specs.Parts.{Context, Part}
use Rattle.jl_meaning.specs.Statements.{turn}
use Rattle.jl_meaning.specs.forms.Loops.{visit_next}
use Rattle.jl_state.specs.Trees.{plain_forest}
use Rattle.jl_state.specs.Turns.{labels_seen, turn_seen, visits_seen}
use Rattle.jl_state.specs.Words.{context_of}
use Rattle.jl_state.specs.declared.calls.Call.{Call}
use Rattle.jl_state.specs.declared.statement_frame.Loop.{Loop}
use Rattle.jl_state.specs.declared.statement_frame.Loop.TheVariants as loop
use Rattle.jl_state.specs.declared.statement_frame.LoopTurn.{LoopTurn}

-- what a turn does after the step with which it begins
abbrev pub turn_inside : FunctionTable → List Call → LoopTurn → Part Completion
turn_inside table calls t = turn table (turn_seen calls t)

-- the test of the loop comes after its body
abbrev pub is_do : Loop → Bool
is_do (loop.Do l e) = true
is_do (loop.While e l) = false
is_do (loop.For e u l) = false
is_do (loop.ForIn x visits l) = false

-- what a `for-in` visits next; another loop has nothing to visit
abbrev pub visit_in : Context → List Name → Loop → Part Completion
visit_in c labels (loop.Do l e) = normal
visit_in c labels (loop.While e l) = normal
visit_in c labels (loop.For e u l) = normal
visit_in c labels (loop.ForIn x visits l) =
    visit_next x.now (plain_forest (view_statements l.now)) c labels 0 (visits_seen visits)

abbrev pub visit_on : List Call → LoopTurn → Part Completion
visit_on calls t = visit_in (context_of calls t.here) (labels_seen t.labels) t.kind
