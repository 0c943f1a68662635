-- A statement that is to be executed, for whose completion another one waits.
use Rattle.std.proofs.Common.{◌≡◌, ◌∷◌, [], List, ℕ, ap, refl, subst, sym}
use Rattle.std.specs.Borrow.{Bor}
use Rattle.jl_ast.specs.View.{view_statement, view_statements}
use Rattle.jl_ast.specs.declared.tree.Stmt.{Stmt}
use Rattle.jl_value.specs.declared.ending.Completion.{Completion}
use Rattle.jl_effects.specs.Effects.{and_then}
use Rattle.jl_meaning.specs.FunctionObjects.{FunctionTable}
use Rattle.jl_meaning.specs.Parts.{Part}
use Rattle.jl_meaning.specs.Completions.{if_normal}
use Rattle.jl_meaning.specs.Statements.{execute, execute_all}
use Rattle.jl_state.specs.StatementFrames.{completion_after}
use Rattle.jl_state.specs.Rest.{RefinesStatement}
use Rattle.jl_state.specs.Trees.{plain, plain_forest}
use Rattle.jl_state.specs.Turns.{labels_seen}
use Rattle.jl_state.specs.Words.{context_of, table_of}
use Rattle.jl_state.specs.declared.act.Act.{Act}
use Rattle.jl_state.specs.declared.act.Act.TheVariants as act
use Rattle.jl_state.specs.declared.calls.Call.{Call}
use Rattle.jl_state.specs.declared.frame.Frame.TheVariants as frame
use Rattle.jl_state.specs.declared.frame.Here.{Here}
use Rattle.jl_state.specs.declared.statement_frame.CompletionFrame.{CompletionFrame}
use Rattle.jl_state.specs.declared.state.State.{State}
use Rattle.jl_state.proofs.Steps.{completion_waits}

abbrev statement_of : State → Bor Stmt → Here → List (Bor (List ℕ)) → Part Completion
statement_of s e here labels =
    execute (table_of s.functions) (plain (view_statement e.now)) (labels_seen labels) (context_of s.calls here)

begins : (s t : State) (e : Bor Stmt) (here : Here) (labels : List (Bor (List ℕ))) → t.calls ≡ s.calls
    → t.functions ≡ s.functions → RefinesStatement t (statement_of s e here labels) t (act.Execute e here labels)
begins s t e here labels calls functions =
    subst (λ c. RefinesStatement t (execute (table_of s.functions) (plain (view_statement e.now)) (labels_seen labels)
    (context_of c here)) t (act.Execute e here labels)) calls
    (subst (λ f. RefinesStatement t (execute (table_of f) (plain (view_statement e.now)) (labels_seen labels)
    (context_of t.calls here)) t (act.Execute e here labels)) functions (record { is = λ kept told. refl }))

pub executes_for : (s t : State) (f : CompletionFrame) (e : Bor Stmt) (here : Here) (labels : List (Bor (List ℕ)))
    → t ≡ record s { stack = frame.Completion f ∷ s.stack }
    → RefinesStatement s (and_then (statement_of s e here labels) (completion_after (table_of s.functions) s.calls f)) t
    (act.Execute e here labels)
executes_for s t f e here labels is =
    (completion_waits s t f is).completes (statement_of s e here labels) t (act.Execute e here labels)
    (begins s t e here labels (ap (λ (v : State). v.calls) is) (ap (λ (v : State). v.functions) is))

-- the first statement of a list, before the others
pub executes_first : (s : State) (l : List Stmt) (first : Stmt) (others : List Stmt) (here : Here)
    (labels : List (Bor (List ℕ))) (t : State) (a : Act) → l ≡ first ∷ others → labels ≡ []
    → RefinesStatement s (and_then (execute (table_of s.functions) (plain (view_statement first)) (labels_seen labels)
    (context_of s.calls here)) (if_normal (execute_all (table_of s.functions) (plain_forest (view_statements others))
    (context_of s.calls here)))) t a
    → RefinesStatement s (execute_all (table_of s.functions) (plain_forest (view_statements l))
    (context_of s.calls here)) t a
executes_first s l first others here labels t a is none refines =
    let table = table_of s.functions in
    let c = context_of s.calls here in
    subst (λ m. RefinesStatement s (execute_all table (plain_forest (view_statements m)) c) t a) (sym is)
    (subst (λ n. RefinesStatement s (and_then (execute table (plain (view_statement first)) (labels_seen n) c)
    (if_normal (execute_all table (plain_forest (view_statements others)) c))) t a) none refines)

-- statements that begin over a frame
pub statements_over : (s t : State) (f : CompletionFrame) (l : List Stmt) (here : Here) (u : State) (a : Act)
    → t ≡ record s { stack = frame.Completion f ∷ s.stack }
    → RefinesStatement t (execute_all (table_of t.functions) (plain_forest (view_statements l))
    (context_of t.calls here)) u a
    → RefinesStatement s (and_then (execute_all (table_of s.functions) (plain_forest (view_statements l))
    (context_of s.calls here)) (completion_after (table_of s.functions) s.calls f)) u a
statements_over s t f l here u a is refines =
    let statements = plain_forest (view_statements l) in
    (completion_waits s t f is).completes (execute_all (table_of s.functions) statements (context_of s.calls here)) u a
    (subst (λ c. RefinesStatement t (execute_all (table_of s.functions) statements (context_of c here)) u a)
    (ap (λ (v : State). v.calls) is)
    (subst (λ g. RefinesStatement t (execute_all (table_of g) statements (context_of t.calls here)) u a)
    (ap (λ (v : State). v.functions) is) refines))

-- any part over a frame
pub part_over : (s t : State) (f : CompletionFrame) (q : FunctionTable → List Call → Part Completion) (u : State)
    (a : Act) → t ≡ record s { stack = frame.Completion f ∷ s.stack }
    → RefinesStatement t (q (table_of t.functions) t.calls) u a
    → RefinesStatement s (and_then (q (table_of s.functions) s.calls)
    (completion_after (table_of s.functions) s.calls f)) u a
part_over s t f q u a is refines =
    (completion_waits s t f is).completes (q (table_of s.functions) s.calls) u a
    (subst (λ c. RefinesStatement t (q (table_of s.functions) c) u a) (ap (λ (v : State). v.calls) is)
    (subst (λ g. RefinesStatement t (q (table_of g) t.calls) u a) (ap (λ (v : State). v.functions) is) refines))
