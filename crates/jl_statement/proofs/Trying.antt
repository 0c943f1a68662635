-- The parts of a `try` (12.14).
use Rattle.std.proofs.Common.{◌≡◌, ◌∷◌, List, None, Option, Some, sym, subst}
use Rattle.std.specs.Borrow.{Bor}
use Rattle.jl_ast.specs.View.{view_branch, view_catch, view_statements}
use Rattle.jl_ast.specs.declared.tree.Ident.{Ident}
use Rattle.jl_ast.specs.declared.tree.Stmt.{Stmt}
use Rattle.jl_value.specs.declared.ending.Completion.{Completion}
use Rattle.jl_value.specs.declared.ending.Completion.TheVariants as completion
use Rattle.jl_value.specs.declared.value.Value.{Value}
use Rattle.jl_effects.specs.Effects.{and_then}
use Rattle.jl_meaning.specs.Completions.{ends_as}
use Rattle.jl_meaning.specs.Parts.{Part}
use Rattle.jl_meaning.specs.Statements.{execute_all, execute_branch, handle}
use Rattle.jl_meaning.specs.forms.Try.{unless_abrupt}
use Rattle.jl_state.specs.Rest.{RefinesStatement}
use Rattle.jl_state.specs.StatementFrames.{completion_after}
use Rattle.jl_state.specs.Trees.{plain_forest, plain_optional}
use Rattle.jl_state.specs.Words.{context_of, table_of}
use Rattle.jl_state.specs.declared.act.Act.{Act}
use Rattle.jl_state.specs.declared.frame.Frame.TheVariants as frame
use Rattle.jl_state.specs.declared.frame.Here.{Here}
use Rattle.jl_state.specs.declared.statement_frame.CompletionFrame.TheVariants as completing
use Rattle.jl_state.specs.declared.state.State.{State}
use Rattle.jl_statement.proofs.Executes.{part_over, statements_over}

abbrev Handler : Type 0
Handler = Ident × List Stmt

-- the statements after `finally`, if there are any, where this was completed before them
abbrev finally_of : State → Option (List Stmt) → Completion → Here → Part Completion
finally_of s f before here =
    ends_as (unless_abrupt before)
    (execute_branch (table_of s.functions) (plain_optional (view_branch f)) (context_of s.calls here))

pub finally_over : (s t : State) (before : Completion) (f : Option (List Stmt)) (l : List Stmt) (here : Here)
    (u : State) (a : Act) → f ≡ Some l
    → t ≡ record s { stack = frame.Completion (completing.FinallyBlock before) ∷ s.stack }
    → RefinesStatement t (execute_all (table_of t.functions) (plain_forest (view_statements l))
    (context_of t.calls here)) u a
    → RefinesStatement s (finally_of s f before here) u a
finally_over s t before f l here u a some is refines =
    subst (λ o. RefinesStatement s (finally_of s o before here) u a) (sym some)
    (statements_over s t (completing.FinallyBlock before) l here u a is refines)

-- a `catch` over what follows it
pub catch_over : (s t : State) (h : Option Handler) (f : Bor (Option (List Stmt))) (thrown : Value) (here : Here)
    (u : State) (a : Act) → t ≡ record s { stack = frame.Completion (completing.CatchBlock f here) ∷ s.stack }
    → RefinesStatement t (handle (table_of t.functions) (plain_optional (view_catch h)) (completion.Throw thrown)
    (context_of t.calls here)) u a
    → RefinesStatement s (and_then (handle (table_of s.functions) (plain_optional (view_catch h))
    (completion.Throw thrown)
    (context_of s.calls here)) (λ handled. finally_of s f.now handled here)) u a
catch_over s t h f thrown here u a is refines =
    part_over s t (completing.CatchBlock f here)
    (λ table calls. handle table (plain_optional (view_catch h)) (completion.Throw thrown) (context_of calls here)) u a
    is refines

-- a `try` by its `catch`

abbrev try_after : State → Option Handler → Option (List Stmt) → Here → Completion → Part Completion
try_after s h f here how =
    and_then (handle (table_of s.functions) (plain_optional (view_catch h)) how (context_of s.calls here))
    (λ handled. finally_of s f handled here)

pub uncaught : (s : State) (h : Bor (Option Handler)) (f : Bor (Option (List Stmt))) (here : Here) (how : Completion)
    (t : State) (a : Act) → h.now ≡ None → RefinesStatement s (finally_of s f.now how here) t a
    → RefinesStatement s (completion_after (table_of s.functions) s.calls (completing.TryBlock h f here) how) t a
uncaught s h f here how t a none refines =
    subst (λ o. RefinesStatement s (try_after s o f.now here how) t a) (sym none) refines

pub caught : (s : State) (h : Bor (Option Handler)) (f : Bor (Option (List Stmt))) (here : Here) (how : Completion)
    (handler : Handler) (t : State) (a : Act) → h.now ≡ Some handler
    → RefinesStatement s (try_after s (Some handler) f.now here how) t a
    → RefinesStatement s (completion_after (table_of s.functions) s.calls (completing.TryBlock h f here) how) t a
caught s h f here how handler t a some refines =
    subst (λ o. RefinesStatement s (try_after s o f.now here how) t a) (sym some) refines
