-- The head of a `for` (12.6.3).
use Rattle.std.proofs.Common.{◌≡◌, ap, sym, subst, ◌∙◌}
use Rattle.jl_ast.specs.View.{view_expression, view_init}
use Rattle.jl_ast.specs.declared.tree.Expr.{Expr}
use Rattle.jl_ast.specs.declared.tree.ForInit.{ForInit}
use Rattle.jl_ast.specs.declared.tree.ForInit as init
use Rattle.jl_ast.proofs.Views.{init_Expr}
use Rattle.jl_effects.specs.Effects.{and_then}
use Rattle.jl_meaning.specs.Completions.{on_given}
use Rattle.jl_meaning.specs.Expressions.{evaluate}
use Rattle.jl_meaning.specs.forms.Simple.{begin_for}
use Rattle.jl_state.specs.Rest.{RefinesStatement}
use Rattle.jl_state.specs.StatementFrames.{next_turn, statement_after}
use Rattle.jl_state.specs.Trees.{plain}
use Rattle.jl_state.specs.Words.{context_of, table_of}
use Rattle.jl_state.specs.declared.act.Act.{Act}
use Rattle.jl_state.specs.declared.state.State.{State}
use Rattle.jl_state.specs.declared.statement_frame.LoopTurn.{LoopTurn}
use Rattle.jl_state.specs.declared.statement_frame.StatementFrame.TheVariants as statement
use Rattle.jl_statement.proofs.Followed.{begins_with}

-- an expression whose value does not count, and then a turn
pub for_expression : (s : State) (i : ForInit) (e : Expr) (turn : LoopTurn) (t : State) (a : Act) → i ≡ init.Expr e
    → RefinesStatement s (and_then (evaluate (table_of s.functions) (plain (view_expression e))
    (context_of s.calls turn.here))
    (on_given (statement_after (table_of s.functions) s.calls (statement.ForExpression turn)))) t a
    → RefinesStatement s (and_then (begin_for (table_of s.functions) (plain (view_init i))
    (context_of s.calls turn.here))
    (on_given (λ _. next_turn (table_of s.functions) s.calls turn))) t a
for_expression s i e turn t a is refines =
    let table = table_of s.functions in
    let c = context_of s.calls turn.here in
    let next = next_turn table s.calls turn in
    subst (λ x. RefinesStatement s (and_then (begin_for table (plain x) c) (on_given (λ _. next))) t a)
    (sym (ap view_init is ∙ init_Expr e))
    (begins_with s (evaluate table (plain (view_expression e)) c) next t a refines)
