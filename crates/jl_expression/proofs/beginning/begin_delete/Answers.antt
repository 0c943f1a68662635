use Rattle.std.proofs.lemmas.Result.{IfOk-weaker}
use Rattle.jl_ast.specs.View.{view_expression}
use Rattle.jl_ast.proofs.Views.{expression_Index}
use Rattle.jl_meaning.specs.Expressions.{evaluate, evaluate_delete}
use Rattle.jl_meaning.specs.Parts as parts
use Rattle.jl_state.specs.Trees.{plain}
use Rattle.jl_state.specs.Words.{context_of, table_of}
use Rattle.jl_expression.proofs.ByKind.{of_kind}
use Rattle.jl_expression.proofs.beginning.begin_delete.Goals as goal

pub returns-in-Index-clause-refines : goal.returns-in-Index-clause-refines
returns-in-Index-clause-refines c =
    let s = c.args.state.now in
    IfOk-weaker _ _ _ (λ a refines. of_kind (λ (x : parts.Expr). evaluate_delete (table_of s.functions) x (evaluate
    (table_of s.functions) (plain (view_expression c.args.operand.now)) (context_of s.calls c.args.here)) 0
    (context_of s.calls c.args.here)) s c.args.operand.now _ _ _ _ c.in-Index.is (expression_Index c.in-Index.object
    c.in-Index.key c.args.operand.now.span) refines) c.evaluate_boxed-in-Index.ensures.refines
