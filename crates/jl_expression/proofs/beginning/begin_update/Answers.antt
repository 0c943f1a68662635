use Rattle.std.proofs.lemmas.Result.{IfOk-weaker}
use Rattle.jl_ast.specs.View.{view_expression}
use Rattle.jl_ast.proofs.Views.{target_Dot, target_Index}
use Rattle.jl_state.specs.Trees.{plain}
use Rattle.jl_expression.proofs.Targets.{update_of, updates_dot}
use Rattle.jl_expression.proofs.beginning.begin_update.Goals as goal

pub returns-in-Dot-clause-refines : goal.returns-in-Dot-clause-refines
returns-in-Dot-clause-refines c =
    IfOk-weaker _ _ _ (λ a refines. update_of c.args.state.now c.args.here c.args.target.now _ _ c.args.up c.args.prefix
    _
    _ c.in-Dot.is (target_Dot c.in-Dot.object c.in-Dot.key _) (updates_dot c.args.state.now c.args.here
    (plain (view_expression c.in-Dot.object)) c.in-Dot.key c.args.up c.args.prefix _ _ refines))
    c.evaluate.ensures.refines

pub returns-in-Index-clause-refines : goal.returns-in-Index-clause-refines
returns-in-Index-clause-refines c =
    IfOk-weaker _ _ _ (λ a refines. update_of c.args.state.now c.args.here c.args.target.now _ _ c.args.up c.args.prefix
    _
    _ c.in-Index.is (target_Index c.in-Index.object c.in-Index.key _) refines) c.evaluate-in-Index.ensures.refines
