use Rattle.std.proofs.lemmas.Result.{IfOk-weaker}
use Rattle.jl_ast.proofs.Views.{target_Dot, target_Index}
use Rattle.jl_expression.proofs.Targets.{assignment_of}
use Rattle.jl_expression.proofs.beginning.begin_assignment.Goals as goal

pub returns-in-Dot-clause-refines : goal.returns-in-Dot-clause-refines
returns-in-Dot-clause-refines c =
    IfOk-weaker _ _ _ (λ a refines. assignment_of c.args.state.now c.args.here c.args.target.now _ _ c.args.op
    c.args.value.now.value _ _ c.in-Dot.is
    (target_Dot c.in-Dot.object c.in-Dot.key _) refines) c.assign_dot.ensures.refines

pub returns-in-Index-clause-refines : goal.returns-in-Index-clause-refines
returns-in-Index-clause-refines c =
    IfOk-weaker _ _ _ (λ a refines. assignment_of c.args.state.now c.args.here c.args.target.now _ _ c.args.op
    c.args.value.now.value _ _ c.in-Index.is (target_Index c.in-Index.object c.in-Index.key _) refines)
    c.assign_index.ensures.refines
