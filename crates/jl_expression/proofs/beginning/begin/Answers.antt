use Rattle.std.proofs.lemmas.Result.{IfOk-weaker}
use Rattle.jl_ast.proofs.Views.{expression_And, expression_Array, expression_Binary, expression_Comma}
use Rattle.jl_ast.proofs.Views.{expression_Cond, expression_Dot, expression_Index, expression_Name}
use Rattle.jl_ast.proofs.Views.{expression_New, expression_Object, expression_Or}
use Rattle.jl_expression.proofs.Started.{assignment_begun, call_begun, function_begun, of_form, unary_begun}
use Rattle.jl_expression.proofs.Started.{update_begun}
use Rattle.jl_expression.proofs.beginning.begin.Goals as goal

pub returns-in-Name-clause-refines : goal.returns-in-Name-clause-refines
returns-in-Name-clause-refines c =
    IfOk-weaker _ _ _ (λ a refines. of_form c.args.state.now c.args.here c.args.e.now _ _ _ _ c.in-Name.is
    (expression_Name c.in-Name.name c.args.e.now.span) refines) c.read_name.ensures.refines

pub returns-in-Array-clause-refines : goal.returns-in-Array-clause-refines
returns-in-Array-clause-refines c =
    IfOk-weaker _ _ _ (λ a refines. of_form c.args.state.now c.args.here c.args.e.now _ _ _ _ c.in-Array.is
    (expression_Array c.in-Array.items c.args.e.now.span) refines) c.begin_array.ensures.refines

pub returns-in-Object-clause-refines : goal.returns-in-Object-clause-refines
returns-in-Object-clause-refines c =
    IfOk-weaker _ _ _ (λ a refines. of_form c.args.state.now c.args.here c.args.e.now _ _ _ _ c.in-Object.is
    (expression_Object c.in-Object.entries c.args.e.now.span) refines) c.begin_object.ensures.refines

pub returns-in-Dot-clause-refines : goal.returns-in-Dot-clause-refines
returns-in-Dot-clause-refines c =
    IfOk-weaker _ _ _ (λ a refines. of_form c.args.state.now c.args.here c.args.e.now _ _ _ _ c.in-Dot.is
    (expression_Dot c.in-Dot.object c.in-Dot.key c.args.e.now.span) refines) c.begin_dot.ensures.refines

pub returns-in-Index-clause-refines : goal.returns-in-Index-clause-refines
returns-in-Index-clause-refines c =
    IfOk-weaker _ _ _ (λ a refines. of_form c.args.state.now c.args.here c.args.e.now _ _ _ _ c.in-Index.is
    (expression_Index c.in-Index.object c.in-Index.key c.args.e.now.span) refines) c.begin_index.ensures.refines

pub returns-in-New-clause-refines : goal.returns-in-New-clause-refines
returns-in-New-clause-refines c =
    IfOk-weaker _ _ _ (λ a refines. of_form c.args.state.now c.args.here c.args.e.now _ _ _ _ c.in-New.is
    (expression_New c.in-New.constructor c.in-New.args c.args.e.now.span) refines) c.begin_new.ensures.refines

pub returns-in-Binary-clause-refines : goal.returns-in-Binary-clause-refines
returns-in-Binary-clause-refines c =
    IfOk-weaker _ _ _ (λ a refines. of_form c.args.state.now c.args.here c.args.e.now _ _ _ _ c.in-Binary.is
    (expression_Binary c.in-Binary.op c.in-Binary.left c.in-Binary.right c.args.e.now.span) refines)
    c.begin_binary.ensures.refines

pub returns-in-And-clause-refines : goal.returns-in-And-clause-refines
returns-in-And-clause-refines c =
    IfOk-weaker _ _ _ (λ a refines. of_form c.args.state.now c.args.here c.args.e.now _ _ _ _ c.in-And.is
    (expression_And c.in-And.left c.in-And.right c.args.e.now.span) refines) c.evaluate_boxed.ensures.refines

pub returns-in-Or-clause-refines : goal.returns-in-Or-clause-refines
returns-in-Or-clause-refines c =
    IfOk-weaker _ _ _ (λ a refines. of_form c.args.state.now c.args.here c.args.e.now _ _ _ _ c.in-Or.is
    (expression_Or c.in-Or.left c.in-Or.right c.args.e.now.span) refines) c.evaluate_boxed-in-Or.ensures.refines

pub returns-in-Cond-clause-refines : goal.returns-in-Cond-clause-refines
returns-in-Cond-clause-refines c =
    IfOk-weaker _ _ _ (λ a refines. of_form c.args.state.now c.args.here c.args.e.now _ _ _ _ c.in-Cond.is
    (expression_Cond c.in-Cond.test c.in-Cond.first c.in-Cond.second c.args.e.now.span) refines)
    c.evaluate_boxed-in-Cond.ensures.refines

pub returns-in-Comma-clause-refines : goal.returns-in-Comma-clause-refines
returns-in-Comma-clause-refines c =
    IfOk-weaker _ _ _ (λ a refines. of_form c.args.state.now c.args.here c.args.e.now _ _ _ _ c.in-Comma.is
    (expression_Comma c.in-Comma.left c.in-Comma.right c.args.e.now.span) refines)
    c.evaluate_boxed-in-Comma.ensures.refines

pub returns-in-Function-clause-refines : goal.returns-in-Function-clause-refines
returns-in-Function-clause-refines c =
    IfOk-weaker _ _ _ (λ a refines. function_begun c.args.state.now c.args.here c.args.e.now _ _ c.in-Function.function
    c.deref.result.now c.in-Function.is c.deref.ensures refines) c.begin_function.ensures.refines

pub returns-in-Call-clause-refines : goal.returns-in-Call-clause-refines
returns-in-Call-clause-refines c =
    IfOk-weaker _ _ _ (λ a refines. call_begun c.args.state.now c.args.here c.args.e.now _ _ c.in-Call.callee
    c.in-Call.args c.deref-in-Call.result.now c.in-Call.is c.deref-in-Call.ensures refines) c.begin_call.ensures.refines

pub returns-in-Unary-clause-refines : goal.returns-in-Unary-clause-refines
returns-in-Unary-clause-refines c =
    IfOk-weaker _ _ _ (λ a refines. unary_begun c.args.state.now c.args.here c.args.e.now _ _ c.in-Unary.op
    c.in-Unary.operand c.deref-in-Unary.result.now c.in-Unary.is c.deref-in-Unary.ensures refines)
    c.begin_unary.ensures.refines

pub returns-in-Update-clause-refines : goal.returns-in-Update-clause-refines
returns-in-Update-clause-refines c =
    IfOk-weaker _ _ _ (λ a refines. update_begun c.args.state.now c.args.here c.args.e.now _ _ c.in-Update.up
    c.in-Update.prefix c.in-Update.target c.deref-in-Update.result.now c.in-Update.is c.deref-in-Update.ensures refines)
    c.begin_update.ensures.refines

pub returns-in-Assign-clause-refines : goal.returns-in-Assign-clause-refines
returns-in-Assign-clause-refines c =
    IfOk-weaker _ _ _ (λ a refines. assignment_begun c.args.state.now c.args.here c.args.e.now _ _ c.in-Assign.op
    c.in-Assign.target c.in-Assign.value c.deref-in-Assign.result.now c.in-Assign.is c.deref-in-Assign.ensures refines)
    c.begin_assignment.ensures.refines
