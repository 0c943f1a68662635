use Rattle.std.proofs.lemmas.Result.{IfOk-weaker}
use Rattle.jl_ast.specs.View.{view_expression, view_expressions}
use Rattle.jl_ast.proofs.Views.{expression_Call, expression_Dot, expression_Index}
use Rattle.jl_meaning.specs.Expressions.{evaluate}
use Rattle.jl_state.specs.Trees.{plain, plain_forest}
use Rattle.jl_state.specs.Words.{context_of, table_of}
use Rattle.jl_expression.proofs.Callees.{called_form, calls_second, calls_value}
use Rattle.jl_expression.proofs.Refused.{no_member}
use Rattle.jl_expression.proofs.calls.begin_call.Goals as goal

pub returns-in-Dot-clause-refines : goal.returns-in-Dot-clause-refines
returns-in-Dot-clause-refines c =
    IfOk-weaker _ _ _ (λ a refines. called_form c.args.state.now c.args.here c.args.callee.now c.args.args.now _ _ _ _
    c.in-Dot.is (expression_Dot c.in-Dot.object c.in-Dot.key c.args.callee.now.span) refines)
    c.call_member.ensures.refines

pub returns-in-Index-clause-refines : goal.returns-in-Index-clause-refines
returns-in-Index-clause-refines c =
    IfOk-weaker _ _ _ (λ a refines. called_form c.args.state.now c.args.here c.args.callee.now c.args.args.now _ _ _ _
    c.in-Index.is (expression_Index c.in-Index.object c.in-Index.key c.args.callee.now.span) refines)
    c.evaluate_boxed.ensures.refines

pub returns-in-Call-clause-refines : goal.returns-in-Call-clause-refines
returns-in-Call-clause-refines c =
    IfOk-weaker _ _ _ (λ a refines. called_form c.args.state.now c.args.here c.args.callee.now c.args.args.now _ _ _ _
    c.in-Call.is (expression_Call c.in-Call.inner c.in-Call.first c.args.callee.now.span) (calls_second c.args.state.now
    c.args.here c.args.args.now (plain (view_expression c.in-Call.inner.value))
    (plain_forest (view_expressions c.in-Call.first)) (evaluate (table_of c.args.state.now.functions)
    (plain (view_expression c.args.callee.now)) (context_of c.args.state.now.calls c.args.here)) _ _ refines))
    c.call_of_call.ensures.refines

pub returns-in_default-clause-refines : goal.returns-in_default-clause-refines
returns-in_default-clause-refines c =
    IfOk-weaker _ _ _ (λ a refines. calls_value c.args.state.now c.args.here c.args.callee.now c.args.args.now _ _
    (no_member c.args.callee.now c.in_default.not-Dot c.in_default.not-Index c.in_default.not-Call) refines)
    c.call_value.ensures.refines
