use Rattle.std.proofs.lemmas.Result.{IfOk-weaker}
use Rattle.jl_ast.specs.View.{view_expressions}
use Rattle.jl_state.specs.Trees.{plain_forest}
use Rattle.jl_expression.proofs.Callees.{calls_member}
use Rattle.jl_expression.proofs.calls.call_member.Goals as goal

pub returns-clause-refines : goal.returns-clause-refines
returns-clause-refines c =
    IfOk-weaker _ _ _ (λ a refines. calls_member c.args.state.now c.args.here
    (plain_forest (view_expressions c.args.args.now)) _ c.deref.result.now c.args.object.now.value c.args.key.now _ _
    c.deref.ensures c.form_of_member-form.ensures refines) c.call_by_form.ensures.refines
