use Rattle.std.proofs.lemmas.Result.{IfOk-weaker}
use Rattle.jl_ast.specs.View.{view_expression}
use Rattle.jl_state.specs.Trees.{plain}
use Rattle.jl_expression.proofs.Begun.{types_value}
use Rattle.jl_expression.proofs.Refused.{no_name}
use Rattle.jl_expression.proofs.beginning.begin_typeof.Goals as goal

pub returns-in_default-clause-refines : goal.returns-in_default-clause-refines
returns-in_default-clause-refines c =
    IfOk-weaker _ _ _ (λ a refines. types_value c.args.state.now c.args.here
    (plain (view_expression c.args.operand.now))
    _ _ (no_name c.args.operand.now c.in_default.not-Name) refines) c.evaluate.ensures.refines
