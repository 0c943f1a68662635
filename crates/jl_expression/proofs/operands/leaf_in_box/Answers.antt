use Rattle.std.proofs.Common.{subst, IfOk, IfSome}
use Rattle.jl_ast.specs.declared.tree.Expr.{Expr}
use Rattle.jl_value.specs.declared.value.Value.{Value}
use Rattle.jl_expression.proofs.Leaves.{IsAtOnce}
use Rattle.jl_expression.proofs.operands.leaf_in_box.Goals as goal

pub returns-clause-supplies : goal.returns-clause-supplies
returns-clause-supplies c =
    subst (λ (x : Expr). IfOk c.leaf_value.result (λ r. IfSome r (IsAtOnce c.args.state.now x c.args.here)))
    c.deref.ensures c.leaf_value.ensures.supplies
