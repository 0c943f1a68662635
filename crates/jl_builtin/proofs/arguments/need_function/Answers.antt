use Rattle.std.proofs.lemmas.Result.{IfOk-weaker}
use Rattle.jl_builtin.proofs.Needs.{function_there, no_function_there, not_callable}
use Rattle.jl_builtin.proofs.arguments.need_function.Goals as goal

pub returns-in_default : goal.returns-in_default
returns-in_default c =
    IfOk-weaker _ _ _ (λ a is. no_function_there c.args.store.now _ _ c.args.v.now c.in_default.not-Obj is)
    c.no_function.ensures

pub returns-then-not-is_callable : goal.returns-then-not-is_callable
returns-then-not-is_callable c =
    IfOk-weaker _ _ _ (λ a is. not_callable c.args.store.now _ _ c.args.v.now _ c.is_callable.ensures
    c.if-not-is_callable.true is) c.no_function-then-not-is_callable.ensures

pub returns : goal.returns
returns c = function_there _ c.args.v.now _ _ c.is_callable.ensures c.if-not-is_callable.false c.in-Obj.is
