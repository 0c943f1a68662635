use Rattle.std.proofs.Common.{sym, ◌∙◌}
use Rattle.jl_algorithm.proofs.Called.{falls_called}
use Rattle.jl_algorithm.proofs.Methods.{calls_method, method_falls}
use Rattle.jl_algorithm.proofs.primitive.step_method.Goals as goal
use Rattle.jl_state.proofs.Acts.{works_act}

pub returns-clause-refines : goal.returns-clause-refines
returns-clause-refines c =
    works_act _ _ _ _ c.call.ensures _
    (calls_method _ _ _ _ _ _ _ _ c.in-Obj.is (sym c.is_callable.ensures ∙ c.if-not-is_callable.false) c.new.ensures
    c.in_ok-push_algorithm.ensures.waits)

pub returns-clause-bounded : goal.returns-clause-bounded
returns-clause-bounded c =
    falls_called _ _ c.call.ensures _ _ _ _ c.in_ok-push_algorithm.ensures.pushed (method_falls c.args.is_second)
