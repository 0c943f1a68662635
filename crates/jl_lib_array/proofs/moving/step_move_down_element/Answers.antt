use Rattle.std.proofs.lemmas.Result.{IfOk-weaker}
use Rattle.jl_lib_array.proofs.Moved.{moves_down_element}
use Rattle.jl_lib_array.proofs.moving.step_move_down_element.Goals as goal

pub returns-clause-refines : goal.returns-clause-refines
returns-clause-refines c =
    IfOk-weaker _ _ _ (λ a refines. moves_down_element _ _ _ c.args.moving c.args.next _ c.args.v c.in_ok-to.ensures
    refines) c.put_then.ensures.refines
