use Rattle.std.proofs.lemmas.Result.{IfOk-weaker}
use Rattle.jl_lib_array.proofs.Moved.{moves_up_element}
use Rattle.jl_lib_array.proofs.moving.step_move_up_element.Goals as goal

pub returns-clause-refines : goal.returns-clause-refines
returns-clause-refines c =
    IfOk-weaker _ _ _ (λ a refines. moves_up_element _ _ _ c.args.moving c.args.next c.args.k _ _ c.args.v
    c.in_ok-to.ensures c.in_ok-k.ensures refines) c.put_then.ensures.refines
