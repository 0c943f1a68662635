use Rattle.std.proofs.lemmas.Result.{IfOk-weaker}
use Rattle.jl_lib_text.proofs.Arguments.{start_waits}
use Rattle.jl_lib_text.proofs.cutting.convert_start.Goals as goal

pub returns-clause-refines : goal.returns-clause-refines
returns-clause-refines c =
    IfOk-weaker _ _ _ (λ a refines. start_waits _ _ _ c.args.units c.args.args.now c.args.cut _ _ c.in_ok-start.ensures
    c.in_ok-end.ensures refines) c.wait_for_number.ensures.refines
