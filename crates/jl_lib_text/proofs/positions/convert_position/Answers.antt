use Rattle.std.proofs.lemmas.Result.{IfOk-weaker}
use Rattle.jl_lib_text.proofs.Arguments.{position_waits}
use Rattle.jl_lib_text.proofs.positions.convert_position.Goals as goal

pub returns-clause-refines : goal.returns-clause-refines
returns-clause-refines c =
    IfOk-weaker _ _ _ (λ a refines. position_waits _ _ _ c.args.units c.args.args.now c.args.form _
    c.in_ok-position.ensures refines) c.wait_for_number.ensures.refines
