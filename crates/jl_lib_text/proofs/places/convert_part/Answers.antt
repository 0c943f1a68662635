use Rattle.std.proofs.lemmas.Result.{IfOk-weaker}
use Rattle.jl_lib_text.proofs.Arguments.{part_waits}
use Rattle.jl_lib_text.proofs.places.convert_part.Goals as goal

pub returns-clause-refines : goal.returns-clause-refines
returns-clause-refines c =
    IfOk-weaker _ _ _ (λ a refines. part_waits _ _ _ c.args.units c.args.args.now c.args.search _ _ c.in_ok-part.ensures
    c.in_ok-position.ensures refines) c.wait_for_string.ensures.refines
