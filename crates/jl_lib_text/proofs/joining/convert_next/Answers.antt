use Rattle.std.proofs.Common.{refl}
use Rattle.std.proofs.lemmas.Result.{IfOk-weaker}
use Rattle.jl_lib_text.proofs.Turns.{joined_waits}
use Rattle.jl_lib_text.proofs.joining.convert_next.Goals as goal

pub returns-clause-refines : goal.returns-clause-refines
returns-clause-refines c =
    IfOk-weaker _ _ _ (λ a refines. joined_waits _ _ c.args.units c.args.v c.args.args c.args.from _ _
    (c.if-not-spend.ensures.took refl) refines) c.wait_for_string.ensures.refines
