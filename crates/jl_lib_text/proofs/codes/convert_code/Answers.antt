use Rattle.std.proofs.Common.{refl}
use Rattle.std.proofs.lemmas.Result.{IfOk-weaker}
use Rattle.jl_lib_text.proofs.Turns.{code_waits}
use Rattle.jl_lib_text.proofs.codes.convert_code.Goals as goal

pub returns-clause-refines : goal.returns-clause-refines
returns-clause-refines c =
    IfOk-weaker _ _ _ (λ a refines. code_waits _ _ c.args.units c.args.v c.args.args c.args.from _ _
    (c.if-not-spend.ensures.took refl) refines) c.wait_for_number.ensures.refines
