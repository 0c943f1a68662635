use Rattle.std.proofs.lemmas.Result.{IfOk-weaker}
use Rattle.jl_lib_object.specs.inner.Parts.{describe_own}
use Rattle.jl_lib_object.proofs.Ends.{works_of}
use Rattle.jl_lib_object.proofs.describing.step_described_name.Goals as goal

pub returns-clause-refines : goal.returns-clause-refines
returns-clause-refines c =
    IfOk-weaker _ _ _ (λ a refines. works_of _ (describe_own c.args.object) _ _ _ _ c.in_ok-name.ensures refines)
    c.describe_own.ensures.refines
