use Rattle.std.proofs.Common.{true}
use Rattle.std.proofs.lemmas.Result.{IfOk-weaker}
use Rattle.jl_lib_object.specs.inner.Parts.{test_and_give}
use Rattle.jl_lib_object.proofs.Ends.{works_of}
use Rattle.jl_lib_object.proofs.integrity.test_all.Goals as goal

pub returns-clause-refines : goal.returns-clause-refines
returns-clause-refines c =
    IfOk-weaker _ _ _ (λ a refines. works_of _ (test_and_give c.args.integrity c.args.object true) _ _ _ _
    c.in_ok-names.ensures refines) c.test_from.ensures.refines
