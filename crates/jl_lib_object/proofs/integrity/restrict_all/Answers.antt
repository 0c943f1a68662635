use Rattle.std.proofs.lemmas.Result.{IfOk-weaker}
use Rattle.jl_lib_object.specs.inner.Parts.{restrict_and_give}
use Rattle.jl_lib_object.proofs.Ends.{works_of}
use Rattle.jl_lib_object.proofs.integrity.restrict_all.Goals as goal

pub returns-clause-refines : goal.returns-clause-refines
returns-clause-refines c =
    IfOk-weaker _ _ _ (λ a refines. works_of _ (restrict_and_give c.args.integrity c.args.object) _ _ _ _
    c.in_ok-names.ensures refines) c.restrict_from.ensures.refines
