use Rattle.std.proofs.lemmas.Result.{IfOk-weaker}
use Rattle.jl_lib_object.proofs.Restrictions.{redefines, redefines_none}
use Rattle.jl_lib_object.proofs.integrity.redefine.Goals as goal

pub returns-in_default-clause-refines : goal.returns-in_default-clause-refines
returns-in_default-clause-refines c = redefines_none _ _ _ _ _ c.in_ok-property.ensures c.in_default.is

pub returns-clause-refines : goal.returns-clause-refines
returns-clause-refines c =
    IfOk-weaker _ _ _ (λ a refines. redefines _ _ _ _ _ _ _ _ _ _ c.in_ok-property.ensures c.in-Some.is
    c.restricted_property.ensures c.change_of-change.ensures.value refines) c.define_own_property.ensures.refines
