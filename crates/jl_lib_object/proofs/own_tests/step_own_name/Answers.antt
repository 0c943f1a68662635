use Rattle.jl_lib_object.proofs.Descriptions.{own_told}
use Rattle.jl_lib_object.proofs.Ends.{goes_on, throws_on}
use Rattle.jl_lib_object.proofs.own_tests.step_own_name.Goals as goal

pub returns-in-Throws-clause-refines : goal.returns-in-Throws-clause-refines
returns-in-Throws-clause-refines c = throws_on _ _ _ _ _ c.in_ok-thrown.ensures _ c.in-Throws.is

pub returns-clause-refines : goal.returns-clause-refines
returns-clause-refines c =
    goes_on _ _ _ _ _ c.in_ok-thrown.ensures _ _ _ c.in-Gives.is
    (own_told _ _ _ _ _ _ c.has_own.ensures c.in_ok-name.ensures)
