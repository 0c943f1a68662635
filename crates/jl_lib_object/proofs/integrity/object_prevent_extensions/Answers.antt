use Rattle.jl_lib_object.proofs.Restrictions.{forbids}
use Rattle.jl_lib_object.proofs.Ends.{goes_on, throws_on}
use Rattle.jl_lib_object.proofs.integrity.object_prevent_extensions.Goals as goal

pub returns-in-Throws-clause-refines : goal.returns-in-Throws-clause-refines
returns-in-Throws-clause-refines c = throws_on _ _ _ _ _ c.in_ok-thrown.ensures _ c.in-Throws.is

pub returns-in-Gives-clause-refines : goal.returns-in-Gives-clause-refines
returns-in-Gives-clause-refines c =
    goes_on _ _ _ _ _ c.in_ok-thrown.ensures _ _ _ c.in-Gives.is
    (forbids _ _ _ c.prevent_extensions.ensures)
