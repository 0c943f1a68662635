use Rattle.jl_meaning.specs.Parts.{◌>>=◌}
use Rattle.jl_meaning.specs.builtins.Arguments.{give_object}
use Rattle.jl_meaning.specs.builtins.Object.{object_for}
use Rattle.jl_lib_object.proofs.Ends.{gives_now, goes_on, throws_on, works_of}
use Rattle.jl_lib_object.proofs.objects.object_call.Goals as goal

pub returns-in-Throws-clause-refines : goal.returns-in-Throws-clause-refines
returns-in-Throws-clause-refines c =
    works_of _ (λ v. object_for v >>= give_object) _ _ _ _ c.in_ok-v.ensures
    (throws_on _ _ _ _ _ c.in_ok-thrown.ensures _ c.in-Throws.is)

pub returns-clause-refines : goal.returns-clause-refines
returns-clause-refines c =
    works_of _ (λ v. object_for v >>= give_object) _ _ _ _ c.in_ok-v.ensures
    (goes_on _ _ _ _ _ c.in_ok-thrown.ensures _ _ _ c.in-Gives.is (gives_now _ _))
