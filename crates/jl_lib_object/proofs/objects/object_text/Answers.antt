use Rattle.jl_lib_object.proofs.Classes.{class_of_something, class_seen}
use Rattle.jl_lib_object.proofs.Ends.{goes_on, throws_on}
use Rattle.jl_lib_object.proofs.objects.object_text.Goals as goal

pub returns-in-Throws-clause-refines : goal.returns-in-Throws-clause-refines
returns-in-Throws-clause-refines c =
    class_of_something _ _ _ _ c.requires (throws_on _ _ _ _ _ c.in_ok-thrown.ensures _ c.in-Throws.is)

pub returns-in_ok-text-in-Gives-clause-refines : goal.returns-in_ok-text-in-Gives-clause-refines
returns-in_ok-text-in-Gives-clause-refines c =
    class_of_something _ _ _ _ c.requires
    (goes_on _ _ _ _ _ c.in_ok-thrown.ensures _ _ _ c.in-Gives.is
    (class_seen _ _ _ _ _ c.class_of.ensures c.class_text.ensures c.in_ok-text-in-Gives.ensures))
