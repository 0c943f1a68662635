use Rattle.jl_lib_object.proofs.Descriptions.{describes, describes_none}
use Rattle.jl_lib_object.proofs.describing.describe_own.Goals as goal

pub returns-in-None-clause-refines : goal.returns-in-None-clause-refines
returns-in-None-clause-refines c = describes_none _ _ _ _ c.in_ok-own_property.ensures c.in-None.is

pub returns-in_ok-v-in-Some-clause-refines : goal.returns-in_ok-v-in-Some-clause-refines
returns-in_ok-v-in-Some-clause-refines c =
    describes _ _ _ _ _ _ _ c.in_ok-own_property.ensures c.in-Some.is c.in_ok-v-in-Some.ensures
