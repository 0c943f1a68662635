use Rattle.jl_lib_object.proofs.Descriptions.{accessor_is, data_is}
use Rattle.jl_lib_object.proofs.describing.property_of.Goals as goal

pub returns-in-Some : goal.returns-in-Some
returns-in-Some c =
    data_is _ _ _ _ _ _ c.in_ok-value.ensures c.in-Some.is c.is_writable.ensures c.is_enumerable.ensures
    c.is_configurable.ensures

pub returns-in-None : goal.returns-in-None
returns-in-None c =
    accessor_is _ _ _ _ _ _ c.in_ok-value.ensures c.in-None.is c.getter.ensures c.setter.ensures
    c.is_enumerable-in-None.ensures c.is_configurable-in-None.ensures
