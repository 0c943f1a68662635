use Rattle.jl_lib_object.proofs.Restrictions.{frozen_told, sealed_told}
use Rattle.jl_lib_object.proofs.integrity.is_restricted.Goals as goal

pub returns-in-Sealed : goal.returns-in-Sealed
returns-in-Sealed c = sealed_told _ _ _ c.in-Sealed.is c.is_configurable.ensures

pub returns-in-Frozen : goal.returns-in-Frozen
returns-in-Frozen c =
    frozen_told _ _ _ _ _ c.in-Frozen.is c.is_fixed.ensures c.is_writable.ensures c.is_configurable-in-Frozen.ensures
