use Rattle.jl_store.proofs.Chains.{comes_on, comes_thrown}
use Rattle.jl_store.proofs.Steps.{comes_to}
use Rattle.jl_lib_object.proofs.Ends.{came, came_thrown}
use Rattle.jl_lib_object.proofs.descriptors.with_setter.Goals as goal

pub returns-in-Gives : goal.returns-in-Gives
returns-in-Gives c = comes_on _ (came _ _ _ _ c.in_ok-setter.ensures _ c.in-Gives.is) comes_to

pub returns-in-Throws : goal.returns-in-Throws
returns-in-Throws c = comes_thrown _ (came_thrown _ _ _ _ c.in_ok-setter.ensures _ c.in-Throws.is)
