use Rattle.jl_function.proofs.Entries.{no_object, object_is}
use Rattle.jl_function.proofs.script.this_as_object.Goals as goal

pub returns-in-Gives : goal.returns-in-Gives
returns-in-Gives c = object_is _ _ _ _ _ c.in_ok-id.ensures c.in-Gives.is

pub returns-in-Throws : goal.returns-in-Throws
returns-in-Throws c = no_object _ _ _ _ _ c.in_ok-id.ensures c.in-Throws.is
