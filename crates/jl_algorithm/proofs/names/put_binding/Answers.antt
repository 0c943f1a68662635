use Rattle.std.proofs.Common.{refl}
use Rattle.jl_algorithm.proofs.Resolved.{puts_binding, throws_binding}
use Rattle.jl_algorithm.proofs.names.put_binding.Goals as goal

pub returns-in-Gives-clause-refines : goal.returns-in-Gives-clause-refines
returns-in-Gives-clause-refines c =
    puts_binding _ _ _ _ _ _ _ _ _ refl c.in_ok-set_mutable_binding.ensures c.in-Gives.is

pub returns-in-Throws-clause-refines : goal.returns-in-Throws-clause-refines
returns-in-Throws-clause-refines c =
    throws_binding _ _ _ _ _ _ _ _ _ refl c.in_ok-set_mutable_binding.ensures c.in-Throws.is
