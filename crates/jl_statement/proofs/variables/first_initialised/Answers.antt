use Rattle.std.proofs.Common.{refl}
use Rattle.jl_statement.proofs.Declaring.{first_found}
use Rattle.jl_statement.proofs.Dropped.{found_at}
use Rattle.jl_statement.proofs.variables.first_initialised.Goals as goal

pub returns-in-Some-1₀-clause-same : goal.returns-in-Some-1₀-clause-same
returns-in-Some-1₀-clause-same c =
    first_found _ _ _ c.in-Some.declarator.now _ _ _ c.loop-declarator.invariant
    (found_at _ _ _ _ c.items.ensures c.in-Some.ensures.lookup.3.0 c.in-Some.ensures.lookup.1) c.in-Some-1₀.is refl refl
