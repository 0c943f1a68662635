use Rattle.jl_effects.specs.Keeping.{IsOneOf}
use Rattle.jl_effects.proofs.Faults.{row_fails}
use Rattle.jl_effects.proofs.laws.rows_add_no_faults.Goals as goal

pub returns : goal.returns
returns g c = λ l k jobs call fault faults full own calls p n w.
    row_fails l k jobs call fault (IsOneOf faults) full own calls p n w
