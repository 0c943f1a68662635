use Rattle.jl_effects.specs.Running.{state_of}
use Rattle.jl_meaning.specs.Mean.{mean}
use Rattle.jl_operation_rows.specs.Seeing.{SeesValues}
use Rattle.jl_operation_rows.proofs.MapRows.{each_all, operations_see_values}
use Rattle.jl_operation_rows.proofs.laws.operations_see_values.Goals as goal

pub returns : goal.returns
returns g c = λ chosen p n.
    each_all SeesValues (state_of (mean chosen p n)).operations (operations_see_values p chosen n)
