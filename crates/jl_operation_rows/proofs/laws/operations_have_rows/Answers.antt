use Rattle.jl_effects.specs.Running.{state_of}
use Rattle.jl_meaning.specs.Mean.{mean}
use Rattle.jl_operation_rows.specs.Rows.{HasRow}
use Rattle.jl_operation_rows.proofs.MapRows.{each_all, operations_have_rows}
use Rattle.jl_operation_rows.proofs.laws.operations_have_rows.Goals as goal

pub returns : goal.returns
returns g c = λ chosen p n.
    each_all (HasRow p) (state_of (mean chosen p n)).operations (operations_have_rows p chosen n)
