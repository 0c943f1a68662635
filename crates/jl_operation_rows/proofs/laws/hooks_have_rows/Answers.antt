use Rattle.jl_effects.specs.Running.{state_of}
use Rattle.jl_meaning.specs.Mean.{mean}
use Rattle.jl_simulation.specs.Weaving.{woven_program}
use Rattle.jl_operation_rows.specs.Rows.{HasRow}
use Rattle.jl_operation_rows.proofs.MapRows.{each_all, operations_have_rows, simulated_have}
use Rattle.jl_operation_rows.proofs.laws.hooks_have_rows.Goals as goal

pub returns : goal.returns
returns c = λ chosen ts limit p read none few n.
    each_all (HasRow p) (state_of (mean chosen (woven_program chosen p) n)).hooks
    (simulated_have (HasRow p) chosen (λ m. mean chosen p m) (λ m. mean chosen (woven_program chosen p) m)
    (c.accepted_scripts_simulate.ensures chosen ts limit p read none few) (operations_have_rows p chosen) n)
