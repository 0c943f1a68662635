use Rattle.std.proofs.Common.{Contains}
use Rattle.jl_effects.specs.Running.{state_of}
use Rattle.jl_meaning.specs.Mean.{run_of}
use Rattle.jl_op.specs.IdMap.{operation_ids}
use Rattle.jl_op.specs.Kinds.{kind_of}
use Rattle.jl_operation_rows.proofs.MapRows.{each_all, numbered_by_nodes}
use Rattle.jl_operation_rows.proofs.laws.operations_are_numbered_by_their_nodes.Goals as goal

pub returns : goal.returns
returns c = λ chosen p n.
    each_all (λ o. Contains (operation_ids p) (kind_of o.1, o.0.0)) (state_of (run_of chosen p n)).operations
    (numbered_by_nodes chosen p n)
