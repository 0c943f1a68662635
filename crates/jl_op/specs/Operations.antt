-- The operations of a run.
use Rattle.jl_op.specs.declared.op.Op.{Op}
use Rattle.jl_op.specs.declared.op.OpId.{OpId}

-- the id of a place, and what was done there
abbrev pub Operation : Type 0
Operation = OpId × Op
