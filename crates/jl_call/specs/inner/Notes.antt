-- The operations that hooks emit of one value.
use Rattle.jl_value.specs.declared.value.Seen.{Seen}
use Rattle.jl_op.specs.declared.op.Op.{Op}
use Rattle.jl_op.specs.declared.op.Op.TheVariants as op
use Rattle.jl_call.specs.declared.notes.ValueNote.{ValueNote}
use Rattle.jl_call.specs.declared.notes.ValueNote.TheVariants.{Catch, Read, Return, Test, Throw, Visit, Write}

abbrev pub op_of : ValueNote → Seen → Op
op_of (Read x) v = op.Read x v
op_of (Write x) v = op.Write x v
op_of (Catch x) v = op.Catch x v
op_of Test v = op.Conditional v
op_of Visit v = op.ForIn v
op_of Return v = op.Return v
op_of Throw v = op.Throw v
