use Rattle.std.proofs.Common.{◌≡◌, length}
use Rattle.jl_record.proofs.ListReads.{SoFar}
use Rattle.jl_record.proofs.value_lists.counted_values.Given as goal

abbrev pub invariant-loop-i : goal.invariant-loop-i
invariant-loop-i l = SoFar l.units l.values l.rest × (length l.values ≡ l.i)
