use Rattle.jl_operation_rows.proofs.PlacedRows.{same_rows_of}
use Rattle.jl_operation_rows.proofs.laws.operations_have_the_same_rows.Goals as goal

pub returns : goal.returns
returns c = λ chosen p q. same_rows_of chosen p q
