use Rattle.jl_operation_rows.proofs.Nodes.{each_performed_at}
use Rattle.jl_operation_rows.proofs.laws.rows_show_the_nodes.Goals as goal

pub returns : goal.returns
returns g c = λ chosen p number n. each_performed_at p number chosen n
