use Rattle.jl_value.proofs.Rows.{all_pass}
use Rattle.jl_value.proofs.laws.all_are_in_the_table.Goals as goal

pub returns : goal.returns
returns c = all_pass
