use Rattle.jl_value.proofs.Rows.{one_builtin}
use Rattle.jl_value.proofs.laws.one_builtin.Goals as goal

pub returns : goal.returns
returns c = one_builtin
