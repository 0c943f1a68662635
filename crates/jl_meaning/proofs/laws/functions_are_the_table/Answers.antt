use Rattle.jl_meaning.proofs.SameTable.{same_table}
use Rattle.jl_meaning.proofs.laws.functions_are_the_table.Goals as goal

pub returns : goal.returns
returns c = same_table
