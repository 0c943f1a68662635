use Rattle.jl_ast.proofs.Counted.{counted}
use Rattle.jl_ast.proofs.laws.numbers_count_the_table.Goals as goal

pub returns : goal.returns
returns c = λ p. counted 0 p.body
