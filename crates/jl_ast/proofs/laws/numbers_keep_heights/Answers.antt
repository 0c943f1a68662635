use Rattle.jl_ast.proofs.SameHeight.{renumbered}
use Rattle.jl_ast.proofs.laws.numbers_keep_heights.Goals as goal

pub returns : goal.returns
returns c = λ p. renumbered 0 p.body
