use Rattle.std.proofs.Common.{ap}
use Rattle.jl_ast.specs.Tree.{Program, Tree, code}
use Rattle.jl_ast.proofs.SameNumbers.{numbered_moved}
use Rattle.jl_ast.proofs.laws.places_keep_numbers.Goals as goal

pub returns : goal.returns
returns c = λ p. let program : Tree (Unit {0}) code → Program (Unit {0}) =
    λ b. record { body = b; at = tt } in ap program (numbered_moved (λ s. tt) 0 p.body)
