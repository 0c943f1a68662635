use Rattle.jl_effects.specs.Matching.{ArePaired}
use Rattle.jl_effects.proofs.Match.{row_matches}
use Rattle.jl_effects.proofs.laws.rows_match_themselves.Goals as goal

pub returns : goal.returns
returns g c = λ apply kept i j call fault pairs p s credit.
    row_matches apply kept (ArePaired i j) call fault pairs p s credit
