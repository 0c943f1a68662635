use Rattle.jl_token.proofs.Whole.{bad_place_is_unique}
use Rattle.jl_token.proofs.laws.bad_place_is_unique.Goals as goal

pub returns : goal.returns
returns c = bad_place_is_unique
