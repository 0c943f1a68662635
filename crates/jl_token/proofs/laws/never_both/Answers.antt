use Rattle.jl_token.proofs.Whole.{never_both}
use Rattle.jl_token.proofs.laws.never_both.Goals as goal

pub returns : goal.returns
returns c = never_both
