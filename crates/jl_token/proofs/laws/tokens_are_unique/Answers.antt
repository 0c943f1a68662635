use Rattle.jl_token.proofs.Whole.{tokens_are_unique}
use Rattle.jl_token.proofs.laws.tokens_are_unique.Goals as goal

pub returns : goal.returns
returns c = tokens_are_unique
