use Rattle.jl_token.proofs.Whole.{tokens_or_bad}
use Rattle.jl_token.proofs.laws.tokens_or_bad.Goals as goal

pub returns : goal.returns
returns c = tokens_or_bad
