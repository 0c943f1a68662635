use Rattle.jl_token.proofs.Whole.{few_tokens}
use Rattle.jl_token.proofs.laws.few_tokens.Goals as goal

pub returns : goal.returns
returns c = few_tokens
