use Rattle.jl_grammar.proofs.OneAccepted.{one_accepted}
use Rattle.jl_grammar.proofs.laws.one_accepted.Goals as goal

pub returns : goal.returns
returns c = one_accepted
