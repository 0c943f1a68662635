use Rattle.jl_grammar.proofs.One.{limits_agree}
use Rattle.jl_grammar.proofs.laws.limits_agree.Goals as goal

pub returns : goal.returns
returns c = limits_agree
