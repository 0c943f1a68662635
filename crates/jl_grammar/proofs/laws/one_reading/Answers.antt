use Rattle.jl_grammar.proofs.One.{one_reading}
use Rattle.jl_grammar.proofs.laws.one_reading.Goals as goal

pub returns : goal.returns
returns c = one_reading
