use Rattle.jl_grammar.proofs.One.{reader_tells}
use Rattle.jl_grammar.proofs.laws.reader_tells.Goals as goal

pub returns : goal.returns
returns c = reader_tells
