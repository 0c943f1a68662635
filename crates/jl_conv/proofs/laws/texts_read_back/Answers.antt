use Rattle.jl_conv.proofs.ReadBack.{texts_read_back}
use Rattle.jl_conv.proofs.laws.texts_read_back.Goals as goal

pub returns : goal.returns
returns c = texts_read_back
