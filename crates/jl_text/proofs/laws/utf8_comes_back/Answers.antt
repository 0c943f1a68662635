-- The law is proved over the definitions alone.
use Rattle.jl_text.proofs.EncodingLemmas.{comes_back}
use Rattle.jl_text.proofs.laws.utf8_comes_back.Goals as goal

pub returns : goal.returns
returns c = comes_back
