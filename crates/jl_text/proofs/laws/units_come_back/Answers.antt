-- The law is proved over the definitions alone.
use Rattle.jl_text.proofs.UnitLemmas.{units_come_back}
use Rattle.jl_text.proofs.laws.units_come_back.Goals as goal

pub returns : goal.returns
returns c = units_come_back
