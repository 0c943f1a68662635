use Rattle.jl_print.proofs.ReadFormed.{read_is_well_formed}
use Rattle.jl_print.proofs.laws.read_is_well_formed.Goals as goal

pub returns : goal.returns
returns c = read_is_well_formed
