use Rattle.jl_read_back.proofs.Programs.{well_formed}
use Rattle.jl_read_back.proofs.laws.woven_is_well_formed.Goals as goal

pub returns : goal.returns
returns g c = λ chosen p q w few e. well_formed chosen p q w few e
