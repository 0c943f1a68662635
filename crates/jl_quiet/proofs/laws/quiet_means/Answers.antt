use Rattle.jl_quiet.proofs.Programs.{quiet_means}
use Rattle.jl_quiet.proofs.laws.quiet_means.Goals as goal

pub returns : goal.returns
returns g c = λ chosen p. quiet_means chosen p
