use Rattle.jl_safety.proofs.Programs.{accepted_never_misuses}
use Rattle.jl_safety.proofs.laws.accepted_never_misuses.Goals as goal

pub returns : goal.returns
returns c = accepted_never_misuses
