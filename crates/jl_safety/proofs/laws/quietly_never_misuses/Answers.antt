use Rattle.jl_safety.proofs.Programs.{accepted_never_misuses, also_quietly}
use Rattle.jl_safety.proofs.laws.quietly_never_misuses.Goals as goal

pub returns : goal.returns
returns c = λ chosen p none n. also_quietly chosen p n (accepted_never_misuses chosen p none n)
