use Rattle.jl_app.proofs.Refusing.{accepted_or_refused}
use Rattle.jl_app.proofs.laws.accepted_or_refused.Goals as goal

pub returns : goal.returns
returns c = accepted_or_refused
