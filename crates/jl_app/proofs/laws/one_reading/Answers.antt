use Rattle.jl_app.proofs.Refusing.{one_read}
use Rattle.jl_app.proofs.laws.one_reading.Goals as goal

pub returns : goal.returns
returns c = one_read
