use Rattle.jl_app.proofs.Refusing.{never_both}
use Rattle.jl_app.proofs.laws.never_both.Goals as goal

pub returns : goal.returns
returns c = never_both
