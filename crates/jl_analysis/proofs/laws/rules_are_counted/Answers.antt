use Rattle.std.proofs.Common.{refl}
use Rattle.jl_analysis.specs.Rules.{rules}
use Rattle.jl_analysis.proofs.laws.rules_are_counted.Goals as goal

pub returns : goal.returns
unfolding rules
returns c = refl
