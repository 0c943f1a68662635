use Rattle.jl_analysis.proofs.RuleNames.{one_name}
use Rattle.jl_analysis.proofs.laws.one_name.Goals as goal

pub returns : goal.returns
returns c = one_name
