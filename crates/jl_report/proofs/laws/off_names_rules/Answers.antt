use Rattle.jl_report.proofs.OffPairs.{off_names_rules}
use Rattle.jl_report.proofs.laws.off_names_rules.Goals as goal

pub returns : goal.returns
returns c = off_names_rules
