use Rattle.jl_analysis.specs.Rules.{rules}
use Rattle.jl_analysis.proofs.KindsAdded.{needed_at}
use Rattle.jl_analysis.proofs.kinds_needed.needed_by.Goals as goal

pub returns : goal.returns
unfolding rules
returns c = needed_at c.args.rule c.entry.result.now c.requires.0 c.entry.ensures
