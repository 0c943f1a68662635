use Rattle.std.proofs.Common.{sym, ◌∙◌}
use Rattle.jl_analysis.specs.Rules.{rules}
use Rattle.jl_analysis.proofs.RuleNames.{named}
use Rattle.jl_analysis.proofs.names.rule_name.Goals as goal

pub returns : goal.returns
unfolding rules
returns c = sym c.entry.ensures ∙ sym (named c.args.rule c.requires.0)
