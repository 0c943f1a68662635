use Rattle.std.proofs.Common.{arith}
use Rattle.jl_analysis.proofs.RuleNames.{listed}
use Rattle.jl_analysis.proofs.names.rule_named.Goals as goal

pub returns-clause-none : goal.returns-clause-none
returns-clause-none c = λ rule is. c.loop-rule.invariant rule (omega (arith, listed rule _ is)) is
