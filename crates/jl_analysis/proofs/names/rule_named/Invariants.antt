use Rattle.std.proofs.Common.{◌<◌, ℕ, Some}
use Rattle.std.specs.Prelude.{◌≢◌}
use Rattle.jl_analysis.specs.Rules.{name_at}
use Rattle.jl_analysis.proofs.names.rule_named.Given as goal

abbrev pub invariant-loop-rule : goal.invariant-loop-rule
invariant-loop-rule l = (other : ℕ) → other < l.rule → name_at other ≢ Some l.name
