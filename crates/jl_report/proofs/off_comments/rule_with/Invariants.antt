use Rattle.std.proofs.Common.{◌≡◌, ◌-◌, drop}
use Rattle.std.specs.List.{position_from}
use Rattle.std.specs.Str.{bytes_eq}
use Rattle.jl_analysis.proofs.RuleNames.{rule_names}
use Rattle.jl_analysis.specs.Rules.{rule_with}
use Rattle.jl_report.proofs.off_comments.rule_with.Given as goal

abbrev pub invariant-loop-rule : goal.invariant-loop-rule
invariant-loop-rule l = position_from (bytes_eq l.name) l.rule (drop (l.rule - 1) rule_names) ≡ rule_with l.name
