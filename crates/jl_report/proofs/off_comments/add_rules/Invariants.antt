use Rattle.std.proofs.Common.{◌≡◌, drop, map}
use Rattle.jl_report.specs.Off.{with_pairs}
use Rattle.jl_report.proofs.off_comments.add_rules.Given as goal

abbrev pub invariant-loop-rule : goal.invariant-loop-rule
invariant-loop-rule l =
    with_pairs l.pairs.keys (map (λ rule. (l.line, rule)) (drop l.rule-index l.rule-items))
    ≡ with_pairs l.initial.pairs.keys (map (λ rule. (l.line, rule)) l.rule-items)
