use Rattle.std.proofs.Common.{◌≡◌, ◌+◌, ◌-◌, cond, drop, Some, ap, sym, ◌∙◌, arith}
use Rattle.std.specs.List.{position_from}
use Rattle.std.specs.Str.{bytes_eq}
use Rattle.jl_analysis.specs.Rules.{rule_count}
use Rattle.jl_analysis.proofs.RuleNames.{rule_names}
use Rattle.jl_report.proofs.Switching.{rule_turn, rule_end}
use Rattle.jl_report.proofs.off_comments.rule_with.Goals as goal

pub returns-then-is_spelled : goal.returns-then-is_spelled
returns-then-is_spelled c =
    let name = c.args.name.now in
    let rule = c.loop-rule.rule in
    let same : c.as_bytes.result.now ≡ c.rule_name.result.now = c.as_bytes.ensures.value in
    ap (λ b. cond b (Some rule) (position_from (bytes_eq name) (rule + 1) (drop (rule + 1 - 1) rule_names)))
    c.if-is_spelled.ensures
    ∙ sym (rule_turn name c.as_bytes.result.now rule (omega (arith, c.loop-rule.auto.rule)) (ap Some same
    ∙ c.rule_name.ensures))
    ∙ c.loop-rule.invariant

pub loop-rule-preserved : goal.loop-rule-preserved
loop-rule-preserved c =
    let name = c.args.name.now in
    let rule = c.loop-rule.rule in
    let same : c.as_bytes.result.now ≡ c.rule_name.result.now = c.as_bytes.ensures.value in
    ap (λ b. cond b (Some rule) (position_from (bytes_eq name) (rule + 1) (drop (rule + 1 - 1) rule_names)))
    c.if-is_spelled.ensures
    ∙ sym (rule_turn name c.as_bytes.result.now rule (omega (arith, c.loop-rule.auto.rule)) (ap Some same
    ∙ c.rule_name.ensures))
    ∙ c.loop-rule.invariant

pub returns : goal.returns
returns c =
    let name = c.args.name.now in
    let last : c.loop-rule.rule ≡ rule_count + 1 = omega arith in
    sym (rule_end name (rule_count + 1)) ∙ ap (λ r. position_from (bytes_eq name) r (drop (r - 1) rule_names))
    (sym last)
    ∙ c.loop-rule.invariant
