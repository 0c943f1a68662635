use Rattle.std.proofs.Common.{◌∙◌, sym}
use Rattle.jl_command.proofs.Choices.{no_rule, not_there, there_already}
use Rattle.jl_command.proofs.NamedRules.{no_rule_found, rule_found}
use Rattle.jl_command.proofs.rule_names.with_name.Goals as goal

pub returns-in_err-rule : goal.returns-in_err-rule
returns-in_err-rule c = λ chosen choice.
    no_rule c.from_residual.result chosen _ c.from_residual.ensures
    (no_rule_found c.args.name.now c.in_err-rule.ensures.none)

pub returns-then-has : goal.returns-then-has
returns-then-has c = λ chosen choice.
    let rule = c.in_ok-rule.rule in
    let found = rule_found c.one_name.ensures c.args.name.now rule c.in_ok-rule.ensures.listed
    c.in_ok-rule.ensures.found in
    there_already c.args.rules chosen rule _ found choice c.in_ok-rule.ensures.listed
    (sym c.has.ensures ∙ c.if-has.true)

pub returns : goal.returns
returns c = λ chosen choice.
    let rule = c.in_ok-rule.rule in
    let found = rule_found c.one_name.ensures c.args.name.now rule c.in_ok-rule.ensures.listed
    c.in_ok-rule.ensures.found in
    not_there c.args.rules c.with.result chosen rule _ found choice c.in_ok-rule.ensures.listed
    (sym c.has.ensures ∙ c.if-has.false) c.with.ensures.chosen c.with.ensures.others
