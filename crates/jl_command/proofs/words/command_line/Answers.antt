use Rattle.std.proofs.Common.{◌≡◌, ◌∙◌, ap, ap₂, codes, rules}
use Rattle.std.proofs.lemmas.Result.{IfOk-weaker}
use Rattle.clap.specs.Words.{app_of, rule_of, with_rule}
use Rattle.clap.specs.Simple.{app_of_fields}
use Rattle.jl_command.specs.CommandLine.{command_argument, option_argument, without_flags}
use Rattle.jl_command.proofs.WordLemmas.{made_line}
use Rattle.jl_command.proofs.words.command_line.Goals as goal

pub returns : goal.returns
returns c =
    let command_is : rule_of c.required-command.result ≡ command_argument = search rules in
    let budget_is : rule_of c.long-budget.result ≡ option_argument (codes "budget") = search rules in
    let rules_is : rule_of c.long-rules.result ≡ option_argument (codes "rules") = search rules in
    let number_is : rule_of c.long-number.result ≡ option_argument (codes "number") = search rules in
    let bare_is : app_of c.disable_version_flag.result ≡ without_flags =
    ap app_of_fields c.disable_version_flag.ensures ∙ search rules in
    IfOk-weaker c.arg-4.result _ _
    (λ line adds. made_line (app_of line) (adds.shape (search rules)
    ∙ ap₂ with_rule (c.in_ok-arg-3.ensures.shape (search rules)
    ∙ ap₂ with_rule (c.in_ok-arg-2.ensures.shape (search rules)
    ∙ ap₂ with_rule (c.in_ok-arg.ensures.shape (search rules) ∙ ap₂ with_rule bare_is command_is) budget_is) rules_is)
    number_is))
    c.arg-4.ensures
