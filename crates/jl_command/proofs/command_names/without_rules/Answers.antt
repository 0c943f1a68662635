use Rattle.std.proofs.Common.{◌∙◌, ℕ, List, Option, Some, Bor, codes, option_map, sym}
use Rattle.jl_command.specs.Asked as asked
use Rattle.jl_command.specs.Meant.{means_cover, means_exec, means_objects, means_record, means_run, means_trace}
use Rattle.jl_command.specs.declared.command.Command.TheVariants as commands
use Rattle.jl_command.proofs.Digits.{budget_bound}
use Rattle.jl_command.proofs.NamedCommands.{by_name, with_budget}
use Rattle.jl_command.proofs.command_names.without_rules.Goals as goal

pub returns-then-eq : goal.returns-then-eq
returns-then-eq c =
    let value : Option (List ℕ) = option_map (λ (s : Bor (List ℕ)). s.now) c.args.budget in
    let budget = c.in_ok-budget.budget in
    by_name (Some (commands.Run budget)) c.args.name.now (codes "run") (λ n. asked.without_rules n value)
    (sym c.if-eq.true ∙ c.eq.ensures)
    (with_budget (Some (commands.Run budget)) (λ most. asked.run most) (asked.budget_in value) (Some budget)
    c.in_ok-budget.ensures (means_run budget (budget_bound value budget c.in_ok-budget.ensures)))

pub returns-then-eq-2 : goal.returns-then-eq-2
returns-then-eq-2 c =
    let value : Option (List ℕ) = option_map (λ (s : Bor (List ℕ)). s.now) c.args.budget in
    let budget = c.in_ok-budget-2.budget in
    by_name (Some (commands.Trace budget)) c.args.name.now (codes "trace") (λ n. asked.without_rules n value)
    (sym c.if-eq-2.true ∙ c.eq-2.ensures)
    (with_budget (Some (commands.Trace budget)) (λ most. asked.trace most) (asked.budget_in value) (Some budget)
    c.in_ok-budget-2.ensures (means_trace budget (budget_bound value budget c.in_ok-budget-2.ensures)))

pub returns-then-eq-3 : goal.returns-then-eq-3
returns-then-eq-3 c =
    let value : Option (List ℕ) = option_map (λ (s : Bor (List ℕ)). s.now) c.args.budget in
    let budget = c.in_ok-budget-3.budget in
    by_name (Some (commands.Exec budget)) c.args.name.now (codes "exec") (λ n. asked.without_rules n value)
    (sym c.if-eq-3.true ∙ c.eq-3.ensures)
    (with_budget (Some (commands.Exec budget)) (λ most. asked.exec most) (asked.budget_in value) (Some budget)
    c.in_ok-budget-3.ensures (means_exec budget (budget_bound value budget c.in_ok-budget-3.ensures)))

pub returns-then-eq-4 : goal.returns-then-eq-4
returns-then-eq-4 c =
    let value : Option (List ℕ) = option_map (λ (s : Bor (List ℕ)). s.now) c.args.budget in
    let budget = c.in_ok-budget-4.budget in
    by_name (Some (commands.Record budget)) c.args.name.now (codes "record") (λ n. asked.without_rules n value)
    (sym c.if-eq-4.true ∙ c.eq-4.ensures)
    (with_budget (Some (commands.Record budget)) (λ most. asked.record_of_run most) (asked.budget_in value) (Some budget)
    c.in_ok-budget-4.ensures (means_record budget (budget_bound value budget c.in_ok-budget-4.ensures)))

pub returns-then-eq-5 : goal.returns-then-eq-5
returns-then-eq-5 c =
    let value : Option (List ℕ) = option_map (λ (s : Bor (List ℕ)). s.now) c.args.budget in
    let budget = c.in_ok-budget-5.budget in
    by_name (Some (commands.Objects budget)) c.args.name.now (codes "objects") (λ n. asked.without_rules n value)
    (sym c.if-eq-5.true ∙ c.eq-5.ensures)
    (with_budget (Some (commands.Objects budget)) (λ most. asked.objects most) (asked.budget_in value) (Some budget)
    c.in_ok-budget-5.ensures (means_objects budget (budget_bound value budget c.in_ok-budget-5.ensures)))

pub returns-then-eq-6 : goal.returns-then-eq-6
returns-then-eq-6 c =
    let value : Option (List ℕ) = option_map (λ (s : Bor (List ℕ)). s.now) c.args.budget in
    let budget = c.in_ok-budget-6.budget in
    by_name (Some (commands.Cover budget)) c.args.name.now (codes "cover") (λ n. asked.without_rules n value)
    (sym c.if-eq-6.true ∙ c.eq-6.ensures)
    (with_budget (Some (commands.Cover budget)) (λ most. asked.cover most) (asked.budget_in value) (Some budget)
    c.in_ok-budget-6.ensures (means_cover budget (budget_bound value budget c.in_ok-budget-6.ensures)))
