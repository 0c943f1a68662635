use Rattle.std.proofs.Common.{◌∙◌, ℕ, List, Option, Some, Bor, codes, option_map, sym}
use Rattle.jl_command.specs.Asked as asked
use Rattle.jl_command.specs.declared.command.Command.TheVariants as commands
use Rattle.jl_command.proofs.NamedCommands.{by_name, with_lint}
use Rattle.jl_command.proofs.command_names.without_number.Goals as goal

pub returns-then-eq : goal.returns-then-eq
returns-then-eq c =
    let value : Option (List ℕ) = option_map (λ (s : Bor (List ℕ)). s.now) c.args.budget in
    let names : Option (List ℕ) = option_map (λ (s : Bor (List ℕ)). s.now) c.args.rules in
    let budget = c.in_ok-budget.budget in
    let set = c.in_ok-rules.rules in
    by_name (Some (commands.Lint budget set)) c.args.name.now (codes "lint") (λ n. asked.without_number n value names)
    (sym c.if-eq.true ∙ c.eq.ensures)
    (with_lint value (asked.rules_in names) budget set c.in_ok-budget.ensures c.in_ok-rules.ensures)

pub returns-then-eq-2 : goal.returns-then-eq-2
returns-then-eq-2 c =
    let value : Option (List ℕ) = option_map (λ (s : Bor (List ℕ)). s.now) c.args.budget in
    let names : Option (List ℕ) = option_map (λ (s : Bor (List ℕ)). s.now) c.args.rules in
    by_name c.without_budget.result c.args.name.now (codes "replay") (λ n. asked.without_number n value names)
    (sym c.if-eq-2.true ∙ c.eq-2.ensures) c.without_budget.ensures
