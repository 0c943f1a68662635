use Rattle.std.proofs.Common.{◌∙◌, ℕ, List, Option, Some, Bor, codes, option_map, sym}
use Rattle.jl_command.specs.Asked as asked
use Rattle.jl_command.specs.declared.command.Command.TheVariants as commands
use Rattle.jl_command.proofs.NamedCommands.{by_name, with_soak}
use Rattle.jl_command.proofs.command_names.command_named.Goals as goal

pub returns-then-eq : goal.returns-then-eq
returns-then-eq c =
    let value : Option (List ℕ) = option_map (λ (s : Bor (List ℕ)). s.now) c.args.budget in
    let names : Option (List ℕ) = option_map (λ (s : Bor (List ℕ)). s.now) c.args.rules in
    let given : Option (List ℕ) = option_map (λ (s : Bor (List ℕ)). s.now) c.args.number in
    let number = c.in_ok-number.number in
    let budget = c.in_ok-budget.budget in
    let set = c.in_ok-rules.rules in
    by_name (Some (commands.Soak number budget set)) c.args.name.now (codes "soak")
    (λ n. asked.asked_by_name n value names given) (sym c.if-eq.true ∙ c.eq.ensures)
    (with_soak given value (asked.rules_in names) number budget set c.in_ok-number.ensures c.in_ok-budget.ensures
    c.in_ok-rules.ensures)
