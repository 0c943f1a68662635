use Rattle.std.proofs.Common.{ℕ, List, Option, Some, Bor, option_map, rules}
use Rattle.jl_command.specs.Asked.{replay, rules_in}
use Rattle.jl_command.specs.Meant.{Means}
use Rattle.jl_command.specs.declared.command.Command.TheVariants as commands
use Rattle.jl_command.specs.inner.Optional.{BothOrNeither}
use Rattle.jl_command.proofs.NamedCommands.{with_replay}
use Rattle.jl_command.proofs.command_names.without_budget.Goals as goal

pub returns : goal.returns
returns c =
    let names : Option (List ℕ) = option_map (λ (s : Bor (List ℕ)). s.now) c.args.rules in
    let set = c.in_ok-rules.rules in
    let means : BothOrNeither Means (Some (commands.Replay set)) (option_map (λ l. replay l) (rules_in names)) =
    with_replay (rules_in names) set c.in_ok-rules.ensures in
    search rules
