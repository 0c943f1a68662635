use Rattle.std.proofs.Common.{ℕ, List, Option, Some, option_map, Bor, subst, sym}
use Rattle.jl_command.specs.Asked.{rules_in}
use Rattle.jl_command.specs.Meant.{IsChoice}
use Rattle.jl_command.specs.inner.Optional.{BothOrNeither}
use Rattle.jl_command.proofs.Choices.{all_chosen}
use Rattle.jl_command.proofs.rule_names.rules_in.Goals as goal

pub returns-in-None : goal.returns-in-None
returns-in-None c =
    subst (λ (value : Option (Bor (List ℕ))). BothOrNeither IsChoice (Some c.all.result)
    (rules_in (option_map (λ s. s.now) value)))
    (sym c.in-None.is) (all_chosen c.all.result c.all.ensures)
