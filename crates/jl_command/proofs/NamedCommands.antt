-- Commands by their names, with what their options are.
use Rattle.std.proofs.Common.{◌≡◌, ℕ, true, List, Option, Some, sym, subst}
use Rattle.std.proofs.lemmas.Slice.Eq.{bytes_eq-Decides}
use Rattle.std.specs.Prelude.{option_map}
use Rattle.std.specs.Str.{bytes_eq}
use Rattle.jl_analysis.specs.declared.rule_set.RuleSet.{RuleSet}
use Rattle.jl_command.specs.Asked.{Asked, budget_in, lint_with, replay, soak_number, soak_with}
use Rattle.jl_command.specs.CommandLine.{Text}
use Rattle.jl_command.specs.Meant.{IsChoice, Means, means_lint, means_replay, means_soak}
use Rattle.jl_command.specs.inner.Optional.{BothOrNeither}
use Rattle.jl_command.specs.declared.command.Command.{Command}
use Rattle.jl_command.specs.declared.command.Command.TheVariants as commands
use Rattle.jl_command.proofs.Digits.{budget_bound, number_bound}
use Rattle.jl_command.proofs.Optional.{both}

-- what holds of a word holds of a name that is the word
pub by_name : (r : Option Command) (name word : Text) (f : Text → Option Asked) → true ≡ bytes_eq name word
    → BothOrNeither Means r (f word) → BothOrNeither Means r (f name)
by_name r name word f is m =
    subst (λ n. BothOrNeither Means r (f n)) (sym ((bytes_eq-Decides name word).0 (sym is))) m

-- a command with a budget
pub with_budget : (r : Option Command) (f : ℕ → Asked) (o p : Option ℕ) → p ≡ o
    → BothOrNeither Means r (option_map f p) → BothOrNeither Means r (option_map f o)
with_budget r f o p is m = subst (λ x. BothOrNeither Means r (option_map f x)) is m

-- a command with rules too
pub with_lint : (value : Option Text) (chosen : Option (List ℕ)) (budget : ℕ) (set : RuleSet)
    → Some budget ≡ budget_in value → BothOrNeither IsChoice (Some set) chosen
    → BothOrNeither Means (Some (commands.Lint budget set)) (lint_with (budget_in value) chosen)
with_lint value chosen budget set is choice =
    let one = both IsChoice set chosen choice in
    subst (λ o. BothOrNeither Means (Some (commands.Lint budget set)) (lint_with o chosen)) is
    (subst (λ o. BothOrNeither Means (Some (commands.Lint budget set)) (lint_with (Some budget) o)) (sym one.1)
    (means_lint budget set one.0 (budget_bound value budget is) one.2))

-- a command with rules and no budget
pub with_replay : (chosen : Option (List ℕ)) (set : RuleSet) → BothOrNeither IsChoice (Some set) chosen
    → BothOrNeither Means (Some (commands.Replay set)) (option_map (λ l. replay l) chosen)
with_replay chosen set choice =
    let one = both IsChoice set chosen choice in
    subst (λ o. BothOrNeither Means (Some (commands.Replay set)) (option_map (λ l. replay l) o)) (sym one.1)
    (means_replay set one.0 one.2)

-- and with a number
pub with_soak : (given value : Option Text) (chosen : Option (List ℕ)) (number budget : ℕ) (set : RuleSet)
    → Some number ≡ soak_number given → Some budget ≡ budget_in value → BothOrNeither IsChoice (Some set) chosen
    → BothOrNeither Means (Some (commands.Soak number budget set))
    (soak_with (soak_number given) (budget_in value) chosen)
with_soak given value chosen number budget set few is choice =
    let one = both IsChoice set chosen choice in
    subst (λ o. BothOrNeither Means (Some (commands.Soak number budget set)) (soak_with o (budget_in value) chosen)) few
    (subst (λ o. BothOrNeither Means (Some (commands.Soak number budget set)) (soak_with (Some number) o chosen)) is
    (subst (λ o. BothOrNeither Means (Some (commands.Soak number budget set)) (soak_with (Some number) (Some budget) o))
    (sym one.1) (means_soak number budget set one.0 (number_bound given number few) (budget_bound value budget is)
    one.2)))
