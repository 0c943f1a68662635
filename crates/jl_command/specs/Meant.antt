-- What a command of the code means: the same, with its rules as a choice.
use Rattle.std.specs.Prelude.{◌≡◌, ℕ, ◌≤◌, List}
use Rattle.jl_analysis.specs.Chosen.{is_chosen}
use Rattle.jl_analysis.specs.Rules.{IsRule}
use Rattle.jl_analysis.specs.declared.rule_set.RuleSet.{RuleSet}
use Rattle.jl_command.specs.Asked.{Asked, check, cover, exec, instrument, is_among, lint, map_of_ids, most_budget}
use Rattle.jl_command.specs.Asked.{most_functions, objects, print, record_of_run, replay, run, soak, srcmap, trace}
use Rattle.jl_command.specs.Asked.{unmap}
use Rattle.jl_command.specs.declared.command.Command.{Command}
use Rattle.jl_command.specs.declared.command.Command.TheVariants as commands

-- the choice of the rules with these numbers
abbrev pub IsChoice : RuleSet → List ℕ → Type 0
IsChoice set chosen = (rule : ℕ) → IsRule rule → is_chosen set rule ≡ is_among chosen rule

pub data Means : Command → Asked → Type 0 where
  means_lint : (budget : ℕ) (set : RuleSet) (chosen : List ℕ) → budget ≤ most_budget → IsChoice set chosen
      → Means (commands.Lint budget set) (lint budget chosen)
  means_run : (budget : ℕ) → budget ≤ most_budget → Means (commands.Run budget) (run budget)
  means_check : Means commands.Check check
  means_print : Means commands.Print print
  means_instrument : Means commands.Instrument instrument
  means_map : Means commands.Map map_of_ids
  means_srcmap : Means commands.Srcmap srcmap
  means_unmap : Means commands.Unmap unmap
  means_trace : (budget : ℕ) → budget ≤ most_budget → Means (commands.Trace budget) (trace budget)
  means_exec : (budget : ℕ) → budget ≤ most_budget → Means (commands.Exec budget) (exec budget)
  means_record : (budget : ℕ) → budget ≤ most_budget → Means (commands.Record budget) (record_of_run budget)
  means_replay : (set : RuleSet) (chosen : List ℕ) → IsChoice set chosen → Means (commands.Replay set) (replay chosen)
  means_objects : (budget : ℕ) → budget ≤ most_budget → Means (commands.Objects budget) (objects budget)
  means_cover : (budget : ℕ) → budget ≤ most_budget → Means (commands.Cover budget) (cover budget)
  means_soak : (number budget : ℕ) (set : RuleSet) (chosen : List ℕ) → number ≤ most_functions → budget ≤ most_budget
      → IsChoice set chosen → Means (commands.Soak number budget set) (soak number budget chosen)
