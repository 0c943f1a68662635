-- Which rules are chosen.
use Rattle.std.specs.Prelude.{ℕ, zero, suc, Bool, false, slice_index_or}
use Rattle.jl_analysis.specs.declared.rule_set.RuleSet.{RuleSet}

-- the rule with this number is chosen; the numbers count from 1
abbrev pub is_chosen : RuleSet → (rule : ℕ) → Bool
is_chosen set zero = false
is_chosen set (suc place) = slice_index_or set.chosen place false
