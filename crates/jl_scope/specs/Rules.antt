-- The early rules: what makes a program an error before it runs (clause 16), with their numbers and names.
use Rattle.std.specs.Prelude.{ℕ, List, codes}
use Rattle.jl_scope.specs.declared.rules.EarlyRule.{EarlyRule}
use Rattle.jl_scope.specs.declared.rules.EarlyRule.TheVariants as rules

abbrev pub rule_number : EarlyRule → ℕ
rule_number rules.ReturnOutside = 1
rule_number rules.BreakOutside = 2
rule_number rules.ContinueOutside = 3
rule_number rules.LabelTwice = 4
rule_number rules.KeyClash = 5
rule_number rules.StrictName = 6
rule_number rules.StrictWord = 7
rule_number rules.StrictParam = 8
rule_number rules.StrictKey = 9
rule_number rules.StrictDelete = 10

abbrev pub rule_name : EarlyRule → List ℕ
rule_name rules.ReturnOutside = codes "return-outside"
rule_name rules.BreakOutside = codes "break-outside"
rule_name rules.ContinueOutside = codes "continue-outside"
rule_name rules.LabelTwice = codes "label-twice"
rule_name rules.KeyClash = codes "key-clash"
rule_name rules.StrictName = codes "strict-name"
rule_name rules.StrictWord = codes "strict-word"
rule_name rules.StrictParam = codes "strict-param"
rule_name rules.StrictKey = codes "strict-key"
rule_name rules.StrictDelete = codes "strict-delete"
