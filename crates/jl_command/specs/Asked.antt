-- What the words of a command line ask for.
use Rattle.std.specs.Prelude.{ℕ, ◌&&◌, ◌==◌, nat_le, not, Bool, List, [], ◌∷◌, ◌++◌, Option, Some, None}
use Rattle.std.specs.Prelude.{map, length, codes, option_and_then, option_map, if◌then◌else◌}
use Rattle.std.specs.Borrow.{Bor}
use Rattle.std.specs.Char.{is_ascii_digit}
use Rattle.std.specs.List.{list_all, list_any, slice_split}
use Rattle.std.specs.Str.{bytes_eq}
use Rattle.std.specs.Str.Parse.{digits_value}
use Rattle.jl_analysis.specs.Rules.{all_rules, rule_with}
use Rattle.jl_command.specs.CommandLine.{Text, is_refused, value_of}

-- the texts of borrowed words
abbrev pub texts : List (Bor (List ℕ)) → List Text
texts words = map (λ word. word.now) words

-- a command, with the most steps that a script may take, the numbers of the rules that are reported, and the number of
-- functions of the script that is made
pub data Asked : Type 0 where
  lint : (budget : ℕ) → (chosen : List ℕ) → Asked
  run : (budget : ℕ) → Asked
  check : Asked
  print : Asked
  instrument : Asked
  map_of_ids : Asked
  srcmap : Asked
  unmap : Asked
  trace : (budget : ℕ) → Asked
  exec : (budget : ℕ) → Asked
  record_of_run : (budget : ℕ) → Asked
  replay : (chosen : List ℕ) → Asked
  objects : (budget : ℕ) → Asked
  cover : (budget : ℕ) → Asked
  soak : (number budget : ℕ) → (chosen : List ℕ) → Asked

-- one to ten decimal digits
abbrev pub is_number : Text → Bool
is_number text = (not (length text == 0) && nat_le (length text) 10) && list_all is_ascii_digit text

-- the number that a text is
abbrev pub number_in : Text → Option ℕ
number_in text = if is_number text then Some (digits_value 10 text) else None

-- the number, unless it is greater than this
abbrev pub at_most : ℕ → Option ℕ → Option ℕ
at_most most None = None
at_most most (Some n) = if nat_le n most then Some n else None

-- the greatest budget
abbrev pub most_budget : ℕ
most_budget = 1000000000

-- the most functions of a script that is made
abbrev pub most_functions : ℕ
most_functions = 8000

-- the budget, where the option has this value or is not given
abbrev pub budget_in : Option Text → Option ℕ
budget_in None = Some 1000000
budget_in (Some text) = at_most most_budget (number_in text)

-- the number of functions, where the option has this value; it has to be given
abbrev pub soak_number : Option Text → Option ℕ
soak_number None = None
soak_number (Some text) = at_most most_functions (number_in text)

-- the rule is one of these
abbrev pub is_among : List ℕ → (rule : ℕ) → Bool
is_among chosen rule = list_any (λ r. r == rule) chosen

-- one rule more, unless there is none, or it is there already
abbrev pub with_rule : List ℕ → Option ℕ → Option (List ℕ)
with_rule chosen None = None
with_rule chosen (Some rule) = if is_among chosen rule then None else Some (chosen ++ rule ∷ [])

-- these rules and those with the names, where each is the name of a rule, and none stands twice
abbrev pub with_names : List ℕ → (names : List Text) → Option (List ℕ)
with_names chosen [] = Some chosen
with_names chosen (name ∷ names) = option_and_then (λ more. with_names more names) (with_rule chosen (rule_with name))

-- the chosen rules, by their names with commas between them (44), or all, where the option is not given
abbrev pub rules_in : Option Text → Option (List ℕ)
rules_in None = Some all_rules
rules_in (Some text) = with_names [] (slice_split (λ byte. byte == 44) text)

abbrev pub lint_with : Option ℕ → Option (List ℕ) → Option Asked
lint_with (Some budget) (Some chosen) = Some (lint budget chosen)
lint_with _ _ = None

abbrev pub soak_with : (number budget : Option ℕ) → Option (List ℕ) → Option Asked
soak_with (Some number) (Some budget) (Some chosen) = Some (soak number budget chosen)
soak_with _ _ _ = None

-- only where the option is not given
abbrev pub unless_given : Option Text → Option Asked → Option Asked
unless_given None a = a
unless_given (Some value) a = None

-- the command with this name that has no options
abbrev pub without_options : (name : Text) → Option Asked
without_options name =
    if bytes_eq name (codes "check") then Some check
    else (if bytes_eq name (codes "print") then Some print
    else (if bytes_eq name (codes "instrument") then Some instrument
    else (if bytes_eq name (codes "map") then Some map_of_ids
    else (if bytes_eq name (codes "srcmap") then Some srcmap
    else (if bytes_eq name (codes "unmap") then Some unmap else None)))))

-- the command with this name that reports by no rules, where its budget is given so
abbrev pub without_rules : (name : Text) → (budget : Option Text) → Option Asked
without_rules name budget =
    if bytes_eq name (codes "run") then option_map (λ most. run most) (budget_in budget)
    else (if bytes_eq name (codes "trace") then option_map (λ most. trace most) (budget_in budget)
    else (if bytes_eq name (codes "exec") then option_map (λ most. exec most) (budget_in budget)
    else (if bytes_eq name (codes "record") then option_map (λ most. record_of_run most) (budget_in budget)
    else (if bytes_eq name (codes "objects") then option_map (λ most. objects most) (budget_in budget)
    else (if bytes_eq name (codes "cover") then option_map (λ most. cover most) (budget_in budget)
    else unless_given budget (without_options name))))))

-- the command that reports of what ran before, where its options are given so; it has no budget
abbrev pub without_budget : (budget rules : Option Text) → Option Asked
without_budget budget rules = unless_given budget (option_map (λ chosen. replay chosen) (rules_in rules))

-- the command with this name that makes no script, where its options are given so
abbrev pub without_number : (name : Text) → (budget rules : Option Text) → Option Asked
without_number name budget rules =
    if bytes_eq name (codes "lint") then lint_with (budget_in budget) (rules_in rules)
    else (if bytes_eq name (codes "replay") then without_budget budget rules
    else unless_given rules (without_rules name budget))

-- the command with this name, where its options are given so
abbrev pub asked_by_name : (name : Text) → (budget rules number : Option Text) → Option Asked
asked_by_name name budget rules number =
    if bytes_eq name (codes "soak") then soak_with (soak_number number) (budget_in budget) (rules_in rules)
    else unless_given number (without_number name budget rules)

-- the command that has these values, by the names of the arguments
abbrev pub asked_with : (value : Text → Option Text) → Option Asked
asked_with value = option_and_then
    (λ name. asked_by_name name (value (codes "budget")) (value (codes "rules")) (value (codes "number")))
    (value (codes "command"))

-- what the words ask for; where it is none, they are bad
unfoldable pub request : (words : List Text) → Option Asked
request words = if is_refused words then None else asked_with (λ id. value_of id words)
