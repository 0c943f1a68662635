-- The table of rules.
use Rattle.std.specs.Prelude.{ℕ, zero, suc, ◌+◌, ◌≤◌, ◌==◌, ◌&&◌, Bool, false, List, [], ◌∷◌, Option, None, Some}
use Rattle.std.specs.Prelude.{slice_get, codes, fold, map, option_map}
use Rattle.std.specs.List.{list_any, position_from}
use Rattle.std.specs.Str.{bytes_eq}
use Rattle.jl_op.specs.declared.kind.OpKind.{OpKind}
use Rattle.jl_op.specs.declared.kind.OpKind.TheVariants as kinds
use Rattle.jl_op.specs.declared.op.Op.{Op}
use Rattle.jl_op.specs.Kinds.{all_kinds, number_of}
use Rattle.jl_analysis.specs.Memories.{Memory, no_last_two, last_two, ways_called, called_by_new, none_entered}
use Rattle.jl_analysis.specs.Memories.{entered_and_left}
use Rattle.jl_analysis.specs.TypeRules.{nan_made, undefined_joined, object_joined, undefined_key, put_on_primitive}
use Rattle.jl_analysis.specs.TypeRules.{wrapped_condition, loose_equal, odd_compare, typeof_text, bits_of_nothing}
use Rattle.jl_analysis.specs.UseRules.{shadow_write, mixed_new, object_prototype_write, odd_prototype, late_prototype}
use Rattle.jl_analysis.specs.UseRules.{for_in_array, extra_arguments, wrapper_made, no_radix, global_this}

-- A rule: its name; the kinds of operations that it looks at; whether it hits at an operation after others; and what it
-- remembers, at first and after one more.
pub record RuleRow : Type 0 where
  pub name : List ℕ
  pub needs : List OpKind
  pub hits : (before : List Op) → Op → Bool
  pub at_first : Memory
  pub after : Memory → Op → Memory

-- a rule that looks at one operation alone
abbrev pub looks_at_one : (name : List ℕ) → List OpKind → (Op → Bool) → RuleRow
looks_at_one name needs hits =
    record { name = name; needs = needs; hits = λ before. hits; at_first = []; after = λ memory op. memory }

abbrev pub looks_back : (name : List ℕ) → List OpKind → (List Op → Op → Bool) → Memory → (Memory → Op → Memory)
    → RuleRow
looks_back name needs hits at_first after =
    record { name = name; needs = needs; hits = hits; at_first = at_first; after = after }

-- kinds that several rules need
abbrev pub operators : List OpKind
operators = kinds.Binary ∷ kinds.Unary ∷ []

abbrev pub binary : List OpKind
binary = kinds.Binary ∷ []

abbrev pub puts : List OpKind
puts = kinds.PutField ∷ []

abbrev pub calls : List OpKind
calls = kinds.InvokePre ∷ []

-- the rules in the order of their numbers, which count from 1; typeof-text speaks of neighbours among all operations,
-- and so needs every kind
unfoldable pub rules : List RuleRow
rules =
    looks_at_one (codes "nan-made") operators nan_made ∷
    looks_at_one (codes "undefined-joined") binary undefined_joined ∷
    looks_at_one (codes "object-joined") binary object_joined ∷
    looks_at_one (codes "undefined-key") (kinds.GetField ∷ kinds.PutField ∷ kinds.DeleteField ∷ []) undefined_key ∷
    looks_at_one (codes "put-on-primitive") puts put_on_primitive ∷
    looks_at_one (codes "wrapped-condition") (kinds.Conditional ∷ []) wrapped_condition ∷
    looks_at_one (codes "loose-equal") binary loose_equal ∷
    looks_at_one (codes "odd-compare") binary odd_compare ∷
    looks_back (codes "typeof-text") all_kinds typeof_text no_last_two last_two ∷
    looks_at_one (codes "bits-of-nothing") operators bits_of_nothing ∷
    looks_at_one (codes "shadow-write") puts shadow_write ∷
    looks_back (codes "mixed-new") calls mixed_new [] ways_called ∷
    looks_at_one (codes "object-prototype-write") puts object_prototype_write ∷
    looks_at_one (codes "odd-prototype") puts odd_prototype ∷
    looks_back (codes "late-prototype") (kinds.PutField ∷ kinds.InvokePre ∷ []) late_prototype [] called_by_new ∷
    looks_at_one (codes "for-in-array") (kinds.ForIn ∷ []) for_in_array ∷
    looks_at_one (codes "extra-arguments") calls extra_arguments ∷
    looks_at_one (codes "wrapper-made") calls wrapper_made ∷
    looks_at_one (codes "no-radix") calls no_radix ∷
    looks_back (codes "global-this") (kinds.PutField ∷ kinds.FunctionEnter ∷ kinds.FunctionExit ∷ []) global_this
    none_entered entered_and_left ∷ []

-- how many rules there are
abbrev pub rule_count : ℕ
rule_count = 20

-- it is the number of a rule
abbrev pub IsRule : ℕ → Type 0
IsRule rule = (1 ≤ rule) × (rule ≤ rule_count)

-- so many numbers in a row, of which this is the first
abbrev pub numbers : (first count : ℕ) → List ℕ
numbers first zero = []
numbers first (suc count) = first ∷ numbers (first + 1) count

-- the numbers of all rules
abbrev pub all_rules : List ℕ
all_rules = numbers 1 rule_count

-- the rule with this number, where there is one
abbrev pub rule_at : ℕ → Option RuleRow
rule_at zero = None
rule_at (suc n) = slice_get rules n

-- its name
abbrev pub name_at : ℕ → Option (List ℕ)
name_at rule = option_map (λ row. row.name) (rule_at rule)

-- the number of the rule with this name, if there is one; numbers count from 1
abbrev pub rule_with : (name : List ℕ) → Option ℕ
rule_with name = position_from (bytes_eq name) 1 (map (λ row. row.name) rules)

abbrev pub hits_by : Option RuleRow → List Op → Op → Bool
hits_by None before op = false
hits_by (Some row) before op = row.hits before op

-- the rule with this number hits at the operation, after these
unfoldable pub hit : (rule : ℕ) → (before : List Op) → Op → Bool
hit rule before op = hits_by (rule_at rule) before op

abbrev pub remembered_by : Option RuleRow → List Op → Memory
remembered_by None ops = []
remembered_by (Some row) ops = fold row.after row.at_first ops

-- what the rule with this number remembers of the operations
unfoldable pub memory_of : (rule : ℕ) → List Op → Memory
memory_of rule ops = remembered_by (rule_at rule) ops

-- the kind is one of these
abbrev pub is_one_of : List OpKind → OpKind → Bool
is_one_of listed kind = list_any (λ k. number_of k == number_of kind) listed

abbrev pub needed_by : Option RuleRow → List OpKind
needed_by None = []
needed_by (Some row) = row.needs

-- the rule with this number looks at operations of this kind
unfoldable pub looks_at : (rule : ℕ) → OpKind → Bool
looks_at rule kind = is_one_of (needed_by (rule_at rule)) kind

-- a chosen rule looks at operations of this kind
abbrev pub is_needed : (chosen : ℕ → Bool) → OpKind → Bool
is_needed chosen kind = list_any (λ rule. chosen rule && looks_at rule kind) all_rules
