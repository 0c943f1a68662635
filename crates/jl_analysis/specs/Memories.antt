-- What a rule has to remember of the operations so far, where it looks back: pairs of numbers.
use Rattle.std.specs.Prelude.{ℕ, ◌+◌, ◌-◌, ◌^◌, min, Bool, true, false, List, [], ◌∷◌, ◌++◌, ◌==◌, if◌then◌else◌}
use Rattle.std.specs.List.{list_any}
use Rattle.jl_op.specs.declared.callee.Callee.TheVariants as callees
use Rattle.jl_op.specs.declared.op.Op.{Op}
use Rattle.jl_op.specs.declared.op.Op.TheVariants as ops
use Rattle.jl_analysis.specs.TypeRules.{is_typeof, is_odd_type_name}
use Rattle.jl_analysis.specs.UseRules.{enters, leaves}

abbrev pub Memory : Type 0
Memory = List (ℕ × ℕ)

-- one more; the number stands still at the end of its type
abbrev pub one_more : ℕ → ℕ
one_more n = min (n + 1) (2 ^ 64 - 1)

-- typeof-text remembers the last operation but one and the last one: 1 is a `typeof`, 2 a literal text that `typeof`
-- never gives, and 0 is any other or none
abbrev pub typeof_code : Op → ℕ
typeof_code op = if is_typeof op then 1 else (if is_odd_type_name op then 2 else 0)

abbrev pub no_last_two : Memory
no_last_two = (0, 0) ∷ []

abbrev pub last_two : Memory → Op → Memory
last_two [] op = (0, typeof_code op) ∷ []
last_two (x ∷ rest) op = (x.1, typeof_code op) ∷ []

-- mixed-new remembers how each function of the script was called, in the order of their first calls: 1 is without
-- `new`, 2 by `new`, and 3 both
abbrev pub way : (by_new : Bool) → ℕ
way true = 2
way false = 1

abbrev pub both_ways : ℕ → ℕ → ℕ
both_ways a b = if a == b then a else 3

abbrev pub noted_way : Memory → (function way : ℕ) → Memory
noted_way [] function way = (function, way) ∷ []
noted_way (x ∷ rest) function way =
    if function == x.0 then (x.0, both_ways x.1 way) ∷ rest else x ∷ noted_way rest function way

abbrev pub ways_called : Memory → Op → Memory
ways_called memory (ops.InvokePre callee (callees.Script function params mentions) this args by_new) =
    noted_way memory function (way by_new)
ways_called memory _ = memory

-- late-prototype remembers what was called by `new`, in the order of the first such calls
abbrev pub noted_once : Memory → ℕ → Memory
noted_once memory place = if list_any (λ x. place == x.0) memory then memory else memory ++ (place, 0) ∷ []

abbrev pub called_by_new : Memory → Op → Memory
called_by_new memory (ops.InvokePre callee target this args true) = noted_once memory callee.0
called_by_new memory _ = memory

-- global-this remembers how many functions were entered, and how many were left
abbrev pub none_entered : Memory
none_entered = (0, 0) ∷ []

abbrev pub one_more_if : Bool → ℕ → ℕ
one_more_if b n = if b then one_more n else n

abbrev pub entered_and_left : Memory → Op → Memory
entered_and_left [] op = []
entered_and_left (x ∷ rest) op = (one_more_if (enters op) x.0, one_more_if (leaves op) x.1) ∷ []
