-- Where rules hit, by what they remember.
use Rattle.std.specs.Prelude.{ℕ, Bool, false, not, [], ◌∷◌, Option, None, Some, if◌then◌else◌, ◌&&◌, ◌||◌, ◌==◌, nat_lt}
use Rattle.std.specs.List.{list_any}
use Rattle.jl_op.specs.declared.callee.Callee.TheVariants as callees
use Rattle.jl_op.specs.declared.op.Op.{Op}
use Rattle.jl_op.specs.declared.op.Op.TheVariants as ops
use Rattle.jl_value.specs.declared.value.Value.{Value}
use Rattle.jl_value.specs.declared.value.Value.TheVariants as values
use Rattle.jl_analysis.specs.Memories.{Memory, way}
use Rattle.jl_analysis.specs.UseRules.{is_prototype_of_function}
use Rattle.jl_analysis.specs.Values.{is_object_at, global_object}

-- what mixed-new remembers of a function, if it was called
abbrev pub ways_of : Memory → (function : ℕ) → Option ℕ
ways_of [] function = None
ways_of (x ∷ rest) function = if function == x.0 then Some x.1 else ways_of rest function

-- it was called in this way, or both ways
abbrev pub tells_way : Option ℕ → (by_new : Bool) → Bool
tells_way None by_new = false
tells_way (Some ways) by_new = ways == way by_new || ways == 3

-- mixed-new
abbrev pub mixes : Memory → Op → Bool
mixes memory (ops.InvokePre callee (callees.Script function params mentions) this args by_new) =
    tells_way (ways_of memory function) (not by_new)
mixes memory _ = false

-- late-prototype remembers that the value was called by `new`
abbrev pub was_called : Memory → Value → Bool
was_called memory (values.Obj id) = list_any (λ x. id.0 == x.0) memory
was_called memory _ = false

-- late-prototype
abbrev pub sets_late : Memory → Op → Bool
sets_late memory (ops.PutField base name value found) =
    is_prototype_of_function base name && was_called memory base.value
sets_late memory _ = false

-- global-this remembers that a function was entered that was not left
abbrev pub is_inside : Memory → Bool
is_inside [] = false
is_inside (x ∷ rest) = nat_lt x.1 x.0

-- global-this
abbrev pub writes_global : Memory → Op → Bool
writes_global memory (ops.PutField base name value found) =
    is_object_at base.value global_object && is_inside memory
writes_global memory _ = false
