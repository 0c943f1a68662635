-- What the checker of typeof-text sees in an operation.
use Rattle.std.specs.Prelude.{ℕ, Bool, false, ◌&&◌, ◌==◌}
use Rattle.jl_op.specs.declared.op.Op.{Op}
use Rattle.jl_op.specs.declared.op.Op.TheVariants as ops
use Rattle.jl_analysis.specs.TypeRules.{is_equality}
use Rattle.jl_rules_type.specs.declared.typeof_text.Side.{Side}
use Rattle.jl_rules_type.specs.declared.typeof_text.Side.TheVariants as sides

-- the number by which the rule remembers it
abbrev pub code_of : Side → ℕ
code_of sides.Neither = 0
code_of sides.Typeof = 1
code_of sides.OddName = 2

-- the operation compares, after operations that are remembered as these
abbrev pub compares : Op → (earlier last : ℕ) → Bool
compares (ops.Binary op left right given) earlier last = is_equality op && (earlier == 1 && last == 2)
compares _ earlier last = false
