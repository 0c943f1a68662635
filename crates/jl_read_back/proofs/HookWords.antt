-- The names of the hooks are names, the object that has them has an identifier, and what they are told is short.
use Rattle.std.proofs.Common.{codes, ℕ, ◌≤◌, Bool, true, false, Some, pos, refl, arith}
use Rattle.jl_ast.specs.declared.ops.BinOp.{BinOp}
use Rattle.jl_ast.specs.declared.ops.BinOp.TheVariants as binary
use Rattle.jl_op.specs.Trace.{binary_sign, unary_sign}
use Rattle.jl_print.specs.WellFormed.{IsIdentifier, IsLiteral, IsName, IsShort}
use Rattle.jl_scope.specs.Names.{hooks_name}
use Rattle.jl_op.specs.UnaryKinds.{update_kind}
use Rattle.jl_token.proofs.Units.{units}

pub hooks : IsIdentifier hooks_name
unfolding units hooks_name
hooks = record { name = record { letters = refl; short = omega arith }; free = refl }

pub name_T : IsName (codes "T")
unfolding units
name_T = record { letters = refl; short = omega arith }

pub name_R : IsName (codes "R")
unfolding units
name_R = record { letters = refl; short = omega arith }

pub name_W : IsName (codes "W")
unfolding units
name_W = record { letters = refl; short = omega arith }

pub name_U : IsName (codes "U")
unfolding units
name_U = record { letters = refl; short = omega arith }

pub name_Y : IsName (codes "Y")
unfolding units
name_Y = record { letters = refl; short = omega arith }

pub name_B : IsName (codes "B")
unfolding units
name_B = record { letters = refl; short = omega arith }

pub name_G : IsName (codes "G")
unfolding units
name_G = record { letters = refl; short = omega arith }

pub name_M : IsName (codes "M")
unfolding units
name_M = record { letters = refl; short = omega arith }

pub name_F : IsName (codes "F")
unfolding units
name_F = record { letters = refl; short = omega arith }

pub name_N : IsName (codes "N")
unfolding units
name_N = record { letters = refl; short = omega arith }

pub name_C : IsName (codes "C")
unfolding units
name_C = record { letters = refl; short = omega arith }

pub name_V : IsName (codes "V")
unfolding units
name_V = record { letters = refl; short = omega arith }

pub name_K : IsName (codes "K")
unfolding units
name_K = record { letters = refl; short = omega arith }

pub name_O : IsName (codes "O")
unfolding units
name_O = record { letters = refl; short = omega arith }

pub name_Z : IsName (codes "Z")
unfolding units
name_Z = record { letters = refl; short = omega arith }

pub name_I : IsName (codes "I")
unfolding units
name_I = record { letters = refl; short = omega arith }

pub name_P : IsName (codes "P")
unfolding units
name_P = record { letters = refl; short = omega arith }

pub name_A : IsName (codes "A")
unfolding units
name_A = record { letters = refl; short = omega arith }

pub name_E : IsName (codes "E")
unfolding units
name_E = record { letters = refl; short = omega arith }

pub name_L : IsName (codes "L")
unfolding units
name_L = record { letters = refl; short = omega arith }

pub name_S : IsName (codes "S")
unfolding units
name_S = record { letters = refl; short = omega arith }

pub name_X : IsName (codes "X")
unfolding units
name_X = record { letters = refl; short = omega arith }

pub name_H : IsName (codes "H")
unfolding units
name_H = record { letters = refl; short = omega arith }

-- an id is a number that can be written
pub literal : (id : ℕ) → id ≤ 9007199254740991 → IsLiteral (Some (pos id))
literal id small = record { value = id; is = refl; inside = small }

pub binary_short : (o : BinOp) → IsShort (binary_sign o)
binary_short binary.Mul = omega arith
binary_short binary.Div = omega arith
binary_short binary.Rem = omega arith
binary_short binary.Add = omega arith
binary_short binary.Sub = omega arith
binary_short binary.Shl = omega arith
binary_short binary.Sar = omega arith
binary_short binary.Shr = omega arith
binary_short binary.Less = omega arith
binary_short binary.Greater = omega arith
binary_short binary.LessEq = omega arith
binary_short binary.GreaterEq = omega arith
binary_short binary.InstanceOf = omega arith
binary_short binary.In = omega arith
binary_short binary.Equal = omega arith
binary_short binary.NotEqual = omega arith
binary_short binary.StrictEqual = omega arith
binary_short binary.StrictNotEqual = omega arith
binary_short binary.BitAnd = omega arith
binary_short binary.BitXor = omega arith
binary_short binary.BitOr = omega arith

pub update_short : (up : Bool) → IsShort (unary_sign (update_kind up))
update_short true = omega arith
update_short false = omega arith
