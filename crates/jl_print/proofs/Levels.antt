-- The levels of the operators between two operands.
use Rattle.std.proofs.Common.{◌≤◌, arith}
use Rattle.jl_ast.specs.declared.ops.BinOp.{BinOp}
use Rattle.jl_ast.specs.declared.ops.BinOp.TheVariants as ops
use Rattle.jl_grammar.specs.Operators.{level}

pub at_most_eight : (op : BinOp) → level op ≤ 8
at_most_eight ops.Mul = omega arith
at_most_eight ops.Div = omega arith
at_most_eight ops.Rem = omega arith
at_most_eight ops.Add = omega arith
at_most_eight ops.Sub = omega arith
at_most_eight ops.Shl = omega arith
at_most_eight ops.Sar = omega arith
at_most_eight ops.Shr = omega arith
at_most_eight ops.Less = omega arith
at_most_eight ops.Greater = omega arith
at_most_eight ops.LessEq = omega arith
at_most_eight ops.GreaterEq = omega arith
at_most_eight ops.InstanceOf = omega arith
at_most_eight ops.In = omega arith
at_most_eight ops.Equal = omega arith
at_most_eight ops.NotEqual = omega arith
at_most_eight ops.StrictEqual = omega arith
at_most_eight ops.StrictNotEqual = omega arith
at_most_eight ops.BitAnd = omega arith
at_most_eight ops.BitXor = omega arith
at_most_eight ops.BitOr = omega arith
