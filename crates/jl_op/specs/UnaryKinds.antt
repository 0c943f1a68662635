-- Which operator with one operand an operation tells of (11.3, 11.4).
use Rattle.std.specs.Prelude.{if◌then◌else◌, Bool}
use Rattle.jl_ast.specs.declared.ops.UnOp.{UnOp}
use Rattle.jl_ast.specs.declared.ops.UnOp.TheVariants as un
use Rattle.jl_op.specs.declared.sign.UnKind.{UnKind}
use Rattle.jl_op.specs.declared.sign.UnKind.TheVariants as unary

-- `++`, or `--`
abbrev pub update_kind : (up : Bool) → UnKind
update_kind up = if up then unary.Up else unary.Down

-- the kind of an operator that is neither `typeof` of a name nor `delete`
abbrev pub unary_kind : UnOp → UnKind
unary_kind un.Minus = unary.Minus
unary_kind un.Plus = unary.Plus
unary_kind un.Not = unary.Not
unary_kind un.Tilde = unary.Tilde
unary_kind un.Typeof = unary.Typeof
unary_kind un.Void = unary.Void
unary_kind un.Delete = unary.Void
