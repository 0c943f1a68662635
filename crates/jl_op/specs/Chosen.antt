-- Sets of kinds of operations: those that are chosen to be seen.
use Rattle.std.specs.Prelude.{true, Bool}
use Rattle.jl_op.specs.Kinds.{kind_of}
use Rattle.jl_op.specs.Operations.{Operation}
use Rattle.jl_op.specs.declared.kind.OpKind.{OpKind}

abbrev pub Kinds : Type 0
Kinds = OpKind → Bool

abbrev pub every_kind : Kinds
every_kind k = true

-- the operation is of a chosen kind
unfoldable pub is_kept : Kinds → Operation → Bool
is_kept chosen o = chosen (kind_of o.1)
