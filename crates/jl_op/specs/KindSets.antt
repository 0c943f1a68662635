-- Sets of kinds of operations, and the operations whose kind is in one.
use Rattle.std.specs.Prelude.{Bool, false, List, filter, slice_index_or}
use Rattle.jl_op.specs.declared.kind.OpKind.{OpKind}
use Rattle.jl_op.specs.declared.kind_set.KindSet.{KindSet}
use Rattle.jl_op.specs.Kinds.{kind_of, number_of}
use Rattle.jl_op.specs.Operations.{Operation}

-- the kind is in the set
abbrev pub is_member : KindSet → OpKind → Bool
is_member set kind = slice_index_or set.members (number_of kind) false

-- the operations whose kind passes the test, in their order
abbrev pub of_kinds : (OpKind → Bool) → List Operation → List Operation
of_kinds passes operations = filter (λ x. passes (kind_of x.1)) operations
