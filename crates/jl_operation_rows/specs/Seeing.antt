-- How an operation sees its values: each with the class that it has then.
use Rattle.std.specs.Prelude.{◌≡◌, List, [], ◌∷◌}
use Rattle.std.specs.List.{AllByRecursion}
use Rattle.jl_heap.specs.Describe.{seen_of}
use Rattle.jl_heap.specs.Objects.{Objects}
use Rattle.jl_op.specs.Operations.{Operation}
use Rattle.jl_op.specs.declared.op.Op.{Op}
use Rattle.jl_op.specs.declared.op.Op.TheVariants as ops
use Rattle.jl_value.specs.declared.value.Seen.{Seen}

-- the values that it sees
abbrev pub values_of : Op → List Seen
values_of (ops.FunctionEnter function this args by_new) = this ∷ []
values_of (ops.Literal value) = value ∷ []
values_of (ops.Read name value) = value ∷ []
values_of (ops.Write name value) = value ∷ []
values_of (ops.GetField base name value found) = base ∷ value ∷ []
values_of (ops.PutField base name value found) = base ∷ value ∷ []
values_of (ops.DeleteField base name deleted) = base ∷ []
values_of (ops.InvokePre callee target this args by_new) = this ∷ args
values_of (ops.InvokePost callee given) = given ∷ []
values_of (ops.Binary op left right given) = left ∷ right ∷ given ∷ []
values_of (ops.Unary op operand given) = operand ∷ given ∷ []
values_of (ops.Conditional value) = value ∷ []
values_of (ops.ForIn object) = object ∷ []
values_of (ops.Return value) = value ∷ []
values_of (ops.Throw value) = value ∷ []
values_of (ops.Catch name value) = value ∷ []
values_of _ = []

-- it has the class that its value has among some objects
abbrev pub IsSeen : Seen → Type 0
IsSeen seen = (heap : Objects) × (seen ≡ seen_of heap seen.value)

-- so have all that it sees
abbrev pub SeesValues : Operation → Type 0
SeesValues o = AllByRecursion IsSeen (values_of o.1)
