-- The kinds of operations.
use Rattle.std.specs.Prelude.{ℕ, List, [], ◌∷◌, codes}
use Rattle.jl_op.specs.declared.kind.OpKind.{OpKind}
use Rattle.jl_op.specs.declared.kind.OpKind.TheVariants as kinds
use Rattle.jl_op.specs.declared.op.Op.{Op}
use Rattle.jl_op.specs.declared.op.Op.TheVariants as ops

abbrev pub kind_of : Op → OpKind
kind_of ops.ScriptEnter = kinds.ScriptEnter
kind_of ops.ScriptExit = kinds.ScriptExit
kind_of (ops.FunctionEnter function this args by_new) = kinds.FunctionEnter
kind_of (ops.FunctionExit function) = kinds.FunctionExit
kind_of (ops.Literal value) = kinds.Literal
kind_of (ops.ArrayLiteral obj) = kinds.ArrayLiteral
kind_of (ops.ObjectLiteral obj) = kinds.ObjectLiteral
kind_of (ops.FunctionLiteral obj function) = kinds.FunctionLiteral
kind_of (ops.Read name value) = kinds.Read
kind_of (ops.Write name value) = kinds.Write
kind_of (ops.TypeofName name given) = kinds.TypeofName
kind_of (ops.GetField base name value found) = kinds.GetField
kind_of (ops.PutField base name value found) = kinds.PutField
kind_of (ops.DeleteField base name deleted) = kinds.DeleteField
kind_of (ops.InvokePre callee target this args by_new) = kinds.InvokePre
kind_of (ops.InvokePost callee given) = kinds.InvokePost
kind_of (ops.Binary op left right given) = kinds.Binary
kind_of (ops.Unary op operand given) = kinds.Unary
kind_of (ops.Conditional value) = kinds.Conditional
kind_of (ops.ForIn object) = kinds.ForIn
kind_of (ops.Return value) = kinds.Return
kind_of (ops.Throw value) = kinds.Throw
kind_of (ops.Catch name value) = kinds.Catch

-- how a kind is written
abbrev pub kind_name : OpKind → List ℕ
kind_name kinds.ScriptEnter = codes "ScriptEnter"
kind_name kinds.ScriptExit = codes "ScriptExit"
kind_name kinds.FunctionEnter = codes "FunctionEnter"
kind_name kinds.FunctionExit = codes "FunctionExit"
kind_name kinds.Literal = codes "Literal"
kind_name kinds.ArrayLiteral = codes "ArrayLiteral"
kind_name kinds.ObjectLiteral = codes "ObjectLiteral"
kind_name kinds.FunctionLiteral = codes "FunctionLiteral"
kind_name kinds.Read = codes "Read"
kind_name kinds.Write = codes "Write"
kind_name kinds.TypeofName = codes "TypeofName"
kind_name kinds.GetField = codes "GetField"
kind_name kinds.PutField = codes "PutField"
kind_name kinds.DeleteField = codes "DeleteField"
kind_name kinds.InvokePre = codes "InvokePre"
kind_name kinds.InvokePost = codes "InvokePost"
kind_name kinds.Binary = codes "Binary"
kind_name kinds.Unary = codes "Unary"
kind_name kinds.Conditional = codes "Conditional"
kind_name kinds.ForIn = codes "ForIn"
kind_name kinds.Return = codes "Return"
kind_name kinds.Throw = codes "Throw"
kind_name kinds.Catch = codes "Catch"

-- all kinds, each once
abbrev pub all_kinds : List OpKind
all_kinds =
    kinds.ScriptEnter ∷ kinds.ScriptExit ∷ kinds.FunctionEnter ∷ kinds.FunctionExit ∷ kinds.Literal ∷
    kinds.ArrayLiteral ∷ kinds.ObjectLiteral ∷ kinds.FunctionLiteral ∷ kinds.Read ∷ kinds.Write ∷
    kinds.TypeofName ∷ kinds.GetField ∷ kinds.PutField ∷ kinds.DeleteField ∷ kinds.InvokePre ∷
    kinds.InvokePost ∷ kinds.Binary ∷ kinds.Unary ∷ kinds.Conditional ∷ kinds.ForIn ∷ kinds.Return ∷
    kinds.Throw ∷ kinds.Catch ∷ []

-- the index of a kind in the list of all kinds
abbrev pub number_of : OpKind → ℕ
number_of kinds.ScriptEnter = 0
number_of kinds.ScriptExit = 1
number_of kinds.FunctionEnter = 2
number_of kinds.FunctionExit = 3
number_of kinds.Literal = 4
number_of kinds.ArrayLiteral = 5
number_of kinds.ObjectLiteral = 6
number_of kinds.FunctionLiteral = 7
number_of kinds.Read = 8
number_of kinds.Write = 9
number_of kinds.TypeofName = 10
number_of kinds.GetField = 11
number_of kinds.PutField = 12
number_of kinds.DeleteField = 13
number_of kinds.InvokePre = 14
number_of kinds.InvokePost = 15
number_of kinds.Binary = 16
number_of kinds.Unary = 17
number_of kinds.Conditional = 18
number_of kinds.ForIn = 19
number_of kinds.Return = 20
number_of kinds.Throw = 21
number_of kinds.Catch = 22
