-- How an operation is told of in a line: its id, its kind, and then what it saw.
use Rattle.std.specs.Prelude.{ℕ, Bool, true, false, List, [], ◌∷◌, ◌++◌, codes, map}
use Rattle.std.specs.Fmt.{decimal}
use Rattle.jl_ast.specs.declared.ops.BinOp.{BinOp}
use Rattle.jl_ast.specs.declared.ops.BinOp.TheVariants as binary
use Rattle.jl_op.specs.declared.callee.Callee.{Callee}
use Rattle.jl_op.specs.declared.callee.Callee.TheVariants as callees
use Rattle.jl_op.specs.declared.op.Op.{Op}
use Rattle.jl_op.specs.declared.op.Op.TheVariants as ops
use Rattle.jl_op.specs.declared.op.OpId.{OpId}
use Rattle.jl_op.specs.declared.sign.UnKind.{UnKind}
use Rattle.jl_op.specs.declared.sign.UnKind.TheVariants as unary
use Rattle.jl_op.specs.Kinds.{kind_of, kind_name}
use Rattle.jl_text.specs.Quoted.{quote}
use Rattle.jl_value.specs.declared.value.Seen.{Seen}
use Rattle.jl_value.specs.Builtins.{name_of}
use Rattle.jl_value.specs.Texts.{value_text}

-- an operator between two operands (11.5 to 11.10)
abbrev pub binary_sign : BinOp → List ℕ
binary_sign binary.Mul = codes "*"
binary_sign binary.Div = codes "/"
binary_sign binary.Rem = codes "%"
binary_sign binary.Add = codes "+"
binary_sign binary.Sub = codes "-"
binary_sign binary.Shl = codes "<<"
binary_sign binary.Sar = codes ">>"
binary_sign binary.Shr = codes ">>>"
binary_sign binary.Less = codes "<"
binary_sign binary.Greater = codes ">"
binary_sign binary.LessEq = codes "<="
binary_sign binary.GreaterEq = codes ">="
binary_sign binary.InstanceOf = codes "instanceof"
binary_sign binary.In = codes "in"
binary_sign binary.Equal = codes "=="
binary_sign binary.NotEqual = codes "!="
binary_sign binary.StrictEqual = codes "==="
binary_sign binary.StrictNotEqual = codes "!=="
binary_sign binary.BitAnd = codes "&"
binary_sign binary.BitXor = codes "^"
binary_sign binary.BitOr = codes "|"

-- an operator with one operand (11.3, 11.4)
abbrev pub unary_sign : UnKind → List ℕ
unary_sign unary.Minus = codes "-"
unary_sign unary.Plus = codes "+"
unary_sign unary.Not = codes "!"
unary_sign unary.Tilde = codes "~"
unary_sign unary.Typeof = codes "typeof"
unary_sign unary.Void = codes "void"
unary_sign unary.Up = codes "++"
unary_sign unary.Down = codes "--"

abbrev pub seen_text : Seen → List ℕ
seen_text seen = value_text seen.value seen.class

-- a function of the script, by its number
abbrev pub function_text : ℕ → List ℕ
function_text number = codes "f" ++ decimal number

-- a builtin is told of by its path
abbrev pub callee_text : Callee → List ℕ
callee_text (callees.Script function params mentions) = function_text function
callee_text (callees.Native builtin) = name_of builtin

abbrev pub way_text : (by_new : Bool) → List ℕ
way_text true = codes "new"
way_text false = codes "call"

abbrev pub truth_text : Bool → List ℕ
truth_text true = codes "true"
truth_text false = codes "false"

-- what follows the kind
abbrev pub parts_of : Op → List (List ℕ)
parts_of (ops.FunctionEnter function this args by_new) =
    function_text function ∷ seen_text this ∷ decimal args ∷ way_text by_new ∷ []
parts_of (ops.FunctionExit function) = function_text function ∷ []
parts_of (ops.Literal value) = seen_text value ∷ []
parts_of (ops.FunctionLiteral obj function) = function_text function ∷ []
parts_of (ops.Read name value) = quote name ∷ seen_text value ∷ []
parts_of (ops.Write name value) = quote name ∷ seen_text value ∷ []
parts_of (ops.TypeofName name given) = quote name ∷ quote given ∷ []
parts_of (ops.GetField base name value found) = seen_text base ∷ quote name ∷ seen_text value ∷ []
parts_of (ops.PutField base name value found) = seen_text base ∷ quote name ∷ seen_text value ∷ []
parts_of (ops.DeleteField base name deleted) = seen_text base ∷ quote name ∷ truth_text deleted ∷ []
parts_of (ops.InvokePre callee target this args by_new) =
    callee_text target ∷ seen_text this ∷ way_text by_new ∷ map seen_text args
parts_of (ops.InvokePost callee given) = seen_text given ∷ []
parts_of (ops.Binary op left right given) =
    quote (binary_sign op) ∷ seen_text left ∷ seen_text right ∷ seen_text given ∷ []
parts_of (ops.Unary op operand given) = quote (unary_sign op) ∷ seen_text operand ∷ seen_text given ∷ []
parts_of (ops.Conditional value) = seen_text value ∷ []
parts_of (ops.ForIn object) = seen_text object ∷ []
parts_of (ops.Return value) = seen_text value ∷ []
parts_of (ops.Throw value) = seen_text value ∷ []
parts_of (ops.Catch name value) = quote name ∷ seen_text value ∷ []
parts_of _ = []

-- each part after a space
abbrev pub with_spaces : List (List ℕ) → List ℕ
with_spaces [] = []
with_spaces (part ∷ parts) = 32 ∷ (part ++ with_spaces parts)

abbrev pub op_line : OpId → Op → List ℕ
op_line id op = decimal id.0 ++ with_spaces (kind_name (kind_of op) ∷ parts_of op)
