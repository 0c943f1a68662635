-- Operators as expressions, and tests (11.3 to 11.12, 12.5).
use Rattle.std.specs.Prelude.{Bool, ℕ}
use Rattle.jl_num.specs.Number.{Number}
use Rattle.jl_ast.specs.declared.ops.BinOp.{BinOp}
use Rattle.jl_value.specs.declared.value.Value.{Value}
use Rattle.jl_conv.specs.Conversions.{truth_of}
use Rattle.jl_heap.specs.Describe.{seen_of}
use Rattle.jl_op.specs.declared.op.Op.TheVariants as op
use Rattle.jl_op.specs.declared.sign.UnKind.{UnKind}
use Rattle.jl_meaning.specs.Conversions.{to_number}
use Rattle.jl_meaning.specs.Noting.{note, note_value, performs, Noting}
use Rattle.jl_meaning.specs.Operators.{binary_result, give_next, unary_result}
use Rattle.jl_meaning.specs.Parts.{give, lift, ◌>>=◌, Answer, Part}

-- an operator between two values
unfoldable pub operate : Noting → (id : ℕ) → BinOp → Value → Value → Part (Answer Value)
operate how id o a b = do
  v ← lift (binary_result o a b)
  _ ← note how id (λ heap. op.Binary o (seen_of heap a) (seen_of heap b) (seen_of heap v))
  give v

-- an operator on one value
unfoldable pub operate_on : Noting → (id : ℕ) → UnKind → Value → Part (Answer Value)
operate_on how id o a = do
  v ← lift (unary_result o a)
  _ ← note how id (λ heap. op.Unary o (seen_of heap a) (seen_of heap v))
  give v

-- `++` or `--` on a value: the number that it was, and the new value (11.3, 11.4.4, 11.4.5)
unfoldable pub update : Noting → (id : ℕ) → UnKind → Value → Part (Answer (Number × Value))
update how id o a = do
  n ← lift (to_number a)
  v ← lift (give_next o n)
  _ ← note how id (λ heap. op.Unary o (seen_of heap a) (seen_of heap v))
  give (n, v)

-- the value that decides in `&&`, `||`, `? :` and in a test (11.11, 11.12, 12.5, 12.6)
unfoldable pub decide : (id : ℕ) → Value → Part (Answer Bool)
decide id v = do
  _ ← note_value performs id op.Conditional v
  give (truth_of v)

-- the same, where e gives the value
abbrev pub decide_by : (id : ℕ) → (e : Part (Answer Value)) → Part (Answer Bool)
decide_by id e = do
  v ← e
  decide id v
