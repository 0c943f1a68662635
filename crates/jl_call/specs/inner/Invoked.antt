-- Calls by the function that a callee is.
use Rattle.std.specs.Prelude.{if◌then◌else◌, map, ◌+◌, Bool, None, Option, Some, ℕ}
use Rattle.jl_value.specs.declared.object.ObjId.{ObjId}
use Rattle.jl_value.specs.declared.value.Value.{Value}
use Rattle.jl_value.specs.declared.value.Value.TheVariants as value
use Rattle.jl_heap.specs.Describe.{seen_of}
use Rattle.jl_heap.specs.Objects.{object_at, Objects}
use Rattle.jl_op.specs.declared.op.Op.TheVariants as op
use Rattle.jl_meaning.specs.FunctionObjects.{callee_of, FunctionTable}
use Rattle.jl_meaning.specs.Noting.{note, note_value, Noting}
use Rattle.jl_meaning.specs.Parts.{begin_call, give, ◌>>=◌, Answer, Call, CallOf, Part}
use Rattle.jl_meaning.specs.forms.Calls.{can_be_called}

-- the function that a callee is, if it is one (11.2.2, steps 4 and 5; 11.2.3, steps 4 and 5)
abbrev pub function_found : (by_new : Bool) → Objects → Value → Option ObjId
function_found by_new heap (value.Obj id) =
    if can_be_called by_new (object_at heap id.0).inner then Some id else None
function_found by_new heap v = None

-- a call of a function, or with `new` a construction by it, and how it is noted
abbrev pub invoke_function : FunctionTable → Noting → (id : ℕ) → Call → Part (Answer Value)
invoke_function table how id c = do
  _ ← note how id (λ heap. op.InvokePre c.callee (callee_of table (object_at heap c.callee.0).inner)
      (seen_of heap c.this) (map (seen_of heap) c.args) c.by_new)
  v ← begin_call CallOf c
  _ ← note_value how (id + 1) (op.InvokePost c.callee) v
  give v
