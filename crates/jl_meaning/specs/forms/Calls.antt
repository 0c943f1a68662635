-- Calls and constructions as expressions (11.2.2, 11.2.3).
use Rattle.std.specs.Prelude.{codes, false, if◌then◌else◌, map, true, ◌+◌, Bool, List, ℕ}
use Rattle.jl_ast.specs.Table.{table}
use Rattle.jl_value.specs.declared.object.ObjId.{ObjId}
use Rattle.jl_value.specs.declared.value.Value.{Value}
use Rattle.jl_value.specs.declared.value.Value.TheVariants as value
use Rattle.jl_heap.specs.Describe.{seen_of}
use Rattle.jl_heap.specs.Objects.{object_at, Objects}
use Rattle.jl_heap.specs.declared.inner.Inner.{Inner}
use Rattle.jl_op.specs.declared.op.Op.TheVariants as op
use Rattle.jl_meaning.specs.Errors.{throw_type_error}
use Rattle.jl_meaning.specs.FunctionObjects.{callee_of, has_construct, FunctionTable}
use Rattle.jl_meaning.specs.Getting.{has_call}
use Rattle.jl_meaning.specs.Noting.{note, note_value, performs, Noting}
use Rattle.jl_meaning.specs.Parts.{begin_call, give, lift, look, ◌>>=◌, Algorithm, Answer, CallOf, Part}
use Rattle.jl_meaning.specs.forms.Members.{read_member}

abbrev pub can_be_called : (by_new : Bool) → Inner → Bool
can_be_called true i = has_construct i
can_be_called false i = has_call i

abbrev pub no_function : (by_new : Bool) → List ℕ
no_function true = codes "not a constructor"
no_function false = codes "not a function"

-- the function that a callee is (11.2.2, steps 4 and 5; 11.2.3, steps 4 and 5)
abbrev pub function_of : (by_new : Bool) → Objects → Value → Algorithm ObjId
function_of by_new heap (value.Obj id) =
    if can_be_called by_new (object_at heap id.0).inner then give id else throw_type_error (no_function by_new)
function_of by_new heap v = throw_type_error (no_function by_new)

-- a call, or with `new` a construction, when the arguments have been evaluated
unfoldable pub invoke : FunctionTable → Noting → (id : ℕ) → (callee this : Value) → List Value → (by_new : Bool)
    → Part (Answer Value)
invoke table how id callee this args by_new = do
  store ← look
  f ← lift (function_of by_new store.heap callee)
  _ ← note how id (λ heap. op.InvokePre f (callee_of table (object_at heap f.0).inner) (seen_of heap this)
      (map (seen_of heap) args) by_new)
  v ← begin_call CallOf (record { callee = f; this = this; args = args; by_new = by_new })
  _ ← note_value how (id + 1) (op.InvokePost f) v
  give v

-- f(..), where f is no member: its value is got before the arguments are evaluated
abbrev pub call_value : FunctionTable → (id : ℕ) → (callee : Part (Answer Value)) → (args : Part (Answer (List Value)))
    → Part (Answer Value)
call_value table id callee args = do
  f ← callee
  vs ← args
  invoke table performs id f value.Undefined vs false

-- o[k](..): the value of the member is got before the arguments are evaluated
abbrev pub call_member : FunctionTable → (get id : ℕ) → (base key : Value) → (args : Part (Answer (List Value)))
    → Part (Answer Value)
call_member table get id base key args = do
  f ← read_member get base key
  vs ← args
  invoke table performs id f base vs false
