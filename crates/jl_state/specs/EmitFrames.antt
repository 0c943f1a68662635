-- What follows when the observer has been told of an operation that a hook has emitted.
use Rattle.std.specs.Prelude.{◌+◌}
use Rattle.jl_value.specs.declared.value.Value.{Value}
use Rattle.jl_op.specs.declared.op.Op.TheVariants as op
use Rattle.jl_meaning.specs.Noting.{emits, note_value}
use Rattle.jl_meaning.specs.Parts.{begin_call, give, lift}
use Rattle.jl_meaning.specs.Parts.{◌>>=◌, Answer, CallOf, Part}
use Rattle.jl_meaning.specs.Putting.{put}
use Rattle.jl_meaning.specs.forms.Members.{put_member}
use Rattle.jl_state.specs.Words.{call_of}
use Rattle.jl_state.specs.declared.frame.EmitFrame.{EmitFrame}
use Rattle.jl_state.specs.declared.frame.EmitFrame.TheVariants as told

abbrev pub emit_after : EmitFrame → Part (Answer Value)
emit_after (told.Put base x v strict given) = do
  _ ← lift (put strict base x v)
  give given
emit_after (told.PutMember id base x v strict given) = do
  _ ← put_member emits id.0 strict base x v
  give given
emit_after (told.Invoke id call) = do
  v ← begin_call CallOf (call_of call)
  _ ← note_value emits (id.pre + 1) (op.InvokePost call.callee) v
  give v
