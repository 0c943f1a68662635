-- What hooks do: each does what its form does, and emits the operation that the form performs.
use Rattle.std.specs.Prelude.{[], false, if◌then◌else◌, option_map, true, ◌+◌, ◌∷◌, List, None, Option, Some, ℕ}
use Rattle.jl_ast.specs.Table.{table}
use Rattle.jl_ast.specs.declared.ops.BinOp.{BinOp}
use Rattle.jl_value.specs.declared.ending.Fault.TheVariants.{Misuse}
use Rattle.jl_value.specs.declared.value.Seen.{Seen}
use Rattle.jl_value.specs.declared.value.Value.{Value}
use Rattle.jl_value.specs.declared.value.Value.TheVariants as value
use Rattle.jl_heap.specs.Describe.{seen_of}
use Rattle.jl_heap.specs.Objects.{Name, Objects}
use Rattle.jl_op.specs.declared.op.Op.{Op}
use Rattle.jl_op.specs.declared.op.Op.TheVariants as op
use Rattle.jl_op.specs.declared.sign.UnKind.{UnKind}
use Rattle.jl_op.specs.declared.sign.UnKind.TheVariants as unary
use Rattle.jl_effects.specs.Effects.{Fail, Step}
use Rattle.jl_meaning.specs.FunctionObjects.{FunctionTable}
use Rattle.jl_meaning.specs.Noting.{emits, note_or_misuse, note_value}
use Rattle.jl_meaning.specs.Parts.{give, lift, look, ◌>>=◌, Answer, Context, Exprs, Part, Running}
use Rattle.jl_meaning.specs.forms.Calls.{invoke}
use Rattle.jl_meaning.specs.forms.HookCalls.{binary_of, catches, deletes, enters_function, enters_script}
use Rattle.jl_meaning.specs.forms.HookCalls.{exits_function, exits_script, gets, hook, hook_call, makes, no_hook}
use Rattle.jl_meaning.specs.forms.HookCalls.{opener, opens_assign, opens_call, opens_method, opens_new, opens_put}
use Rattle.jl_meaning.specs.forms.HookCalls.{reads, returns, takes_arguments, tests, throws_value, types, unary_of}
use Rattle.jl_meaning.specs.forms.HookCalls.{updates, visits, writes, CalleeForm, Hook, HookCall, Opener, Shape}
use Rattle.jl_meaning.specs.forms.Literals.{literal}
use Rattle.jl_meaning.specs.forms.Members.{delete_member, get_member, member_name, put_member, update_member}
use Rattle.jl_meaning.specs.forms.Operators.{operate, operate_on, update}

-- the values that a hook gets, of which there are as many as it looks at
abbrev pub first_of : List Value → Value
first_of [] = value.Undefined
first_of (v ∷ vs) = v

abbrev pub second_of : List Value → Value
second_of [] = value.Undefined
second_of (v ∷ vs) = first_of vs

-- the type of a name is emitted as a string
abbrev pub type_op : Name → Value → Option Op
type_op x (value.Text units) = Some (op.TypeofName x units)
type_op x v = None

-- the operation of the call that is running
abbrev pub entered_op : Objects → Running → Op
entered_op heap r = op.FunctionEnter r.function (seen_of heap r.this) r.args r.by_new

-- an operation on a value is emitted, and the value is given
abbrev pub emit_of : (id : ℕ) → (Seen → Op) → Value → Part (Answer Value)
emit_of id f v = do
  _ ← note_value emits id f v
  give v

-- `++` and `--` are updates, of which the new value is given
abbrev pub hooked_update : (id : ℕ) → UnKind → Value → Part (Answer Value)
hooked_update id o v = do
  r ← update emits id o v
  give r.1

abbrev pub hooked_unary : (id : ℕ) → UnKind → Value → Part (Answer Value)
hooked_unary id unary.Up v = hooked_update id unary.Up v
hooked_unary id unary.Down v = hooked_update id unary.Down v
hooked_unary id o v = operate_on emits id o v

-- what a hook does and gives when it is entered with these values
unfoldable pub enter_hook : Context → (id : ℕ) → Hook → List Value → Part (Answer Value)
enter_hook c id enters_script vs = note_or_misuse emits id value.Undefined (Some op.ScriptEnter)
enter_hook c id exits_script vs = note_or_misuse emits id value.Undefined (Some op.ScriptExit)
enter_hook c id enters_function vs = do
  store ← look
  note_or_misuse emits id value.Undefined (option_map (entered_op store.heap) c.call)
enter_hook c id exits_function vs =
    note_or_misuse emits id value.Undefined (option_map (λ (r : Running). op.FunctionExit r.function) c.call)
enter_hook c id makes vs = literal emits id (first_of vs)
enter_hook c id (reads x) vs = emit_of id (op.Read x) (first_of vs)
enter_hook c id (writes x) vs = emit_of id (op.Write x) (first_of vs)
enter_hook c id (types x) vs = note_or_misuse emits id (first_of vs) (type_op x (first_of vs))
enter_hook c id (catches x) vs = emit_of id (op.Catch x) (first_of vs)
enter_hook c id tests vs = emit_of id op.Conditional (first_of vs)
enter_hook c id visits vs = emit_of id op.ForIn (first_of vs)
enter_hook c id returns vs = emit_of id op.Return (first_of vs)
enter_hook c id throws_value vs = emit_of id op.Throw (first_of vs)
enter_hook c id (binary_of o) vs = operate emits id o (first_of vs) (second_of vs)
enter_hook c id (unary_of o) vs = hooked_unary id o (first_of vs)
enter_hook c id gets vs = do
  x ← lift (member_name (first_of vs) (second_of vs))
  get_member emits id (first_of vs) x
enter_hook c id deletes vs = delete_member emits id c.strict (first_of vs) (second_of vs)
enter_hook c id (updates o) vs = do
  r ← update_member emits id c.strict o (first_of vs) (second_of vs)
  give r.1

-- what the first call of a pair has prepared
pub data Pending : Type 0 where
  pending_put : (id : ℕ) → (base : Value) → Name → Pending
  pending_assign : (id : ℕ) → BinOp → (base : Value) → Name → (held : Value) → Pending
  pending_call : (pre : ℕ) → (callee this : Value) → Pending
  pending_new : (pre : ℕ) → (callee : Value) → Pending

-- what it does when it is entered with these values
unfoldable pub enter_opener : (id : ℕ) → Opener → List Value → Part (Answer Pending)
enter_opener id opens_put vs = do
  x ← lift (member_name (first_of vs) (second_of vs))
  give (pending_put id (first_of vs) x)
enter_opener id (opens_assign o) vs = do
  x ← lift (member_name (first_of vs) (second_of vs))
  held ← get_member emits id (first_of vs) x
  give (pending_assign id o (first_of vs) x held)
enter_opener id opens_call vs = give (pending_call id (first_of vs) value.Undefined)
enter_opener id opens_new vs = give (pending_new id (first_of vs))
enter_opener id opens_method vs = do
  x ← lift (member_name (first_of vs) (second_of vs))
  f ← get_member emits id (first_of vs) x
  give (pending_call (id + 1) f (first_of vs))

-- the second call, with these arguments
unfoldable pub close : FunctionTable → Context → Pending → List Value → Part (Answer Value)
close table c (pending_put id base x) vs = do
  _ ← put_member emits id c.strict base x (first_of vs)
  give (first_of vs)
close table c (pending_assign id o base x held) vs = do
  v ← operate emits (id + 1) o held (first_of vs)
  _ ← put_member emits (id + 2) c.strict base x v
  give v
close table c (pending_call pre callee this) vs = invoke table emits pre callee this vs false
close table c (pending_new pre callee) vs = invoke table emits pre callee value.Undefined vs true

-- the values of the arguments of a call, but for so many literals that stand first
abbrev pub Arguments : Type 0
Arguments = (literals : ℕ) → Part (Answer (List Value))

-- a call of a hook
abbrev pub call_hook : Context → Option (HookCall Hook) → Arguments → Part (Answer Value)
call_hook c None args = Fail Misuse
call_hook c (Some h) args = do
  vs ← args h.literals
  Step (enter_hook c h.id h.asked vs)

-- a pair of calls: the first is begun and the hook is entered before the arguments of the second are evaluated
abbrev pub call_pair : FunctionTable → Context → Option (HookCall Opener) → (first : Arguments)
    → (second : Part (Answer (List Value))) → Part (Answer Value)
call_pair table c None first second = Step (Fail Misuse)
call_pair table c (Some h) first second = Step do
  vs ← first h.literals
  pending ← Step (enter_opener h.id h.asked vs)
  ws ← second
  close table c pending ws

-- the same, where the second call has so many arguments
abbrev pub call_opener : FunctionTable → Context → Shape Opener → Exprs → (first : Arguments) → (n : ℕ)
    → (second : Part (Answer (List Value))) → Part (Answer Value)
call_opener table c shape l first n second =
    if takes_arguments shape n then call_pair table c (hook_call shape l) first second else Fail Misuse

-- a call of a member by what the member is: a hook is called, one that begins a pair has to be the callee of a second
-- call, and any other member is called as that
abbrev pub call_by_form : CalleeForm → Exprs → Context → Arguments → (otherwise : Part (Answer Value))
    → Part (Answer Value)
call_by_form (hook shape) l c args otherwise = call_hook c (hook_call shape l) args
call_by_form (opener shape) l c args otherwise = Fail Misuse
call_by_form no_hook l c args otherwise = otherwise

-- a call of a call, of which this is the callee
abbrev pub call_of_call : FunctionTable → Context → CalleeForm → (inner : Exprs) → (first : Arguments) → (n : ℕ)
    → (second : Part (Answer (List Value))) → (otherwise : Part (Answer Value)) → Part (Answer Value)
call_of_call table c (opener shape) l first n second otherwise = call_opener table c shape l first n second
call_of_call table c _ l first n second otherwise = otherwise
