-- What an expression does that waits for a value, with the value.
use Rattle.std.specs.Prelude.{[], false, if◌then◌else◌, slice_get, true, ◌++◌, ◌+◌, ◌∷◌}
use Rattle.std.specs.Prelude.{List, None, Option, Some, ℕ}
use Rattle.std.specs.Borrow.{Bor}
use Rattle.std.specs.Global.{Global}
use Rattle.std.specs.declared.boxed.Box.{Box}
use Rattle.jl_ast.specs.View.{view_entries, view_expression}
use Rattle.jl_ast.specs.View.{view_expressions, view_items}
use Rattle.jl_ast.specs.declared.tree.Expr.{Expr}
use Rattle.jl_value.specs.Tests.{is_object}
use Rattle.jl_value.specs.declared.object.Class.TheVariants as class
use Rattle.jl_value.specs.declared.value.Value.{Value}
use Rattle.jl_value.specs.declared.value.Value.TheVariants as value
use Rattle.jl_conv.specs.Conversions.{text_of_value}
use Rattle.jl_heap.specs.Describe.{seen_of}
use Rattle.jl_heap.specs.Objects.{Name}
use Rattle.jl_heap.specs.declared.inner.Inner.TheVariants as inner
use Rattle.jl_op.specs.declared.op.Op.TheVariants as op
use Rattle.jl_op.specs.UnaryKinds.{update_kind}
use Rattle.jl_effects.specs.Effects.{Step}
use Rattle.jl_meaning.specs.Defining.{plain_change}
use Rattle.jl_meaning.specs.Expressions.{equip, evaluate, evaluate_all, fill}
use Rattle.jl_meaning.specs.FunctionObjects.{FunctionTable}
use Rattle.jl_meaning.specs.FunctionObjects as functions
use Rattle.jl_meaning.specs.Noting.{emits, note, note_value, performs}
use Rattle.jl_meaning.specs.Operators.{give_next}
use Rattle.jl_meaning.specs.Parts.{begin_call, do_loop, for_in_loop, for_loop, gives, give, lift, look, new_object}
use Rattle.jl_meaning.specs.Parts.{or_fault, while_loop}
use Rattle.jl_meaning.specs.Parts.{◌>>=◌, Algorithm, Answer, CallOf, Context, NumberOutside, Part}
use Rattle.jl_meaning.specs.Parts as parts
use Rattle.jl_meaning.specs.Putting.{delete}
use Rattle.jl_meaning.specs.References.{put_value}
use Rattle.jl_meaning.specs.forms.Calls.{call_member, invoke}
use Rattle.jl_meaning.specs.forms.Functions.{call_script, prototype_for}
use Rattle.jl_meaning.specs.forms.Hooks.{close, enter_hook, enter_opener, pending_assign, pending_call, pending_put}
use Rattle.jl_meaning.specs.forms.Literals.{define_entry, end_array, literal_of, of_object, put_element}
use Rattle.jl_meaning.specs.forms.Members.{assign_member, delete_member, get_member, put_member, read_member}
use Rattle.jl_meaning.specs.forms.Members.{update_expression}
use Rattle.jl_meaning.specs.forms.Operators.{decide, operate, operate_on, update}
use Rattle.jl_store.specs.LookUps.{reference_seen}
use Rattle.jl_state.specs.AlgorithmFrames.{number_of_primitive}
use Rattle.jl_state.specs.Trees.{items_left, plain, plain_forest}
use Rattle.jl_state.specs.Words.{call_of, context_of, hook_of, noting, opener_of, pending_of}
use Rattle.jl_state.specs.declared.calls.Call.{Call}
use Rattle.jl_state.specs.declared.value_frame.ArgumentUse.{ArgumentUse}
use Rattle.jl_state.specs.declared.value_frame.ArgumentUse.TheVariants as arguments_for
use Rattle.jl_state.specs.declared.frame.Here.{Here}
use Rattle.jl_state.specs.declared.value_frame.MemberUse.{MemberUse}
use Rattle.jl_state.specs.declared.value_frame.MemberUse.TheVariants as key_for
use Rattle.jl_state.specs.declared.value_frame.ValueFrame.{ValueFrame}
use Rattle.jl_state.specs.declared.value_frame.ValueFrame.TheVariants as waiting

module _ (table : FunctionTable) (calls : List Call) where
  abbrev context : Here → Context
  context here = context_of calls here

  abbrev value_of : Bor Expr → Here → Part (Answer Value)
  value_of e here = evaluate table (plain (view_expression e.now)) (context here)

  abbrev value_in : Bor (Box Expr Global) → Here → Part (Answer Value)
  value_in e here = evaluate table (plain (view_expression e.now.value)) (context here)

  abbrev values_of : (so_far : List Value) → List Expr → Here → Part (Answer (List Value))
  values_of so_far l here = evaluate_all table 0 so_far (plain_forest (view_expressions l)) (context here)

  -- what is done with the name of a member
  abbrev pub key_after : MemberUse → Name → Part (Answer Value)
  key_after (key_for.Get noted base) x = get_member (noting noted.emits) noted.id.id base x
  key_after (key_for.Call base args here) x = do
    f ← get_member performs 0 base x
    vs ← values_of [] args.now here
    invoke table performs 0 f base vs false
  key_after (key_for.Assign base None e here) x = do
    v ← value_in e here
    _ ← put_member performs 0 here.strict base x v
    give v
  key_after (key_for.Assign base (Some o) e here) x = do
    held ← get_member performs 0 base x
    operand ← value_in e here
    v ← operate performs 1 o held operand
    _ ← put_member performs 2 here.strict base x v
    give v
  key_after (key_for.Delete noted base strict) x = do
    free ← lift (delete strict base x)
    _ ← note (noting noted.emits) noted.id.id (λ heap. op.DeleteField (seen_of heap base) x free)
    give (value.Bool free)
  key_after (key_for.Update noted base up prefix strict) x = do
    held ← get_member (noting noted.emits) noted.id.id base x
    v ← update (noting noted.emits) (noted.id.id + 1) (update_kind up) held
    _ ← put_member (noting noted.emits) (noted.id.id + 2) strict base x v.1
    give (if prefix then v.1 else value.Num v.0)
  key_after (key_for.Put id base args here) x = do
    vs ← values_of [] args.now here
    close table (context here) (pending_put id.id base x) vs
  key_after (key_for.Compute id o base args here) x = do
    held ← get_member emits id.id base x
    vs ← values_of [] args.now here
    close table (context here) (pending_assign id.id o base x held) vs
  key_after (key_for.Method id base args here) x = do
    f ← get_member emits id.id base x
    vs ← values_of [] args.now here
    close table (context here) (pending_call (id.id + 1) f base) vs

  -- what is done with the values of arguments
  abbrev pub arguments_after : ArgumentUse → Here → List Value → Part (Answer Value)
  arguments_after (arguments_for.Invoke callee this by_new) here vs = invoke table performs 0 callee this vs by_new
  arguments_after (arguments_for.Hook id h) here vs = Step (enter_hook (context here) id.id (hook_of h) vs)
  arguments_after (arguments_for.Opener id o second) here vs = do
    pending ← Step (enter_opener id.id (opener_of o) vs)
    ws ← values_of [] second.now here
    close table (context here) pending ws
  arguments_after (arguments_for.Close pending) here vs = close table (context here) (pending_of pending) vs

  -- [[Construct]] of a function of the script goes on with the prototype (13.2.2, steps 5 to 10)
  abbrev construct_with : Option functions.ScriptFunction → (env : ℕ) → parts.Call → (proto : Value)
      → Part (Answer Value)
  construct_with None env call proto = give value.Undefined
  construct_with (Some f) env call proto = do
    id ← lift (new_object class.Object (Some (prototype_for proto)) inner.Nothing)
    v ← call_script table f env (record call { this = value.Obj id })
    give (if is_object v then v else value.Obj id)

  abbrev pub value_after : ValueFrame → Value → Part (Answer Value)
  value_after (waiting.Element array index rest here) v = do
    _ ← lift (put_element array index v)
    n ← fill table (plain_forest (view_items (items_left rest))) array (index + 1) (context here)
    end_array 0 array n
  value_after (waiting.EntryValue object key rest here) v = do
    _ ← define_entry object key.now (plain_change v)
    _ ← equip table (plain_forest (view_entries (items_left rest))) object (context here)
    literal_of of_object 0 (value.Obj object)
  value_after (waiting.Entries object rest here) _ = do
    _ ← equip table (plain_forest (view_entries (items_left rest))) object (context here)
    literal_of of_object 0 (value.Obj object)
  value_after (waiting.DotBase key) base = read_member 0 base (value.Text key.now)
  value_after (waiting.IndexBase k here) base = do
    key ← value_in k here
    read_member 0 base key
  value_after (waiting.IndexKey base) key = read_member 0 base key
  value_after (waiting.Key purpose) p = key_after purpose (text_of_value p)
  value_after (waiting.Callee this by_new args here) f = do
    vs ← values_of [] args.now here
    invoke table performs 0 f this vs by_new
  value_after (waiting.CalleeDotBase key args here) base =
      call_member table 0 0 base (value.Text key.now) (values_of [] args.now here)
  value_after (waiting.CalleeIndexBase k args here) base = do
    key ← value_in k here
    call_member table 0 0 base key (values_of [] args.now here)
  value_after (waiting.CalleeIndexKey base args here) key = call_member table 0 0 base key (values_of [] args.now here)
  value_after (waiting.Argument a) v = do
    vs ← values_of (a.so_far ++ v ∷ []) (items_left a.rest) a.here
    arguments_after a.purpose a.here vs
  value_after (waiting.Operand o) v = operate_on performs 0 o v
  value_after waiting.DeleteValue _ = give (value.Bool true)
  value_after (waiting.DeleteDotBase key strict) base = delete_member performs 0 strict base (value.Text key.now)
  value_after (waiting.DeleteIndexBase k here) base = do
    key ← value_in k here
    delete_member performs 0 here.strict base key
  value_after (waiting.DeleteIndexKey base strict) key = delete_member performs 0 strict base key
  value_after (waiting.LeftOperand o b here) x = do
    y ← value_in b here
    operate performs 0 o x y
  value_after (waiting.RightOperand o x) y = operate performs 0 o x y
  value_after (waiting.And b here) v = do
    truth ← decide 0 v
    if truth then value_in b here else give v
  value_after (waiting.Or b here) v = do
    truth ← decide 0 v
    if truth then give v else value_in b here
  value_after (waiting.Conditional a b here) v = do
    truth ← decide 0 v
    if truth then value_in a here else value_in b here
  value_after (waiting.Comma b here) _ = value_in b here
  value_after (waiting.WriteName id x reference strict) v = do
    _ ← note_value performs id.0 (op.Write x.now) v
    _ ← lift (put_value strict x.now v (reference_seen reference))
    give v
  value_after (waiting.ComputeName x reference o e here) held = do
    _ ← note_value performs 0 (op.Read x.now) held
    operand ← value_in e here
    v ← operate performs 1 o held operand
    _ ← note_value performs 2 (op.Write x.now) v
    _ ← lift (put_value here.strict x.now v (reference_seen reference))
    give v
  value_after (waiting.ComputeNameOperand x reference o held strict) operand = do
    v ← operate performs 1 o held operand
    _ ← note_value performs 2 (op.Write x.now) v
    _ ← lift (put_value strict x.now v (reference_seen reference))
    give v
  value_after (waiting.UpdateName x reference up prefix strict) held = do
    _ ← note_value performs 0 (op.Read x.now) held
    v ← update performs 1 (update_kind up) held
    _ ← note_value performs 2 (op.Write x.now) v.1
    _ ← lift (put_value strict x.now v.1 (reference_seen reference))
    give (if prefix then v.1 else value.Num v.0)
  value_after (waiting.UpdateNamePrimitive x reference up prefix strict held) p = do
    n ← lift (number_of_primitive p)
    w ← lift (give_next (update_kind up) n)
    _ ← note performs 1 (λ heap. op.Unary (update_kind up) (seen_of heap held) (seen_of heap w))
    _ ← note_value performs 2 (op.Write x.now) w
    _ ← lift (put_value strict x.now w (reference_seen reference))
    give (if prefix then w else value.Num n)
  value_after (waiting.AssignDotBase key o e here) base =
      assign_member 0 (context here) base (value.Text key.now) o (value_in e here)
  value_after (waiting.AssignIndexBase k o e here) base = do
    key ← value_of k here
    assign_member 0 (context here) base key o (value_in e here)
  value_after (waiting.AssignIndexKey base o e here) key =
      assign_member 0 (context here) base key o (value_in e here)
  value_after (waiting.PutMember emitting id base x strict) v = do
    _ ← put_member (noting emitting) id.0 strict base x v
    give v
  value_after (waiting.ComputeMember base x o e here) held = do
    operand ← value_in e here
    v ← operate performs 1 o held operand
    _ ← put_member performs 2 here.strict base x v
    give v
  value_after (waiting.ComputePending id o base x args here) held = do
    vs ← values_of [] args.now here
    close table (context here) (pending_assign id.id o base x held) vs
  value_after (waiting.MethodPending id base args here) f = do
    vs ← values_of [] args.now here
    close table (context here) (pending_call (id.id + 1) f base) vs
  value_after (waiting.ComputeMemberOperand base x o held strict) operand = do
    v ← operate performs 1 o held operand
    _ ← put_member performs 2 strict base x v
    give v
  value_after (waiting.UpdateDotBase key up prefix strict) base =
      update_expression 0 (context (record { env = 0; strict = strict })) base (value.Text key.now) up prefix
  value_after (waiting.UpdateIndexBase k up prefix here) base = do
    key ← value_of k here
    update_expression 0 (context here) base key up prefix
  value_after (waiting.UpdateIndexKey base up prefix strict) key =
      update_expression 0 (context (record { env = 0; strict = strict })) base key up prefix
  value_after (waiting.UpdateMember noted base x up prefix strict) held = do
    v ← update (noting noted.emits) (noted.id.id + 1) (update_kind up) held
    _ ← put_member (noting noted.emits) (noted.id.id + 2) strict base x v.1
    give (if prefix then v.1 else value.Num v.0)
  value_after (waiting.UpdateMemberPrimitive noted base x up prefix strict held) p = do
    n ← lift (number_of_primitive p)
    w ← lift (give_next (update_kind up) n)
    _ ← note (noting noted.emits) (noted.id.id + 1) (λ heap. op.Unary (update_kind up) (seen_of heap held)
        (seen_of heap w))
    _ ← put_member (noting noted.emits) (noted.id.id + 2) strict base x w
    give (if prefix then w else value.Num n)
  value_after (waiting.UpdateOperandPrimitive id up held) p = do
    n ← lift (number_of_primitive p)
    w ← lift (give_next (update_kind up) n)
    _ ← note emits id.id (λ heap. op.Unary (update_kind up) (seen_of heap held) (seen_of heap w))
    give w
  value_after (waiting.EmitGet id base x found) v = do
    _ ← note emits id.0 (λ heap. op.GetField (seen_of heap base) x (seen_of heap v) found)
    give v
  value_after (waiting.EmitBinary id o left right) v = do
    _ ← note emits id.0 (λ heap. op.Binary o (seen_of heap left) (seen_of heap right) (seen_of heap v))
    give v
  value_after (waiting.EmitUnary id o operand) v = do
    _ ← note emits id.0 (λ heap. op.Unary o (seen_of heap operand) (seen_of heap v))
    give v
  value_after (waiting.EmitInvoke id callee) v = do
    _ ← note_value emits id.0 (op.InvokePost callee) v
    give v
  value_after (waiting.InstancePrototype number env call) proto =
      construct_with (slice_get table number) env (call_of call) proto
  value_after (waiting.Constructed object) v = give (if is_object v then v else object)
