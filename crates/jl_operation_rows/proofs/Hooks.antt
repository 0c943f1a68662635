-- Hooks perform nothing.
use Rattle.std.proofs.Common.{ℕ, ◌+◌, List, Bool, false, true, Option, Some, None, option_map}
use Rattle.jl_ast.specs.declared.ops.BinOp.{BinOp}
use Rattle.jl_value.specs.declared.ending.Fault.TheVariants.{Misuse}
use Rattle.jl_value.specs.declared.value.Seen.{Seen}
use Rattle.jl_value.specs.declared.value.Value.{Value}
use Rattle.jl_value.specs.declared.value.Value.TheVariants as value
use Rattle.jl_heap.specs.Objects.{Name}
use Rattle.jl_op.specs.IdMap.{MapEntry}
use Rattle.jl_op.specs.declared.op.Op.{Op}
use Rattle.jl_op.specs.declared.op.Op.TheVariants as op
use Rattle.jl_op.specs.declared.sign.UnKind.{UnKind}
use Rattle.jl_op.specs.declared.sign.UnKind.TheVariants as unary
use Rattle.jl_meaning.specs.Conversions.{to_number}
use Rattle.jl_meaning.specs.FunctionObjects.{FunctionTable}
use Rattle.jl_meaning.specs.Getting.{get}
use Rattle.jl_meaning.specs.Noting.{emits, note_or_misuse}
use Rattle.jl_meaning.specs.Operators.{binary_result, give_next, unary_result}
use Rattle.jl_meaning.specs.Parts.{Answer, Context, Exprs, Part, Running, Turn}
use Rattle.jl_meaning.specs.Putting.{delete, put}
use Rattle.jl_meaning.specs.forms.Calls.{function_of, invoke}
use Rattle.jl_meaning.specs.forms.HookCalls.{binary_of, catches, deletes, enters_function, enters_script}
use Rattle.jl_meaning.specs.forms.HookCalls.{exits_function, exits_script, gets, hook, hook_call, makes, no_hook}
use Rattle.jl_meaning.specs.forms.HookCalls.{opener, opens_assign, opens_call, opens_method, opens_new, opens_put}
use Rattle.jl_meaning.specs.forms.HookCalls.{reads, returns, takes_arguments, tests, throws_value, types, unary_of}
use Rattle.jl_meaning.specs.forms.HookCalls.{updates, visits, writes, CalleeForm, Hook, HookCall, Opener}
use Rattle.jl_meaning.specs.forms.Hooks.{call_by_form, call_hook, call_of_call, call_pair, close, emit_of, enter_hook}
use Rattle.jl_meaning.specs.forms.Hooks.{enter_opener, entered_op, first_of, hooked_unary, pending_assign}
use Rattle.jl_meaning.specs.forms.Hooks.{pending_call, pending_new, pending_put, second_of, type_op, Arguments}
use Rattle.jl_meaning.specs.forms.Hooks.{Pending}
use Rattle.jl_meaning.specs.forms.Literals.{literal, literal_op}
use Rattle.jl_meaning.specs.forms.Members.{delete_member, get_member, member_name, put_member, update_member}
use Rattle.jl_meaning.specs.forms.Operators.{operate, operate_on, update}
use Rattle.jl_operation_rows.proofs.Relation.{algorithm, bind, call_told, emit_now, emit_told, fails, lift_then}
use Rattle.jl_operation_rows.proofs.Relation.{look_told, ok}
use Rattle.jl_operation_rows.proofs.Relation.{pick, step_told, Performs}

module _ {IsRow : MapEntry ℕ → Type 0} {IsTurn : Turn → Type 0} where
  misuse_or : (id : ℕ) (v : Value) (o : Option Op) → Performs IsRow IsTurn (note_or_misuse emits id v o)
  misuse_or id v None = fails Misuse
  misuse_or id v (Some o) = emit_now (ok v)

  literal_emits : (id : ℕ) (v : Value) → Performs IsRow IsTurn (literal emits id v)
  unfolding literal
  literal_emits id v = look_told (λ s. misuse_or id v (literal_op s.heap v))

  value_emits : (id : ℕ) (f : Seen → Op) (v : Value) → Performs IsRow IsTurn (emit_of id f v)
  value_emits id f v = emit_told (ok v)

  operate_emits : (id : ℕ) (o : BinOp) (a b : Value) → Performs IsRow IsTurn (operate emits id o a b)
  unfolding operate
  operate_emits id o a b = lift_then (binary_result o a b) (λ v. emit_told (ok v))

  operate_on_emits : (id : ℕ) (o : UnKind) (a : Value) → Performs IsRow IsTurn (operate_on emits id o a)
  unfolding operate_on
  operate_on_emits id o a = lift_then (unary_result o a) (λ v. emit_told (ok v))

  update_emits : (id : ℕ) (o : UnKind) (a : Value) → Performs IsRow IsTurn (update emits id o a)
  unfolding update
  update_emits id o a = lift_then (to_number a) (λ n. lift_then (give_next o n) (λ v. emit_told (ok (n, v))))

  unary_emits : (id : ℕ) (o : UnKind) (v : Value) → Performs IsRow IsTurn (hooked_unary id o v)
  unary_emits id unary.Up v = bind (update_emits id unary.Up v) (λ r. ok r.1)
  unary_emits id unary.Down v = bind (update_emits id unary.Down v) (λ r. ok r.1)
  unary_emits id o v = operate_on_emits id o v

  get_emits : (id : ℕ) (base : Value) (x : Name) → Performs IsRow IsTurn (get_member emits id base x)
  unfolding get_member
  get_emits id base x = look_told (λ s. lift_then (get base x) (λ v. emit_told (ok v)))

  put_emits : (id : ℕ) (strict : Bool) (base : Value) (x : Name) (v : Value)
      → Performs IsRow IsTurn (put_member emits id strict base x v)
  unfolding put_member
  put_emits id strict base x v = look_told (λ s. emit_told (algorithm (put strict base x v)))

  delete_emits : (id : ℕ) (strict : Bool) (base key : Value)
      → Performs IsRow IsTurn (delete_member emits id strict base key)
  unfolding delete_member
  delete_emits id strict base key =
      lift_then (member_name base key) (λ x. lift_then (delete strict base x) (λ free.
      emit_told (ok (value.Bool free))))

  update_member_emits : (id : ℕ) (strict : Bool) (o : UnKind) (base key : Value)
      → Performs IsRow IsTurn (update_member emits id strict o base key)
  unfolding update_member
  update_member_emits id strict o base key =
      lift_then (member_name base key) (λ x. bind (get_emits id base x) (λ held.
      bind (update_emits (id + 1) o held) (λ v. bind (put_emits (id + 2) strict base x v.1) (λ done. ok v))))

  invoke_emits : (table : FunctionTable) (id : ℕ) (callee this : Value) (args : List Value) (by_new : Bool)
      → Performs IsRow IsTurn (invoke table emits id callee this args by_new)
  unfolding invoke
  invoke_emits table id callee this args by_new =
      look_told (λ s. lift_then (function_of by_new s.heap callee) (λ f.
      emit_told (call_told (record { callee = f; this = this; args = args; by_new = by_new }) (λ v.
      emit_told (ok v)))))

  -- a hook is entered
  pub hook_emits : (c : Context) (id : ℕ) (h : Hook) (vs : List Value) → Performs IsRow IsTurn (enter_hook c id h vs)
  unfolding enter_hook
  hook_emits c id enters_script vs = misuse_or id value.Undefined (Some op.ScriptEnter)
  hook_emits c id exits_script vs = misuse_or id value.Undefined (Some op.ScriptExit)
  hook_emits c id enters_function vs =
      look_told (λ s. misuse_or id value.Undefined (option_map (entered_op s.heap) c.call))
  hook_emits c id exits_function vs =
      misuse_or id value.Undefined (option_map (λ (r : Running). op.FunctionExit r.function) c.call)
  hook_emits c id makes vs = literal_emits id (first_of vs)
  hook_emits c id (reads x) vs = value_emits id (op.Read x) (first_of vs)
  hook_emits c id (writes x) vs = value_emits id (op.Write x) (first_of vs)
  hook_emits c id (types x) vs = misuse_or id (first_of vs) (type_op x (first_of vs))
  hook_emits c id (catches x) vs = value_emits id (op.Catch x) (first_of vs)
  hook_emits c id tests vs = value_emits id op.Conditional (first_of vs)
  hook_emits c id visits vs = value_emits id op.ForIn (first_of vs)
  hook_emits c id returns vs = value_emits id op.Return (first_of vs)
  hook_emits c id throws_value vs = value_emits id op.Throw (first_of vs)
  hook_emits c id (binary_of o) vs = operate_emits id o (first_of vs) (second_of vs)
  hook_emits c id (unary_of o) vs = unary_emits id o (first_of vs)
  hook_emits c id gets vs =
      lift_then (member_name (first_of vs) (second_of vs)) (λ x. get_emits id (first_of vs) x)
  hook_emits c id deletes vs = delete_emits id c.strict (first_of vs) (second_of vs)
  hook_emits c id (updates o) vs =
      bind (update_member_emits id c.strict o (first_of vs) (second_of vs)) (λ r. ok r.1)

  pub opener_emits : (id : ℕ) (o : Opener) (vs : List Value) → Performs IsRow IsTurn (enter_opener id o vs)
  unfolding enter_opener
  opener_emits id opens_put vs =
      lift_then (member_name (first_of vs) (second_of vs)) (λ x. ok (pending_put id (first_of vs) x))
  opener_emits id (opens_assign o) vs =
      lift_then (member_name (first_of vs) (second_of vs)) (λ x. bind (get_emits id (first_of vs) x) (λ held.
      ok (pending_assign id o (first_of vs) x held)))
  opener_emits id opens_call vs = ok (pending_call id (first_of vs) value.Undefined)
  opener_emits id opens_new vs = ok (pending_new id (first_of vs))
  opener_emits id opens_method vs =
      lift_then (member_name (first_of vs) (second_of vs)) (λ x. bind (get_emits id (first_of vs) x) (λ f.
      ok (pending_call (id + 1) f (first_of vs))))

  pub close_emits : (table : FunctionTable) (c : Context) (pending : Pending) (vs : List Value)
      → Performs IsRow IsTurn (close table c pending vs)
  unfolding close
  close_emits table c (pending_put id base x) vs =
      bind (put_emits id c.strict base x (first_of vs)) (λ done. ok (first_of vs))
  close_emits table c (pending_assign id o base x held) vs =
      bind (operate_emits (id + 1) o held (first_of vs)) (λ v.
      bind (put_emits (id + 2) c.strict base x v) (λ done. ok v))
  close_emits table c (pending_call pre callee this) vs = invoke_emits table pre callee this vs false
  close_emits table c (pending_new pre callee) vs = invoke_emits table pre callee value.Undefined vs true

  -- CALLS
  call_of_hook : (c : Context) (h : Option (HookCall Hook)) (args : Arguments)
      → ((k : ℕ) → Performs IsRow IsTurn (args k))
      → Performs IsRow IsTurn (call_hook c h args)
  call_of_hook c None args x = fails Misuse
  call_of_hook c (Some h) args x = bind (x h.literals) (λ vs. step_told (hook_emits c h.id h.asked vs))

  pair_told : (table : FunctionTable) (c : Context) (h : Option (HookCall Opener)) (first : Arguments)
      {second : Part (Answer (List Value))} → ((k : ℕ) → Performs IsRow IsTurn (first k)) → Performs IsRow IsTurn second
      → Performs IsRow IsTurn (call_pair table c h first second)
  pair_told table c None first x y = step_told (fails Misuse)
  pair_told table c (Some h) first x y =
      step_told (bind (x h.literals) (λ vs. bind (step_told (opener_emits h.id h.asked vs)) (λ pending.
      bind y (λ ws. close_emits table c pending ws))))

  -- a call of a member, by what that is
  pub by_form : (form : CalleeForm) (l : Exprs) (c : Context) (args : Arguments)
      → ((k : ℕ) → Performs IsRow IsTurn (args k))
      → {otherwise : Part (Answer Value)} → Performs IsRow IsTurn otherwise
      → Performs IsRow IsTurn (call_by_form form l c args otherwise)
  by_form (hook shape) l c args x y = call_of_hook c (hook_call shape l) args x
  by_form (opener shape) l c args x y = fails Misuse
  by_form no_hook l c args x y = y

  -- a call of a call
  pub of_call : (table : FunctionTable) (c : Context) (form : CalleeForm) (inner : Exprs) (first : Arguments)
      → ((k : ℕ) → Performs IsRow IsTurn (first k)) → (n : ℕ) {second : Part (Answer (List Value))}
      → Performs IsRow IsTurn second
      → {otherwise : Part (Answer Value)} → Performs IsRow IsTurn otherwise
      → Performs IsRow IsTurn (call_of_call table c form inner first n second otherwise)
  of_call table c (hook shape) inner first x n y z = z
  of_call table c (opener shape) inner first x n y z =
      pick (takes_arguments shape n) (pair_told table c (hook_call shape inner) first x y) (fails Misuse)
  of_call table c no_hook inner first x n y z = z
