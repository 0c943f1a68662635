-- What hooks emit when they are entered.
use Rattle.std.proofs.Common.{ℕ, suc, ◌+◌, List, Bool, false, true, Option, Some, None, option_map, arith}
use Rattle.jl_ast.specs.declared.ops.BinOp.{BinOp}
use Rattle.jl_value.specs.declared.ending.Fault.TheVariants.{Misuse}
use Rattle.jl_value.specs.declared.value.Seen.{Seen}
use Rattle.jl_value.specs.declared.value.Value.{Value}
use Rattle.jl_value.specs.declared.value.Value.TheVariants as value
use Rattle.jl_heap.specs.Objects.{Name}
use Rattle.jl_op.specs.declared.op.Op.{Op}
use Rattle.jl_op.specs.declared.op.Op.TheVariants as op
use Rattle.jl_op.specs.declared.sign.UnKind.{UnKind}
use Rattle.jl_op.specs.declared.sign.UnKind.TheVariants as unary
use Rattle.jl_meaning.specs.Conversions.{to_number}
use Rattle.jl_meaning.specs.FunctionObjects.{FunctionTable}
use Rattle.jl_meaning.specs.Getting.{get}
use Rattle.jl_meaning.specs.Noting.{emits, note_or_misuse}
use Rattle.jl_meaning.specs.Operators.{binary_result, give_next, unary_result}
use Rattle.jl_meaning.specs.Parts.{Context, Part, Running}
use Rattle.jl_meaning.specs.Putting.{delete, put}
use Rattle.jl_meaning.specs.forms.Calls.{function_of, invoke}
use Rattle.jl_meaning.specs.forms.HookCalls.{binary_of, catches, deletes, enters_function, enters_script}
use Rattle.jl_meaning.specs.forms.HookCalls.{exits_function, exits_script, gets, makes, opens_assign, opens_call}
use Rattle.jl_meaning.specs.forms.HookCalls.{opens_method, opens_new, opens_put, reads, returns, tests, throws_value}
use Rattle.jl_meaning.specs.forms.HookCalls.{types, unary_of, updates, visits, writes, Hook, Opener}
use Rattle.jl_meaning.specs.forms.Hooks.{close, emit_of, enter_hook, enter_opener, entered_op, first_of, hooked_unary}
use Rattle.jl_meaning.specs.forms.Hooks.{pending_assign, pending_call, pending_new, pending_put}
use Rattle.jl_meaning.specs.forms.Hooks.{second_of, type_op, Pending}
use Rattle.jl_meaning.specs.forms.Literals.{literal, literal_op}
use Rattle.jl_meaning.specs.forms.Members.{delete_member, get_member, member_name, put_member, update_member}
use Rattle.jl_meaning.specs.forms.Operators.{operate, operate_on, update}
use Rattle.jl_hook_bound.proofs.Relation.{algorithm, bind, call_paid, down, down_gains, emit_now, emit_paid, fails}
use Rattle.jl_hook_bound.proofs.Relation.{gives_more, lift_then, look_paid, ok, weaken, Gains, Paid}

-- how many operations a hook emits, at most
abbrev pub emitted : Hook → ℕ
emitted (updates o) = 3
emitted h = 1

-- how many a pair of calls emits, and how many of them when it ends
abbrev pub emitted_by_pair : Opener → ℕ
emitted_by_pair opens_put = 1
emitted_by_pair (opens_assign o) = 3
emitted_by_pair opens_call = 1
emitted_by_pair opens_new = 1
emitted_by_pair opens_method = 2

abbrev pub emitted_at_last : Pending → ℕ
emitted_at_last (pending_put id base x) = 1
emitted_at_last (pending_assign id o base x held) = 2
emitted_at_last (pending_call pre callee this) = 1
emitted_at_last (pending_new pre callee) = 1

-- WHAT FORMS EMIT
misuse_or : (id : ℕ) (v : Value) (o : Option Op) {d : ℕ} → Paid (suc d) d (note_or_misuse emits id v o)
misuse_or id v None = fails Misuse
misuse_or id v (Some o) = emit_now (ok v)

literal_emits : (id : ℕ) (v : Value) {d : ℕ} → Paid (suc d) d (literal emits id v)
unfolding literal
literal_emits id v = look_paid (λ s. misuse_or id v (literal_op s.heap v))

value_emits : (id : ℕ) (f : Seen → Op) (v : Value) {d : ℕ} → Paid (suc d) d (emit_of id f v)
value_emits id f v = emit_paid (ok v)

operate_emits : (id : ℕ) (o : BinOp) (a b : Value) {d : ℕ} → Paid (suc d) d (operate emits id o a b)
unfolding operate
operate_emits id o a b {d = d} = lift_then (binary_result o a b) (omega arith) (λ v. emit_paid (ok v))

operate_on_emits : (id : ℕ) (o : UnKind) (a : Value) {d : ℕ} → Paid (suc d) d (operate_on emits id o a)
unfolding operate_on
operate_on_emits id o a {d = d} = lift_then (unary_result o a) (omega arith) (λ v. emit_paid (ok v))

update_emits : (id : ℕ) (o : UnKind) (a : Value) {d : ℕ} → Paid (suc d) d (update emits id o a)
unfolding update
update_emits id o a {d = d} =
    lift_then (to_number a) (omega arith) (λ n. lift_then (give_next o n) (omega arith) (λ v. emit_paid (ok (n, v))))

unary_emits : (id : ℕ) (o : UnKind) (v : Value) {d : ℕ} → Paid (suc d) d (hooked_unary id o v)
unary_emits id unary.Up v = bind (update_emits id unary.Up v) (λ r. ok r.1)
unary_emits id unary.Down v = bind (update_emits id unary.Down v) (λ r. ok r.1)
unary_emits id o v = operate_on_emits id o v

get_emits : (id : ℕ) (base : Value) (x : Name) {d : ℕ} → Paid (suc d) d (get_member emits id base x)
unfolding get_member
get_emits id base x {d = d} = look_paid (λ s. lift_then (get base x) (omega arith) (λ v. emit_paid (ok v)))

put_emits : (id : ℕ) (strict : Bool) (base : Value) (x : Name) (v : Value) {d : ℕ}
    → Paid (suc d) d (put_member emits id strict base x v)
unfolding put_member
put_emits id strict base x v = look_paid (λ s. emit_paid (algorithm (put strict base x v)))

delete_emits : (id : ℕ) (strict : Bool) (base key : Value) {d : ℕ}
    → Paid (suc d) d (delete_member emits id strict base key)
unfolding delete_member
delete_emits id strict base key {d = d} =
    lift_then (member_name base key) (omega arith) (λ x. lift_then (delete strict base x) (omega arith) (λ free.
    emit_paid (ok (value.Bool free))))

update_member_emits : (id : ℕ) (strict : Bool) (o : UnKind) (base key : Value) {d : ℕ}
    → Paid (suc (suc (suc d))) d (update_member emits id strict o base key)
unfolding update_member
update_member_emits id strict o base key {d = d} =
    lift_then (member_name base key) (omega arith) (λ x.
    down (suc (suc d)) (omega arith) (get_emits id base x) (λ held.
    down (suc d) (omega arith) (update_emits (id + 1) o held) (λ v.
    bind (put_emits (id + 2) strict base x v.1) (λ done. ok v))))

invoke_emits : (table : FunctionTable) (id : ℕ) (callee this : Value) (args : List Value) (by_new : Bool) {d : ℕ}
    → Paid (suc d) d (invoke table emits id callee this args by_new)
unfolding invoke
invoke_emits table id callee this args by_new {d = d} =
    look_paid (λ s. lift_then (function_of by_new s.heap callee) (omega arith) (λ f.
    emit_paid (call_paid (record { callee = f; this = this; args = args; by_new = by_new }) (omega arith) (λ v.
    emit_paid (ok v)))))

one_more : {A : Type 0} {p : Part A} (d : ℕ) → Paid (suc d) d p → Paid (1 + d) d p
one_more d x = weaken {credit = suc d} {left = d} (1 + d) d (omega arith) (omega arith) x

-- a hook is entered
pub hook_emits : (c : Context) (id : ℕ) (h : Hook) (vs : List Value) (d : ℕ)
    → Paid (emitted h + d) d (enter_hook c id h vs)
unfolding enter_hook
hook_emits c id enters_script vs d = one_more d (misuse_or id value.Undefined (Some op.ScriptEnter))
hook_emits c id exits_script vs d = one_more d (misuse_or id value.Undefined (Some op.ScriptExit))
hook_emits c id enters_function vs d = one_more d (look_paid (λ s.
    misuse_or id value.Undefined (option_map (entered_op s.heap) c.call)))
hook_emits c id exits_function vs d =
    one_more d (misuse_or id value.Undefined (option_map (λ (r : Running). op.FunctionExit r.function) c.call))
hook_emits c id makes vs d = one_more d (literal_emits id (first_of vs))
hook_emits c id (reads x) vs d = one_more d (value_emits id (op.Read x) (first_of vs))
hook_emits c id (writes x) vs d = one_more d (value_emits id (op.Write x) (first_of vs))
hook_emits c id (types x) vs d = one_more d (misuse_or id (first_of vs) (type_op x (first_of vs)))
hook_emits c id (catches x) vs d = one_more d (value_emits id (op.Catch x) (first_of vs))
hook_emits c id tests vs d = one_more d (value_emits id op.Conditional (first_of vs))
hook_emits c id visits vs d = one_more d (value_emits id op.ForIn (first_of vs))
hook_emits c id returns vs d = one_more d (value_emits id op.Return (first_of vs))
hook_emits c id throws_value vs d = one_more d (value_emits id op.Throw (first_of vs))
hook_emits c id (binary_of o) vs d = one_more d (operate_emits id o (first_of vs) (second_of vs))
hook_emits c id (unary_of o) vs d = one_more d (unary_emits id o (first_of vs))
hook_emits c id gets vs d = one_more d (lift_then (member_name (first_of vs) (second_of vs)) (omega arith) (λ x. get_emits id (first_of vs) x))
hook_emits c id deletes vs d = one_more d (delete_emits id c.strict (first_of vs) (second_of vs))
hook_emits c id (updates o) vs d =
    weaken {credit = suc (suc (suc d))} {left = d} (3 + d) d (omega arith) (omega arith)
    (bind (update_member_emits id c.strict o (first_of vs) (second_of vs)) (λ r. ok r.1))

-- the first call of a pair leaves what the second needs
pub opener_emits : (id : ℕ) (o : Opener) (vs : List Value) (d : ℕ)
    → Gains emitted_at_last (emitted_by_pair o + d) d (enter_opener id o vs)
unfolding enter_opener
opener_emits id opens_put vs d =
    down_gains emitted_at_last (1 + d) (omega arith) (algorithm (member_name (first_of vs) (second_of vs))) (λ x.
    gives_more emitted_at_last (pending_put id (first_of vs) x) (omega arith))
opener_emits id (opens_assign o) vs d =
    down_gains emitted_at_last (3 + d) (omega arith) (algorithm (member_name (first_of vs) (second_of vs))) (λ x.
    down_gains emitted_at_last (2 + d) (omega arith)
    (weaken {credit = suc (2 + d)} {left = 2 + d} (3 + d) (2 + d) (omega arith) (omega arith) (get_emits id (first_of vs) x {d = 2 + d})) (λ held.
    gives_more emitted_at_last (pending_assign id o (first_of vs) x held) (omega arith)))
opener_emits id opens_call vs d =
    gives_more emitted_at_last (pending_call id (first_of vs) value.Undefined) (omega arith)
opener_emits id opens_new vs d = gives_more emitted_at_last (pending_new id (first_of vs)) (omega arith)
opener_emits id opens_method vs d =
    down_gains emitted_at_last (2 + d) (omega arith) (algorithm (member_name (first_of vs) (second_of vs))) (λ x.
    down_gains emitted_at_last (1 + d) (omega arith)
    (weaken {credit = suc (1 + d)} {left = 1 + d} (2 + d) (1 + d) (omega arith) (omega arith) (get_emits id (first_of vs) x {d = 1 + d})) (λ f.
    gives_more emitted_at_last (pending_call (id + 1) f (first_of vs)) (omega arith)))

-- the second
pub close_emits : (table : FunctionTable) (c : Context) (pending : Pending) (vs : List Value) (d : ℕ)
    → Paid (emitted_at_last pending + d) d (close table c pending vs)
unfolding close
close_emits table c (pending_put id base x) vs d = one_more d (bind (put_emits id c.strict base x (first_of vs)) (λ done. ok (first_of vs)))
close_emits table c (pending_assign id o base x held) vs d =
    weaken {credit = suc (suc d)} {left = d} (2 + d) d (omega arith) (omega arith)
    (down (suc d) (omega arith) (operate_emits (id + 1) o held (first_of vs)) (λ v.
    bind (put_emits (id + 2) c.strict base x v) (λ done. ok v)))
close_emits table c (pending_call pre callee this) vs d = one_more d (invoke_emits table pre callee this vs false)
close_emits table c (pending_new pre callee) vs d = one_more d (invoke_emits table pre callee value.Undefined vs true)
