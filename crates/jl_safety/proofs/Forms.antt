-- Forms of expressions fail by no Misuse, where no name is that of the hooks.
use Rattle.std.proofs.Common.{◌≡◌, ℕ, ◌+◌, List, Bool, true, false, Option, Some, None}
use Rattle.std.specs.Prelude.{if◌then◌else◌}
use Rattle.jl_ast.specs.declared.ops.BinOp.{BinOp}
use Rattle.jl_value.specs.declared.ending.Fault.TheVariants.{Misuse}
use Rattle.jl_value.specs.declared.value.Value.{Value}
use Rattle.jl_value.specs.declared.value.Value.TheVariants as value
use Rattle.jl_heap.specs.Objects.{Name}
use Rattle.jl_heap.specs.declared.property.Change.{Change}
use Rattle.jl_value.specs.declared.object.ObjId.{ObjId}
use Rattle.jl_op.specs.declared.sign.UnKind.{UnKind}
use Rattle.jl_op.specs.UnaryKinds.{update_kind}
use Rattle.jl_effects.specs.Effects.{Fail}
use Rattle.jl_meaning.specs.Conversions.{to_number}
use Rattle.jl_meaning.specs.Defining.{define_own_property}
use Rattle.jl_meaning.specs.FunctionObjects.{FunctionTable}
use Rattle.jl_meaning.specs.Getting.{get}
use Rattle.jl_meaning.specs.Noting.{performs}
use Rattle.jl_meaning.specs.Operators.{binary_result, give_next, unary_result}
use Rattle.jl_meaning.specs.Parts.{Answer, Context, Part}
use Rattle.jl_meaning.specs.Putting.{delete, put}
use Rattle.jl_meaning.specs.References.{delete_name, get_name, get_value, identifier_reference, put_value}
use Rattle.jl_meaning.specs.References.{type_of_name, Reference}
use Rattle.jl_meaning.specs.forms.Calls.{call_member, call_value, function_of, invoke}
use Rattle.jl_meaning.specs.forms.Literals.{define_entry}
use Rattle.jl_meaning.specs.forms.Members.{assign_member, delete_member, get_member, member_name, put_member}
use Rattle.jl_meaning.specs.forms.Members.{read_member, update_expression, update_member}
use Rattle.jl_meaning.specs.forms.Names.{assign_name, compute_name, delete_identifier, is_hooks, read_name}
use Rattle.jl_meaning.specs.forms.Names.{read_reference, typeof_name, unless_hooks, update_name, write_name}
use Rattle.jl_meaning.specs.forms.Operators.{decide, decide_by, operate, operate_on, update}
use Rattle.jl_safety.proofs.Relation.{algorithm, bind, call_safe, lift_then, look_safe, ok, perform_safe, Safe}

-- OPERATORS
pub operate_safe : (id : ℕ) (o : BinOp) (a b : Value) → Safe (operate performs id o a b)
unfolding operate
operate_safe id o a b = lift_then (binary_result o a b) (λ v. perform_safe (ok v))

pub operate_on_safe : (id : ℕ) (o : UnKind) (a : Value) → Safe (operate_on performs id o a)
unfolding operate_on
operate_on_safe id o a = lift_then (unary_result o a) (λ v. perform_safe (ok v))

update_safe : (id : ℕ) (o : UnKind) (a : Value) → Safe (update performs id o a)
unfolding update
update_safe id o a = lift_then (to_number a) (λ n. lift_then (give_next o n) (λ v. perform_safe (ok (n, v))))

pub decide_safe : (id : ℕ) (v : Value) → Safe (decide id v)
unfolding decide
decide_safe id v = perform_safe (ok _)

pub decide_by_safe : (id : ℕ) {e : Part (Answer Value)} → Safe e → Safe (decide_by id e)
decide_by_safe id x = bind x (λ v. decide_safe id v)

-- NAMES
pub unless_safe : {A : Type 0} (x : Name) → is_hooks x ≡ false → {p : Part (Answer A)} → Safe p
    → Safe (unless_hooks x p)
unless_safe x h {p = p} y = at (is_hooks x) h
  where
    at : (b : Bool) → b ≡ false → Safe (if b then Fail Misuse else p)
    at true e = cc
    at false e = y

pub read_safe : (id : ℕ) (c : Context) (x : Name) → is_hooks x ≡ false → Safe (read_name id c x)
unfolding read_name
read_safe id c x h = unless_safe x h (lift_then (get_name c.env x) (λ v. perform_safe (ok v)))

pub typeof_safe : (id : ℕ) (c : Context) (x : Name) → is_hooks x ≡ false → Safe (typeof_name id c x)
unfolding typeof_name
typeof_safe id c x h = unless_safe x h (lift_then (type_of_name c.env x) (λ type. perform_safe (ok (value.Text type))))

pub deletion_safe : (c : Context) (x : Name) → is_hooks x ≡ false → Safe (delete_identifier c x)
unfolding delete_identifier
deletion_safe c x h = unless_safe x h (lift_then (delete_name c.strict c.env x) (λ free. ok (value.Bool free)))

reference_safe : (id : ℕ) (x : Name) (reference : Reference) → Safe (read_reference id x reference)
reference_safe id x reference = lift_then (get_value x reference) (λ v. perform_safe (ok v))

write_safe : (id : ℕ) (c : Context) (x : Name) (reference : Reference) (v : Value)
    → Safe (write_name id c x reference v)
write_safe id c x reference v = perform_safe (algorithm (put_value c.strict x v reference))

pub assign_safe : (id : ℕ) (c : Context) (x : Name) → is_hooks x ≡ false → {e : Part (Answer Value)} → Safe e
    → Safe (assign_name id c x e)
assign_safe id c x h y =
    unless_safe x h (look_safe (λ s. bind y (λ v.
    bind (write_safe id c x (identifier_reference s c.env x) v) (λ done. ok v))))

pub compute_safe : (id : ℕ) (c : Context) (x : Name) (o : BinOp) → is_hooks x ≡ false → {e : Part (Answer Value)}
    → Safe e → Safe (compute_name id c x o e)
compute_safe id c x o h y =
    unless_safe x h (look_safe (λ s. bind (reference_safe id x (identifier_reference s c.env x)) (λ held.
    bind y (λ w. bind (operate_safe (id + 1) o held w) (λ v.
    bind (write_safe (id + 2) c x (identifier_reference s c.env x) v) (λ done. ok v))))))

pub update_name_safe : (id : ℕ) (c : Context) (x : Name) (up prefix : Bool) → is_hooks x ≡ false
    → Safe (update_name id c x up prefix)
unfolding update_name
update_name_safe id c x up prefix h =
    unless_safe x h (look_safe (λ s. bind (reference_safe id x (identifier_reference s c.env x)) (λ held.
    bind (update_safe (id + 1) (update_kind up) held) (λ v.
    bind (write_safe (id + 2) c x (identifier_reference s c.env x) v.1) (λ done. ok _)))))

-- MEMBERS
get_safe : (id : ℕ) (base : Value) (x : Name) → Safe (get_member performs id base x)
unfolding get_member
get_safe id base x = look_safe (λ s. lift_then (get base x) (λ v. perform_safe (ok v)))

put_safe : (id : ℕ) (strict : Bool) (base : Value) (x : Name) (v : Value)
    → Safe (put_member performs id strict base x v)
unfolding put_member
put_safe id strict base x v = look_safe (λ s. perform_safe (algorithm (put strict base x v)))

pub read_member_safe : (id : ℕ) (base key : Value) → Safe (read_member id base key)
unfolding read_member
read_member_safe id base key = lift_then (member_name base key) (λ x. get_safe id base x)

pub delete_safe : (id : ℕ) (strict : Bool) (base key : Value) → Safe (delete_member performs id strict base key)
unfolding delete_member
delete_safe id strict base key =
    lift_then (member_name base key) (λ x. lift_then (delete strict base x) (λ free.
    perform_safe (ok (value.Bool free))))

pub update_expression_safe : (id : ℕ) (c : Context) (base key : Value) (up prefix : Bool)
    → Safe (update_expression id c base key up prefix)
unfolding update_expression update_member
update_expression_safe id c base key up prefix =
    bind (lift_then (member_name base key) (λ x. bind (get_safe id base x) (λ held.
    bind (update_safe (id + 1) (update_kind up) held) (λ v.
    bind (put_safe (id + 2) c.strict base x v.1) (λ done. ok v))))) (λ v. ok _)

pub assign_member_safe : (id : ℕ) (c : Context) (base key : Value) (o : Option BinOp) {e : Part (Answer Value)}
    → Safe e → Safe (assign_member id c base key o e)
assign_member_safe id c base key None y =
    lift_then (member_name base key) (λ x. bind y (λ v. bind (put_safe id c.strict base x v) (λ done. ok v)))
assign_member_safe id c base key (Some o) y =
    lift_then (member_name base key) (λ x. bind (get_safe id base x) (λ held. bind y (λ w.
    bind (operate_safe (id + 1) o held w) (λ v. bind (put_safe (id + 2) c.strict base x v) (λ done. ok v)))))

pub entry_safe : (object : ObjId) (x : Name) (change : Change) → Safe (define_entry object x change)
unfolding define_entry
entry_safe object x change = algorithm (define_own_property object x change)

-- CALLS
pub invoke_safe : (table : FunctionTable) (id : ℕ) (callee this : Value) (args : List Value) (by_new : Bool)
    → Safe (invoke table performs id callee this args by_new)
unfolding invoke
invoke_safe table id callee this args by_new =
    look_safe (λ s. lift_then (function_of by_new s.heap callee) (λ f.
    perform_safe (call_safe (record { callee = f; this = this; args = args; by_new = by_new }) (λ v.
    perform_safe (ok v)))))

pub call_value_safe : (table : FunctionTable) (id : ℕ) {callee : Part (Answer Value)} → Safe callee
    → {args : Part (Answer (List Value))} → Safe args → Safe (call_value table id callee args)
call_value_safe table id x y = bind x (λ f. bind y (λ vs. invoke_safe table id f value.Undefined vs false))

pub call_member_safe : (table : FunctionTable) (at id : ℕ) (base key : Value) {args : Part (Answer (List Value))}
    → Safe args → Safe (call_member table at id base key args)
call_member_safe table at id base key y =
    bind (read_member_safe at base key) (λ f. bind y (λ vs. invoke_safe table id f base vs false))
