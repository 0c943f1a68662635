-- Forms of expressions emit nothing: they leave no less than they take.
use Rattle.std.proofs.Common.{ℕ, suc, ◌+◌, List, Bool, false, Option, Some, None, arith}
use Rattle.jl_ast.specs.declared.ops.BinOp.{BinOp}
use Rattle.jl_value.specs.declared.ending.Fault.TheVariants.{Misuse}
use Rattle.jl_value.specs.declared.object.ObjId.{ObjId}
use Rattle.jl_value.specs.declared.value.Value.{Value}
use Rattle.jl_value.specs.declared.value.Value.TheVariants as value
use Rattle.jl_heap.specs.Define.{length_name}
use Rattle.jl_heap.specs.Objects.{Name}
use Rattle.jl_heap.specs.declared.property.Change.{Change}
use Rattle.jl_op.specs.declared.op.Op.{Op}
use Rattle.jl_op.specs.declared.sign.UnKind.{UnKind}
use Rattle.jl_op.specs.UnaryKinds.{update_kind}
use Rattle.jl_meaning.specs.Conversions.{to_number}
use Rattle.jl_meaning.specs.Defining.{define_own_property, value_change}
use Rattle.jl_meaning.specs.FunctionObjects.{whole, FunctionTable}
use Rattle.jl_meaning.specs.Getting.{get}
use Rattle.jl_meaning.specs.Noting.{note_or_misuse, performs}
use Rattle.jl_meaning.specs.Operators.{binary_result, give_next, unary_result}
use Rattle.jl_meaning.specs.Parts.{lift, ◌>>=◌, Algorithm, Answer, Context, Part}
use Rattle.jl_meaning.specs.Putting.{delete, put}
use Rattle.jl_meaning.specs.References.{delete_name, get_name, get_value, identifier_reference, put_value}
use Rattle.jl_meaning.specs.References.{type_of_name, Reference}
use Rattle.jl_meaning.specs.forms.Calls.{call_member, call_value, function_of, invoke}
use Rattle.jl_meaning.specs.forms.Literals.{define_entry, end_array, literal, literal_of, literal_op, of_array}
use Rattle.jl_meaning.specs.forms.Members.{assign_member, delete_member, get_member, member_name, put_member}
use Rattle.jl_meaning.specs.forms.Members.{read_member, update_expression, update_member}
use Rattle.jl_meaning.specs.forms.Names.{assign_name, compute_name, delete_identifier, is_hooks, read_name}
use Rattle.jl_meaning.specs.forms.Names.{read_reference, typeof_name, unless_hooks, update_name, write_name}
use Rattle.jl_meaning.specs.forms.Operators.{decide, decide_by, operate, operate_on, update}
use Rattle.jl_hook_bound.proofs.Relation.{algorithm, bind, call_paid, fails, look_paid, ok, perform_now, perform_paid, pick}
use Rattle.jl_hook_bound.proofs.Relation.{weaken, Paid}

pub lift_free : {A B : Type 0} (p : Algorithm A) {d : ℕ} {k : A → Part (Answer B)} → ((a : A) → Paid d d (k a))
    → Paid d d (lift p >>= k)
lift_free p f = bind (algorithm p) f

-- LITERALS
misuse_or : (id : ℕ) (v : Value) (o : Option Op) {d : ℕ} → Paid d d (note_or_misuse performs id v o)
misuse_or id v None = fails Misuse
misuse_or id v (Some o) = perform_now (ok v)

pub literal_free : (id : ℕ) (v : Value) {d : ℕ} → Paid d d (literal performs id v)
unfolding literal
literal_free id v = look_paid (λ s. misuse_or id v (literal_op s.heap v))

pub literal_of_free : (form : Option Op → Option Op) (id : ℕ) (v : Value) {d : ℕ} → Paid d d (literal_of form id v)
unfolding literal_of
literal_of_free form id v = look_paid (λ s. misuse_or id v (form (literal_op s.heap v)))

pub array_free : (id : ℕ) (array : ObjId) (n : ℕ) {d : ℕ} → Paid d d (end_array id array n)
unfolding end_array
array_free id array n =
    lift_free (define_own_property array length_name (value_change (whole n))) (λ done.
    literal_of_free of_array id (value.Obj array))

pub entry_free : (object : ObjId) (x : Name) (change : Change) {d : ℕ} → Paid d d (define_entry object x change)
unfolding define_entry
entry_free object x change = algorithm (define_own_property object x change)

-- OPERATORS
pub operate_free : (id : ℕ) (o : BinOp) (a b : Value) {d : ℕ} → Paid d d (operate performs id o a b)
unfolding operate
operate_free id o a b = lift_free (binary_result o a b) (λ v. perform_paid (ok v))

pub operate_on_free : (id : ℕ) (o : UnKind) (a : Value) {d : ℕ} → Paid d d (operate_on performs id o a)
unfolding operate_on
operate_on_free id o a = lift_free (unary_result o a) (λ v. perform_paid (ok v))

update_free : (id : ℕ) (o : UnKind) (a : Value) {d : ℕ} → Paid d d (update performs id o a)
unfolding update
update_free id o a = lift_free (to_number a) (λ n. lift_free (give_next o n) (λ v. perform_paid (ok (n, v))))

pub decide_free : (id : ℕ) (v : Value) {d : ℕ} → Paid d d (decide id v)
unfolding decide
decide_free id v = perform_paid (ok _)

pub decide_by_free : (id : ℕ) {e : Part (Answer Value)} {d : ℕ} → Paid d d e → Paid d d (decide_by id e)
decide_by_free id x = bind x (λ v. decide_free id v)

-- NAMES
pub unless_free : {A : Type 0} (x : Name) {p : Part A} {d : ℕ} → Paid d d p → Paid d d (unless_hooks x p)
unless_free x y = pick (is_hooks x) (fails Misuse) y

pub read_free : (id : ℕ) (c : Context) (x : Name) {d : ℕ} → Paid d d (read_name id c x)
unfolding read_name
read_free id c x = unless_free x (lift_free (get_name c.env x) (λ v. perform_paid (ok v)))

pub typeof_free : (id : ℕ) (c : Context) (x : Name) {d : ℕ} → Paid d d (typeof_name id c x)
unfolding typeof_name
typeof_free id c x = unless_free x (lift_free (type_of_name c.env x) (λ type. perform_paid (ok (value.Text type))))

pub deletion_free : (c : Context) (x : Name) {d : ℕ} → Paid d d (delete_identifier c x)
unfolding delete_identifier
deletion_free c x = unless_free x (lift_free (delete_name c.strict c.env x) (λ free. ok (value.Bool free)))

reference_free : (id : ℕ) (x : Name) (reference : Reference) {d : ℕ} → Paid d d (read_reference id x reference)
reference_free id x reference = lift_free (get_value x reference) (λ v. perform_paid (ok v))

write_free : (id : ℕ) (c : Context) (x : Name) (reference : Reference) (v : Value) {d : ℕ}
    → Paid d d (write_name id c x reference v)
write_free id c x reference v = perform_paid (algorithm (put_value c.strict x v reference))

pub assign_free : (id : ℕ) (c : Context) (x : Name) {e : Part (Answer Value)} {d : ℕ} → Paid d d e
    → Paid d d (assign_name id c x e)
assign_free id c x y =
    unless_free x (look_paid (λ s. bind y (λ v.
    bind (write_free id c x (identifier_reference s c.env x) v) (λ done. ok v))))

pub compute_free : (id : ℕ) (c : Context) (x : Name) (o : BinOp) {e : Part (Answer Value)} {d : ℕ} → Paid d d e
    → Paid d d (compute_name id c x o e)
compute_free id c x o y =
    unless_free x (look_paid (λ s. bind (reference_free id x (identifier_reference s c.env x)) (λ held.
    bind y (λ w. bind (operate_free (id + 1) o held w) (λ v.
    bind (write_free (id + 2) c x (identifier_reference s c.env x) v) (λ done. ok v))))))

pub update_name_free : (id : ℕ) (c : Context) (x : Name) (up prefix : Bool) {d : ℕ}
    → Paid d d (update_name id c x up prefix)
unfolding update_name
update_name_free id c x up prefix =
    unless_free x (look_paid (λ s. bind (reference_free id x (identifier_reference s c.env x)) (λ held.
    bind (update_free (id + 1) (update_kind up) held) (λ v.
    bind (write_free (id + 2) c x (identifier_reference s c.env x) v.1) (λ done. ok _)))))

-- MEMBERS
get_free : (id : ℕ) (base : Value) (x : Name) {d : ℕ} → Paid d d (get_member performs id base x)
unfolding get_member
get_free id base x = look_paid (λ s. lift_free (get base x) (λ v. perform_paid (ok v)))

put_free : (id : ℕ) (strict : Bool) (base : Value) (x : Name) (v : Value) {d : ℕ}
    → Paid d d (put_member performs id strict base x v)
unfolding put_member
put_free id strict base x v = look_paid (λ s. perform_paid (algorithm (put strict base x v)))

pub read_member_free : (id : ℕ) (base key : Value) {d : ℕ} → Paid d d (read_member id base key)
unfolding read_member
read_member_free id base key = lift_free (member_name base key) (λ x. get_free id base x)

pub delete_free : (id : ℕ) (strict : Bool) (base key : Value) {d : ℕ}
    → Paid d d (delete_member performs id strict base key)
unfolding delete_member
delete_free id strict base key =
    lift_free (member_name base key) (λ x. lift_free (delete strict base x) (λ free. perform_paid (ok (value.Bool free))))

pub update_expression_free : (id : ℕ) (c : Context) (base key : Value) (up prefix : Bool) {d : ℕ}
    → Paid d d (update_expression id c base key up prefix)
unfolding update_expression update_member
update_expression_free id c base key up prefix =
    bind (lift_free (member_name base key) (λ x. bind (get_free id base x) (λ held.
    bind (update_free (id + 1) (update_kind up) held) (λ v.
    bind (put_free (id + 2) c.strict base x v.1) (λ done. ok v))))) (λ v. ok _)

pub assign_member_free : (id : ℕ) (c : Context) (base key : Value) (o : Option BinOp) {e : Part (Answer Value)} {d : ℕ}
    → Paid d d e → Paid d d (assign_member id c base key o e)
assign_member_free id c base key None y =
    lift_free (member_name base key) (λ x. bind y (λ v. bind (put_free id c.strict base x v) (λ done. ok v)))
assign_member_free id c base key (Some o) y =
    lift_free (member_name base key) (λ x. bind (get_free id base x) (λ held. bind y (λ w.
    bind (operate_free (id + 1) o held w) (λ v. bind (put_free (id + 2) c.strict base x v) (λ done. ok v)))))

-- CALLS
pub invoke_free : (table : FunctionTable) (id : ℕ) (callee this : Value) (args : List Value) (by_new : Bool) {d : ℕ}
    → Paid d d (invoke table performs id callee this args by_new)
unfolding invoke
invoke_free table id callee this args by_new {d = d} =
    look_paid (λ s. lift_free (function_of by_new s.heap callee) (λ f.
    perform_paid (call_paid (record { callee = f; this = this; args = args; by_new = by_new }) (omega arith) (λ v.
    perform_paid (weaken (suc d) d (omega arith) (omega arith) (ok v {d = d}))))))

pub call_value_free : (table : FunctionTable) (id : ℕ) {callee : Part (Answer Value)} {d : ℕ} → Paid d d callee
    → {args : Part (Answer (List Value))} → Paid d d args → Paid d d (call_value table id callee args)
call_value_free table id x y = bind x (λ f. bind y (λ vs. invoke_free table id f value.Undefined vs false))

pub call_member_free : (table : FunctionTable) (at id : ℕ) (base key : Value) {args : Part (Answer (List Value))}
    {d : ℕ} → Paid d d args → Paid d d (call_member table at id base key args)
call_member_free table at id base key y =
    bind (read_member_free at base key) (λ f. bind y (λ vs. invoke_free table id f base vs false))
