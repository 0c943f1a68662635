-- Forms do the same with any ids, but for what they perform.
use Rattle.std.proofs.Common.{ℕ, ◌+◌, Bool, Option, Some, None, refl}
use Rattle.jl_ast.specs.declared.ops.BinOp.{BinOp}
use Rattle.jl_value.specs.declared.ending.Fault.TheVariants.{Misuse}
use Rattle.jl_value.specs.declared.object.ObjId.{ObjId}
use Rattle.jl_value.specs.declared.value.Value.{Value}
use Rattle.jl_heap.specs.Define.{length_name}
use Rattle.jl_heap.specs.Objects.{Name}
use Rattle.jl_op.specs.declared.op.Op.{Op}
use Rattle.jl_op.specs.declared.sign.UnKind.{UnKind}
use Rattle.jl_op.specs.UnaryKinds.{update_kind}
use Rattle.jl_effects.specs.Effects.{Fail}
use Rattle.jl_meaning.specs.Conversions.{to_number}
use Rattle.jl_meaning.specs.Defining.{define_own_property, value_change}
use Rattle.jl_meaning.specs.FunctionObjects.{whole}
use Rattle.jl_meaning.specs.Getting.{get}
use Rattle.jl_meaning.specs.Noting.{note_or_misuse, performs}
use Rattle.jl_meaning.specs.Operators.{binary_result, give_next, unary_result}
use Rattle.jl_meaning.specs.Parts.{Answer, Context, Part}
use Rattle.jl_meaning.specs.Putting.{delete}
use Rattle.jl_meaning.specs.References.{get_name, get_value, identifier_reference, type_of_name, Reference}
use Rattle.jl_meaning.specs.forms.Literals.{end_array, literal, literal_of, literal_op, of_array}
use Rattle.jl_meaning.specs.forms.Members.{assign_member, delete_member, get_member, member_name, put_member}
use Rattle.jl_meaning.specs.forms.Members.{read_member}
use Rattle.jl_meaning.specs.forms.Members.{update_expression, update_member}
use Rattle.jl_meaning.specs.forms.Names.{assign_name, compute_name, is_hooks, read_name, read_reference, typeof_name}
use Rattle.jl_meaning.specs.forms.Names.{unless_hooks, update_name}
use Rattle.jl_meaning.specs.forms.Operators.{decide, decide_by, operate, operate_on, update}
use Rattle.jl_quiet.proofs.Relation.{bind, itself, lift_alike, look_alike, pick, Alike}

-- LITERALS
or_misuse_alike : (id id' : ℕ) (v : Value) (o : Option Op)
    → Alike (note_or_misuse performs id v o) (note_or_misuse performs id' v o)
or_misuse_alike id id' v None = record { same = refl }
or_misuse_alike id id' v (Some o) = record { same = refl }

pub literal_alike : (id id' : ℕ) (v : Value) → Alike (literal performs id v) (literal performs id' v)
unfolding literal
literal_alike id id' v = look_alike (λ s. or_misuse_alike id id' v (literal_op s.heap v))

pub literal_of_alike : (form : Option Op → Option Op) (id id' : ℕ) (v : Value)
    → Alike (literal_of form id v) (literal_of form id' v)
unfolding literal_of
literal_of_alike form id id' v = look_alike (λ s. or_misuse_alike id id' v (form (literal_op s.heap v)))

pub end_array_alike : (id id' : ℕ) (array : ObjId) (n : ℕ) → Alike (end_array id array n) (end_array id' array n)
unfolding end_array
end_array_alike id id' array n =
    lift_alike (define_own_property array length_name (value_change (whole n)))
    (λ done. literal_of_alike of_array id id' _)

-- OPERATORS
pub operate_alike : (id id' : ℕ) (o : BinOp) (a b : Value)
    → Alike (operate performs id o a b) (operate performs id' o a b)
unfolding operate
operate_alike id id' o a b = lift_alike (binary_result o a b) (λ v. record { same = refl })

pub operate_on_alike : (id id' : ℕ) (o : UnKind) (a : Value)
    → Alike (operate_on performs id o a) (operate_on performs id' o a)
unfolding operate_on
operate_on_alike id id' o a = lift_alike (unary_result o a) (λ v. record { same = refl })

pub update_alike : (id id' : ℕ) (o : UnKind) (a : Value) → Alike (update performs id o a) (update performs id' o a)
unfolding update
update_alike id id' o a =
    lift_alike (to_number a) (λ n. lift_alike (give_next o n) (λ v. record { same = refl }))

pub decide_alike : (id id' : ℕ) (v : Value) → Alike (decide id v) (decide id' v)
unfolding decide
decide_alike id id' v = record { same = refl }

pub decide_by_alike : (id id' : ℕ) {e e' : Part (Answer Value)} → Alike e e'
    → Alike (decide_by id e) (decide_by id' e')
decide_by_alike id id' x = bind x (λ v. decide_alike id id' v)

-- NAMES
unless_alike : {A : Type 0} (x : Name) {p q : Part A} → Alike p q → Alike (unless_hooks x p) (unless_hooks x q)
unless_alike x y = pick (is_hooks x) (itself (Fail Misuse)) y

pub read_alike : (id id' : ℕ) (c : Context) (x : Name) → Alike (read_name id c x) (read_name id' c x)
unfolding read_name
read_alike id id' c x = unless_alike x (lift_alike (get_name c.env x) (λ v. record { same = refl }))

pub typeof_alike : (id id' : ℕ) (c : Context) (x : Name) → Alike (typeof_name id c x) (typeof_name id' c x)
unfolding typeof_name
typeof_alike id id' c x = unless_alike x (lift_alike (type_of_name c.env x) (λ v. record { same = refl }))

reference_alike : (id id' : ℕ) (x : Name) (reference : Reference)
    → Alike (read_reference id x reference) (read_reference id' x reference)
reference_alike id id' x reference = lift_alike (get_value x reference) (λ v. record { same = refl })

pub assign_name_alike : (id id' : ℕ) (c : Context) (x : Name) {e e' : Part (Answer Value)} → Alike e e'
    → Alike (assign_name id c x e) (assign_name id' c x e')
assign_name_alike id id' c x y = unless_alike x (look_alike (λ s. bind y (λ v. record { same = refl })))

pub compute_name_alike : (id id' : ℕ) (c : Context) (x : Name) (o : BinOp) {e e' : Part (Answer Value)} → Alike e e'
    → Alike (compute_name id c x o e) (compute_name id' c x o e')
compute_name_alike id id' c x o y =
    unless_alike x (look_alike (λ s. bind (reference_alike id id' x (identifier_reference s c.env x)) (λ held.
    bind y (λ w. bind (operate_alike (id + 1) (id' + 1) o held w) (λ v. record { same = refl })))))

pub update_name_alike : (id id' : ℕ) (c : Context) (x : Name) (up prefix : Bool)
    → Alike (update_name id c x up prefix) (update_name id' c x up prefix)
unfolding update_name
update_name_alike id id' c x up prefix =
    unless_alike x (look_alike (λ s. bind (reference_alike id id' x (identifier_reference s c.env x)) (λ held.
    bind (update_alike (id + 1) (id' + 1) (update_kind up) held) (λ v. record { same = refl }))))

-- MEMBERS
get_alike : (id id' : ℕ) (base : Value) (x : Name)
    → Alike (get_member performs id base x) (get_member performs id' base x)
unfolding get_member
get_alike id id' base x = look_alike (λ s. lift_alike (get base x) (λ v. record { same = refl }))

put_alike : (id id' : ℕ) (strict : Bool) (base : Value) (x : Name) (v : Value)
    → Alike (put_member performs id strict base x v) (put_member performs id' strict base x v)
unfolding put_member
put_alike id id' strict base x v = record { same = refl }

pub read_member_alike : (id id' : ℕ) (base key : Value) → Alike (read_member id base key) (read_member id' base key)
unfolding read_member
read_member_alike id id' base key = lift_alike (member_name base key) (λ x. get_alike id id' base x)

pub delete_alike : (id id' : ℕ) (strict : Bool) (base key : Value)
    → Alike (delete_member performs id strict base key) (delete_member performs id' strict base key)
unfolding delete_member
delete_alike id id' strict base key =
    lift_alike (member_name base key) (λ x. lift_alike (delete strict base x) (λ free. record { same = refl }))

pub update_expression_alike : (id id' : ℕ) (c : Context) (base key : Value) (up prefix : Bool)
    → Alike (update_expression id c base key up prefix) (update_expression id' c base key up prefix)
unfolding update_expression update_member
update_expression_alike id id' c base key up prefix =
    bind (lift_alike (member_name base key) (λ x. bind (get_alike id id' base x) (λ held.
    bind (update_alike (id + 1) (id' + 1) (update_kind up) held) (λ v.
    bind (put_alike (id + 2) (id' + 2) c.strict base x v.1) (λ done. itself _))))) (λ v. itself _)

pub assign_member_alike : (id id' : ℕ) (c : Context) (base key : Value) (o : Option BinOp)
    {e e' : Part (Answer Value)} → Alike e e'
    → Alike (assign_member id c base key o e) (assign_member id' c base key o e')
assign_member_alike id id' c base key None y =
    lift_alike (member_name base key) (λ x. bind y (λ v. bind (put_alike id id' c.strict base x v) (λ done. itself _)))
assign_member_alike id id' c base key (Some o) y =
    lift_alike (member_name base key) (λ x. bind (get_alike id id' base x) (λ held. bind y (λ w.
    bind (operate_alike (id + 1) (id' + 1) o held w) (λ v.
    bind (put_alike (id + 2) (id' + 2) c.strict base x v) (λ done. itself _)))))
