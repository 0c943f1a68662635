-- Forms of expressions do the same with other ids, but for these.
use Rattle.std.proofs.Common.{ℕ, Bool, Option, Some, None}
use Rattle.jl_ast.specs.declared.ops.BinOp.{BinOp}
use Rattle.jl_value.specs.declared.object.ObjId.{ObjId}
use Rattle.jl_value.specs.declared.value.Value.{Value}
use Rattle.jl_heap.specs.Define.{length_name}
use Rattle.jl_heap.specs.Objects.{Name}
use Rattle.jl_heap.specs.declared.property.Change.{Change}
use Rattle.jl_op.specs.declared.op.Op.{Op}
use Rattle.jl_op.specs.declared.sign.UnKind.{UnKind}
use Rattle.jl_op.specs.UnaryKinds.{update_kind}
use Rattle.jl_meaning.specs.Conversions.{to_number}
use Rattle.jl_meaning.specs.Defining.{define_own_property, value_change}
use Rattle.jl_meaning.specs.FunctionObjects.{whole}
use Rattle.jl_meaning.specs.Getting.{get}
use Rattle.jl_meaning.specs.Noting.{note_or_misuse, performs}
use Rattle.jl_meaning.specs.Operators.{binary_result, give_next, unary_result}
use Rattle.jl_meaning.specs.Parts.{Answer, Context, Part}
use Rattle.jl_meaning.specs.Putting.{delete, put}
use Rattle.jl_meaning.specs.References.{delete_name, get_name, get_value, identifier_reference, put_value}
use Rattle.jl_meaning.specs.References.{type_of_name, Reference}
use Rattle.jl_meaning.specs.forms.Literals.{define_entry, end_array, literal, literal_of, literal_op, of_array}
use Rattle.jl_meaning.specs.forms.Members.{assign_member, delete_member, get_member, member_name, put_member}
use Rattle.jl_meaning.specs.forms.Members.{read_member, update_expression, update_member}
use Rattle.jl_meaning.specs.forms.Names.{assign_name, compute_name, delete_identifier, is_hooks, read_name}
use Rattle.jl_meaning.specs.forms.Names.{read_reference, typeof_name, unless_hooks, update_name, write_name}
use Rattle.jl_meaning.specs.forms.Operators.{decide, decide_by, operate, operate_on, update}
use Rattle.jl_operation_rows.proofs.Pairs.{ends, fails, looks}
use Rattle.jl_operation_rows.proofs.Renaming.{algorithm, bind, lift_then, perform, perform_now, pick, Renaming, Same}
use Rattle.jl_operation_rows.proofs.Renaming.{Twin, Twins}

module _ {r : Renaming} {i j : ℕ} (ids : Twins r i j) where
  -- LITERALS
  or_misuse : (v : Value) (o : Option Op) → Same r (note_or_misuse performs i v o) (note_or_misuse performs j v o)
  or_misuse v None = fails
  or_misuse v (Some o) = perform_now ids.first ends

  pub literal_same : (v : Value) → Same r (literal performs i v) (literal performs j v)
  unfolding literal
  literal_same v = looks (λ s. or_misuse v (literal_op s.heap v))

  pub literal_of_same : (form : Option Op → Option Op) (v : Value)
      → Same r (literal_of form i v) (literal_of form j v)
  unfolding literal_of
  literal_of_same form v = looks (λ s. or_misuse v (form (literal_op s.heap v)))

  pub end_array_same : (array : ObjId) (n : ℕ) → Same r (end_array i array n) (end_array j array n)
  unfolding end_array
  end_array_same array n =
      lift_then (define_own_property array length_name (value_change (whole n))) (λ done. literal_of_same of_array _)

  -- NAMES AND TESTS
  pub decide_same : (v : Value) → Same r (decide i v) (decide j v)
  unfolding decide
  decide_same v = perform ids.first ends

  pub decide_by_same : {e e' : Part (Answer Value)} → Same r e e' → Same r (decide_by i e) (decide_by j e')
  decide_by_same x = bind x (λ v. decide_same v)

pub unless_same : {r : Renaming} {A : Type 0} (x : Name) {p q : Part A} → Same r p q
    → Same r (unless_hooks x p) (unless_hooks x q)
unless_same x y = pick (is_hooks x) fails y

pub entry_same : {r : Renaming} (object : ObjId) (x : Name) (change : Change)
    → Same r (define_entry object x change) (define_entry object x change)
unfolding define_entry
entry_same object x change = algorithm (define_own_property object x change)

pub deletion_same : {r : Renaming} (c : Context) (x : Name) → Same r (delete_identifier c x) (delete_identifier c x)
unfolding delete_identifier
deletion_same c x = unless_same x (lift_then (delete_name c.strict c.env x) (λ free. ends))

-- with one id
module _ {r : Renaming} {i j : ℕ} where
  pub operate_same : Twin r i j → (o : BinOp) (a b : Value)
      → Same r (operate performs i o a b) (operate performs j o a b)
  unfolding operate
  operate_same h o a b = lift_then (binary_result o a b) (λ v. perform h ends)

  pub operate_on_same : Twin r i j → (o : UnKind) (a : Value)
      → Same r (operate_on performs i o a) (operate_on performs j o a)
  unfolding operate_on
  operate_on_same h o a = lift_then (unary_result o a) (λ v. perform h ends)

  update_same : Twin r i j → (o : UnKind) (a : Value) → Same r (update performs i o a) (update performs j o a)
  unfolding update
  update_same h o a = lift_then (to_number a) (λ n. lift_then (give_next o n) (λ v. perform h ends))

  pub read_same : Twin r i j → (c : Context) (x : Name) → Same r (read_name i c x) (read_name j c x)
  unfolding read_name
  read_same h c x = unless_same x (lift_then (get_name c.env x) (λ v. perform h ends))

  pub typeof_same : Twin r i j → (c : Context) (x : Name) → Same r (typeof_name i c x) (typeof_name j c x)
  unfolding typeof_name
  typeof_same h c x = unless_same x (lift_then (type_of_name c.env x) (λ v. perform h ends))

  reference_same : Twin r i j → (x : Name) (reference : Reference)
      → Same r (read_reference i x reference) (read_reference j x reference)
  reference_same h x reference = lift_then (get_value x reference) (λ v. perform h ends)

  write_same : Twin r i j → (c : Context) (x : Name) (reference : Reference) (v : Value)
      → Same r (write_name i c x reference v) (write_name j c x reference v)
  write_same h c x reference v = perform h (algorithm (put_value c.strict x v reference))

  pub assign_same : Twin r i j → (c : Context) (x : Name) {e e' : Part (Answer Value)} → Same r e e'
      → Same r (assign_name i c x e) (assign_name j c x e')
  assign_same h c x y =
      unless_same x (looks (λ s. bind y (λ v.
      bind (write_same h c x (identifier_reference s c.env x) v) (λ done. ends))))

  get_same : Twin r i j → (base : Value) (x : Name)
      → Same r (get_member performs i base x) (get_member performs j base x)
  unfolding get_member
  get_same h base x = looks (λ s. lift_then (get base x) (λ v. perform h ends))

  put_same : Twin r i j → (strict : Bool) (base : Value) (x : Name) (v : Value)
      → Same r (put_member performs i strict base x v) (put_member performs j strict base x v)
  unfolding put_member
  put_same h strict base x v = looks (λ s. perform h (algorithm (put strict base x v)))

  pub read_member_same : Twin r i j → (base key : Value)
      → Same r (read_member i base key) (read_member j base key)
  unfolding read_member
  read_member_same h base key = lift_then (member_name base key) (λ x. get_same h base x)

  pub delete_same : Twin r i j → (strict : Bool) (base key : Value)
      → Same r (delete_member performs i strict base key) (delete_member performs j strict base key)
  unfolding delete_member
  delete_same h strict base key =
      lift_then (member_name base key) (λ x. lift_then (delete strict base x) (λ free. perform h ends))

-- with more
module _ {r : Renaming} {i j : ℕ} (ids : Twins r i j) where
  pub compute_same : (c : Context) (x : Name) (o : BinOp) {e e' : Part (Answer Value)} → Same r e e'
      → Same r (compute_name i c x o e) (compute_name j c x o e')
  compute_same c x o y =
      unless_same x (looks (λ s. bind (reference_same ids.first x (identifier_reference s c.env x)) (λ held.
      bind y (λ w. bind (operate_same ids.second o held w) (λ v.
      bind (write_same ids.third c x (identifier_reference s c.env x) v) (λ done. ends))))))

  pub update_name_same : (c : Context) (x : Name) (up prefix : Bool)
      → Same r (update_name i c x up prefix) (update_name j c x up prefix)
  unfolding update_name
  update_name_same c x up prefix =
      unless_same x (looks (λ s. bind (reference_same ids.first x (identifier_reference s c.env x)) (λ held.
      bind (update_same ids.second (update_kind up) held) (λ v.
      bind (write_same ids.third c x (identifier_reference s c.env x) v.1) (λ done. ends)))))

  pub update_expression_same : (c : Context) (base key : Value) (up prefix : Bool)
      → Same r (update_expression i c base key up prefix) (update_expression j c base key up prefix)
  unfolding update_expression update_member
  update_expression_same c base key up prefix =
      bind (lift_then (member_name base key) (λ x. bind (get_same ids.first base x) (λ held.
      bind (update_same ids.second (update_kind up) held) (λ v.
      bind (put_same ids.third c.strict base x v.1) (λ done. ends))))) (λ v. ends)

  pub assign_member_same : (c : Context) (base key : Value) (o : Option BinOp) {e e' : Part (Answer Value)}
      → Same r e e' → Same r (assign_member i c base key o e) (assign_member j c base key o e')
  assign_member_same c base key None y =
      lift_then (member_name base key) (λ x. bind y (λ v.
      bind (put_same ids.first c.strict base x v) (λ done. ends)))
  assign_member_same c base key (Some o) y =
      lift_then (member_name base key) (λ x. bind (get_same ids.first base x) (λ held. bind y (λ w.
      bind (operate_same ids.second o held w) (λ v. bind (put_same ids.third c.strict base x v) (λ done. ends)))))
