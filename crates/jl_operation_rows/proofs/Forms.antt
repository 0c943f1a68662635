-- Forms of expressions perform the operations of their own rows.
use Rattle.std.proofs.Common.{ℕ, ◌+◌, ◌∷◌, List, Bool, false, Option, Some, None}
use Rattle.jl_num.specs.Number.{Number}
use Rattle.jl_ast.specs.declared.ops.BinOp.{BinOp}
use Rattle.jl_ast.specs.Tree.{Text}
use Rattle.jl_value.specs.declared.ending.Fault.TheVariants.{Misuse}
use Rattle.jl_value.specs.declared.object.ObjId.{ObjId}
use Rattle.jl_value.specs.declared.value.Value.{Value}
use Rattle.jl_value.specs.declared.value.Value.TheVariants as value
use Rattle.jl_heap.specs.Define.{length_name}
use Rattle.jl_heap.specs.Objects.{Name}
use Rattle.jl_heap.specs.declared.property.Change.{Change}
use Rattle.jl_op.specs.IdMap.{MapEntry}
use Rattle.jl_op.specs.declared.kind.OpKind.TheVariants as kind
use Rattle.jl_op.specs.declared.op.Op.{Op}
use Rattle.jl_op.specs.declared.op.Op.TheVariants as op
use Rattle.jl_op.specs.declared.sign.UnKind.{UnKind}
use Rattle.jl_op.specs.UnaryKinds.{update_kind}
use Rattle.jl_meaning.specs.Conversions.{to_number}
use Rattle.jl_meaning.specs.Defining.{define_own_property, value_change}
use Rattle.jl_meaning.specs.FunctionObjects.{whole, FunctionTable}
use Rattle.jl_meaning.specs.Getting.{get}
use Rattle.jl_meaning.specs.Noting.{note_or_misuse, performs}
use Rattle.jl_meaning.specs.Operators.{binary_result, give_next, unary_result}
use Rattle.jl_meaning.specs.Parts.{Answer, Context, Part}
use Rattle.jl_meaning.specs.Putting.{delete, put}
use Rattle.jl_meaning.specs.References.{delete_name, get_name, get_value, identifier_reference, put_value}
use Rattle.jl_meaning.specs.References.{type_of_name, Reference}
use Rattle.jl_meaning.specs.forms.Calls.{call_member, call_value, function_of, invoke}
use Rattle.jl_meaning.specs.forms.Literals.{define_entry, end_array, literal, literal_of, literal_op, of_array}
use Rattle.jl_meaning.specs.forms.Literals.{of_function, of_object}
use Rattle.jl_meaning.specs.forms.Members.{assign_member, delete_member, get_member, member_name, put_member}
use Rattle.jl_meaning.specs.forms.Members.{read_member, update_expression, update_member}
use Rattle.jl_meaning.specs.forms.Names.{assign_name, compute_name, delete_identifier, is_hooks, read_name}
use Rattle.jl_meaning.specs.forms.Names.{read_reference, typeof_name, unless_hooks, update_name, write_name}
use Rattle.jl_meaning.specs.forms.Operators.{decide, decide_by, operate, operate_on, update}
use Rattle.jl_operation_rows.proofs.Relation.{algorithm, bind, call_told, fails, lift_then, look_told, ok, perform_now}
use Rattle.jl_operation_rows.proofs.Relation.{perform_told, pick, Told}
use Rattle.jl_operation_rows.proofs.Seeing.{all_seen, one_seen, three_seen, two_seen}

module _ {IsRow : MapEntry ℕ → Type 0} where
  -- LITERALS
  pub number_told : (id : ℕ) (m : Number) → IsRow (kind.Literal, id) → Told IsRow (literal performs id (value.Num m))
  unfolding literal
  number_told id m h = look_told (λ s. perform_now (h, one_seen s.heap (value.Num m)) (ok (value.Num m)))

  pub string_told : (id : ℕ) (t : Text) → IsRow (kind.Literal, id) → Told IsRow (literal performs id (value.Text t))
  unfolding literal
  string_told id t h = look_told (λ s. perform_now (h, one_seen s.heap (value.Text t)) (ok (value.Text t)))

  pub boolean_told : (id : ℕ) (b : Bool) → IsRow (kind.Literal, id) → Told IsRow (literal performs id (value.Bool b))
  unfolding literal
  boolean_told id b h = look_told (λ s. perform_now (h, one_seen s.heap (value.Bool b)) (ok (value.Bool b)))

  pub null_told : (id : ℕ) → IsRow (kind.Literal, id) → Told IsRow (literal performs id value.Null)
  unfolding literal
  null_told id h = look_told (λ s. perform_now (h, one_seen s.heap value.Null) (ok value.Null))

  -- what has made an array, an object or a function
  array_noted : (id : ℕ) (v : Value) (o : Option Op) → IsRow (kind.ArrayLiteral, id)
      → Told IsRow (note_or_misuse performs id v (of_array o))
  array_noted id v (Some (op.ArrayLiteral object)) h = perform_now (h, tt) (ok v)
  array_noted id v (Some _) h = fails Misuse
  array_noted id v None h = fails Misuse

  object_noted : (id : ℕ) (v : Value) (o : Option Op) → IsRow (kind.ObjectLiteral, id)
      → Told IsRow (note_or_misuse performs id v (of_object o))
  object_noted id v (Some (op.ObjectLiteral object)) h = perform_now (h, tt) (ok v)
  object_noted id v (Some _) h = fails Misuse
  object_noted id v None h = fails Misuse

  function_noted : (id : ℕ) (v : Value) (o : Option Op) → IsRow (kind.FunctionLiteral, id)
      → Told IsRow (note_or_misuse performs id v (of_function o))
  function_noted id v (Some (op.FunctionLiteral object number)) h = perform_now (h, tt) (ok v)
  function_noted id v (Some _) h = fails Misuse
  function_noted id v None h = fails Misuse

  pub array_told : (id : ℕ) (array : ObjId) (n : ℕ) → IsRow (kind.ArrayLiteral, id) → Told IsRow (end_array id array n)
  unfolding end_array literal_of
  array_told id array n h =
      lift_then (define_own_property array length_name (value_change (whole n))) (λ done.
      look_told (λ s. array_noted id (value.Obj array) (literal_op s.heap (value.Obj array)) h))

  pub object_told : (id : ℕ) (object : ObjId) → IsRow (kind.ObjectLiteral, id)
      → Told IsRow (literal_of of_object id (value.Obj object))
  unfolding literal_of
  object_told id object h =
      look_told (λ s. object_noted id (value.Obj object) (literal_op s.heap (value.Obj object)) h)

  pub function_told : (id : ℕ) (object : ObjId) → IsRow (kind.FunctionLiteral, id)
      → Told IsRow (literal_of of_function id (value.Obj object))
  unfolding literal_of
  function_told id object h =
      look_told (λ s. function_noted id (value.Obj object) (literal_op s.heap (value.Obj object)) h)

  pub entry_told : (object : ObjId) (x : Name) (change : Change) → Told IsRow (define_entry object x change)
  unfolding define_entry
  entry_told object x change = algorithm (define_own_property object x change)

  -- OPERATORS
  pub operate_told : (id : ℕ) (o : BinOp) (a b : Value) → IsRow (kind.Binary, id)
      → Told IsRow (operate performs id o a b)
  unfolding operate
  operate_told id o a b h =
      lift_then (binary_result o a b) (λ v. perform_told (λ s. (h, three_seen s.heap a b v)) (ok v))

  pub operate_on_told : (id : ℕ) (o : UnKind) (a : Value) → IsRow (kind.Unary, id)
      → Told IsRow (operate_on performs id o a)
  unfolding operate_on
  operate_on_told id o a h =
      lift_then (unary_result o a) (λ v. perform_told (λ s. (h, two_seen s.heap a v)) (ok v))

  update_told : (id : ℕ) (o : UnKind) (a : Value) → IsRow (kind.Unary, id) → Told IsRow (update performs id o a)
  unfolding update
  update_told id o a h =
      lift_then (to_number a) (λ n. lift_then (give_next o n) (λ v.
      perform_told (λ s. (h, two_seen s.heap a v)) (ok (n, v))))

  pub decide_told : (id : ℕ) (v : Value) → IsRow (kind.Conditional, id) → Told IsRow (decide id v)
  unfolding decide
  decide_told id v h = perform_told (λ s. (h, one_seen s.heap v)) (ok _)

  pub decide_by_told : (id : ℕ) {e : Part (Answer Value)} → IsRow (kind.Conditional, id) → Told IsRow e
      → Told IsRow (decide_by id e)
  decide_by_told id h x = bind x (λ v. decide_told id v h)

  -- NAMES
  pub unless_told : {A : Type 0} (x : Name) {p : Part A} → Told IsRow p → Told IsRow (unless_hooks x p)
  unless_told x y = pick (is_hooks x) (fails Misuse) y

  pub read_told : (id : ℕ) (c : Context) (x : Name) → IsRow (kind.Read, id) → Told IsRow (read_name id c x)
  unfolding read_name
  read_told id c x h =
      unless_told x (lift_then (get_name c.env x) (λ v. perform_told (λ s. (h, one_seen s.heap v)) (ok v)))

  pub typeof_told : (id : ℕ) (c : Context) (x : Name) → IsRow (kind.TypeofName, id) → Told IsRow (typeof_name id c x)
  unfolding typeof_name
  typeof_told id c x h =
      unless_told x (lift_then (type_of_name c.env x) (λ type. perform_told (λ s. (h, tt)) (ok (value.Text type))))

  pub deletion_told : (c : Context) (x : Name) → Told IsRow (delete_identifier c x)
  unfolding delete_identifier
  deletion_told c x = unless_told x (lift_then (delete_name c.strict c.env x) (λ free. ok (value.Bool free)))

  reference_told : (id : ℕ) (x : Name) (reference : Reference) → IsRow (kind.Read, id)
      → Told IsRow (read_reference id x reference)
  reference_told id x reference h =
      lift_then (get_value x reference) (λ v. perform_told (λ s. (h, one_seen s.heap v)) (ok v))

  write_told : (id : ℕ) (c : Context) (x : Name) (reference : Reference) (v : Value) → IsRow (kind.Write, id)
      → Told IsRow (write_name id c x reference v)
  write_told id c x reference v h =
      perform_told (λ s. (h, one_seen s.heap v)) (algorithm (put_value c.strict x v reference))

  pub assign_told : (id : ℕ) (c : Context) (x : Name) {e : Part (Answer Value)} → IsRow (kind.Write, id)
      → Told IsRow e → Told IsRow (assign_name id c x e)
  assign_told id c x h y =
      unless_told x (look_told (λ s. bind y (λ v.
      bind (write_told id c x (identifier_reference s c.env x) v h) (λ done. ok v))))

  pub compute_told : (id : ℕ) (c : Context) (x : Name) (o : BinOp) {e : Part (Answer Value)} → IsRow (kind.Read, id)
      → IsRow (kind.Binary, id + 1) → IsRow (kind.Write, id + 2) → Told IsRow e
      → Told IsRow (compute_name id c x o e)
  compute_told id c x o h i j y =
      unless_told x (look_told (λ s. bind (reference_told id x (identifier_reference s c.env x) h) (λ held.
      bind y (λ w. bind (operate_told (id + 1) o held w i) (λ v.
      bind (write_told (id + 2) c x (identifier_reference s c.env x) v j) (λ done. ok v))))))

  pub update_name_told : (id : ℕ) (c : Context) (x : Name) (up prefix : Bool) → IsRow (kind.Read, id)
      → IsRow (kind.Unary, id + 1) → IsRow (kind.Write, id + 2) → Told IsRow (update_name id c x up prefix)
  unfolding update_name
  update_name_told id c x up prefix h i j =
      unless_told x (look_told (λ s. bind (reference_told id x (identifier_reference s c.env x) h) (λ held.
      bind (update_told (id + 1) (update_kind up) held i) (λ v.
      bind (write_told (id + 2) c x (identifier_reference s c.env x) v.1 j) (λ done. ok _)))))

  -- MEMBERS
  get_told : (id : ℕ) (base : Value) (x : Name) → IsRow (kind.GetField, id)
      → Told IsRow (get_member performs id base x)
  unfolding get_member
  get_told id base x h =
      look_told (λ s. lift_then (get base x) (λ v. perform_told (λ t. (h, two_seen t.heap base v)) (ok v)))

  put_told : (id : ℕ) (strict : Bool) (base : Value) (x : Name) (v : Value) → IsRow (kind.PutField, id)
      → Told IsRow (put_member performs id strict base x v)
  unfolding put_member
  put_told id strict base x v h =
      look_told (λ s. perform_told (λ t. (h, two_seen t.heap base v)) (algorithm (put strict base x v)))

  pub read_member_told : (id : ℕ) (base key : Value) → IsRow (kind.GetField, id)
      → Told IsRow (read_member id base key)
  unfolding read_member
  read_member_told id base key h = lift_then (member_name base key) (λ x. get_told id base x h)

  pub delete_told : (id : ℕ) (strict : Bool) (base key : Value) → IsRow (kind.DeleteField, id)
      → Told IsRow (delete_member performs id strict base key)
  unfolding delete_member
  delete_told id strict base key h =
      lift_then (member_name base key) (λ x. lift_then (delete strict base x) (λ free.
      perform_told (λ s. (h, one_seen s.heap base)) (ok (value.Bool free))))

  pub update_expression_told : (id : ℕ) (c : Context) (base key : Value) (up prefix : Bool)
      → IsRow (kind.GetField, id) → IsRow (kind.Unary, id + 1) → IsRow (kind.PutField, id + 2)
      → Told IsRow (update_expression id c base key up prefix)
  unfolding update_expression update_member
  update_expression_told id c base key up prefix h i j =
      bind (lift_then (member_name base key) (λ x. bind (get_told id base x h) (λ held.
      bind (update_told (id + 1) (update_kind up) held i) (λ v.
      bind (put_told (id + 2) c.strict base x v.1 j) (λ done. ok v))))) (λ v. ok _)

  pub put_member_told : (id : ℕ) (c : Context) (base key : Value) {e : Part (Answer Value)}
      → IsRow (kind.PutField, id) → Told IsRow e → Told IsRow (assign_member id c base key None e)
  put_member_told id c base key h y =
      lift_then (member_name base key) (λ x. bind y (λ v. bind (put_told id c.strict base x v h) (λ done. ok v)))

  pub compute_member_told : (id : ℕ) (c : Context) (base key : Value) (o : BinOp) {e : Part (Answer Value)}
      → IsRow (kind.GetField, id) → IsRow (kind.Binary, id + 1) → IsRow (kind.PutField, id + 2) → Told IsRow e
      → Told IsRow (assign_member id c base key (Some o) e)
  compute_member_told id c base key o h i j y =
      lift_then (member_name base key) (λ x. bind (get_told id base x h) (λ held. bind y (λ w.
      bind (operate_told (id + 1) o held w i) (λ v. bind (put_told (id + 2) c.strict base x v j) (λ done. ok v)))))

  -- CALLS
  pub invoke_told : (table : FunctionTable) (id : ℕ) (callee this : Value) (args : List Value) (by_new : Bool)
      → IsRow (kind.InvokePre, id) → IsRow (kind.InvokePost, id + 1)
      → Told IsRow (invoke table performs id callee this args by_new)
  unfolding invoke
  invoke_told table id callee this args by_new h i =
      look_told (λ s. lift_then (function_of by_new s.heap callee) (λ f.
      perform_told (λ t. (h, all_seen t.heap (this ∷ args)))
      (call_told (record { callee = f; this = this; args = args; by_new = by_new }) (λ v.
      perform_told (λ t. (i, one_seen t.heap v)) (ok v)))))

  pub call_value_told : (table : FunctionTable) (id : ℕ) {callee : Part (Answer Value)} → IsRow (kind.InvokePre, id)
      → IsRow (kind.InvokePost, id + 1) → Told IsRow callee → {args : Part (Answer (List Value))} → Told IsRow args
      → Told IsRow (call_value table id callee args)
  call_value_told table id h i x y =
      bind x (λ f. bind y (λ vs. invoke_told table id f value.Undefined vs false h i))

  pub call_member_told : (table : FunctionTable) (at id : ℕ) (base key : Value) {args : Part (Answer (List Value))}
      → IsRow (kind.GetField, at) → IsRow (kind.InvokePre, id) → IsRow (kind.InvokePost, id + 1) → Told IsRow args
      → Told IsRow (call_member table at id base key args)
  call_member_told table at id base key g h i y =
      bind (read_member_told at base key g) (λ f. bind y (λ vs. invoke_told table id f base vs false h i))
