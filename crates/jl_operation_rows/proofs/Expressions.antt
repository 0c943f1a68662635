-- Expressions perform the operations of their rows.
use Rattle.std.proofs.Common.{ℕ, zero, suc, ◌+◌, ◌++◌, List, [], ◌∷◌, Bool, true, Option, Some, None}
use Rattle.jl_ast.specs.Tree as tree
use Rattle.jl_ast.specs.Tree.{Forest, Tree}
use Rattle.jl_ast.specs.declared.ops.BinOp.{BinOp}
use Rattle.jl_ast.specs.declared.ops.UnOp.TheVariants as un
use Rattle.jl_value.specs.declared.object.ObjId.{ObjId}
use Rattle.jl_value.specs.declared.value.Value.{Value}
use Rattle.jl_value.specs.declared.value.Value.TheVariants as value
use Rattle.jl_op.specs.IdMap.{assign_entries, call_entries, compute_entries, unary_entries, MapEntry}
use Rattle.jl_op.specs.declared.kind.OpKind.TheVariants as kind
use Rattle.jl_op.specs.declared.sign.UnKind.TheVariants as unary
use Rattle.jl_op.specs.UnaryKinds.{unary_kind}
use Rattle.jl_meaning.specs.Defining.{plain_change}
use Rattle.jl_meaning.specs.Expressions.{equip, equip_one, evaluate, evaluate_all, evaluate_assignment, evaluate_call}
use Rattle.jl_meaning.specs.Expressions.{evaluate_delete, evaluate_typeof, evaluate_update, fill, fill_one, this_of}
use Rattle.jl_meaning.specs.FunctionObjects.{make_function, make_function_expression, FunctionTable}
use Rattle.jl_meaning.specs.Parts.{Answer, Context, Expr, Exprs, Part}
use Rattle.jl_meaning.specs.forms.HookCalls.{count, form_of, form_of_member}
use Rattle.jl_meaning.specs.forms.Hooks.{Arguments}
use Rattle.jl_meaning.specs.forms.Literals.{accessor_change, new_array, new_plain_object, put_element}
use Rattle.jl_operation_rows.proofs.Forms.{array_told, assign_told, boolean_told, call_member_told, call_value_told}
use Rattle.jl_operation_rows.proofs.Forms.{compute_member_told, compute_told, decide_told, delete_told, deletion_told}
use Rattle.jl_operation_rows.proofs.Forms.{entry_told}
use Rattle.jl_operation_rows.proofs.Forms.{function_told, invoke_told, null_told, number_told, object_told}
use Rattle.jl_operation_rows.proofs.Forms.{operate_on_told}
use Rattle.jl_operation_rows.proofs.Forms.{operate_told, put_member_told, read_member_told, read_told, string_told}
use Rattle.jl_operation_rows.proofs.Forms.{typeof_told}
use Rattle.jl_operation_rows.proofs.Forms.{update_expression_told, update_name_told}
use Rattle.jl_operation_rows.proofs.Hooks.{by_form, of_call}
use Rattle.jl_operation_rows.proofs.Relation.{algorithm, bind, by_id, lift_then, ok, pick, step_told, AllRows, Rows}
use Rattle.jl_operation_rows.proofs.Relation.{Told}
use Rattle.jl_operation_rows.proofs.Splitting.{callee_rows, of, of_all, split}
use Rattle.jl_effects.proofs.Tells.{Each}

module _ (IsRow : MapEntry ℕ → Type 0) (table : FunctionTable) where
  type_told : (e : Expr) (id : ℕ) (c : Context) {p : Part (Answer Value)}
      → Each IsRow (unary_entries by_id un.Typeof e id (of e)) → (Rows IsRow e → Told IsRow p)
      → Told IsRow (evaluate_typeof table e p id c)
  type_told (tree.name x at) id c h y = typeof_told id c x h.0
  type_told e id c h y = bind (y h.1) (λ v. operate_on_told id unary.Typeof v h.0)

  mutual
    pub evaluate_told : (e : Expr) → Rows IsRow e → (c : Context) → Told IsRow (evaluate table e c)
    evaluate_told (tree.this id) h c = step_told (ok (this_of c))
    evaluate_told (tree.name x id) h c = step_told (read_told id c x h.0)
    evaluate_told (tree.number m id) h c = step_told (number_told id m h.0)
    evaluate_told (tree.string t id) h c = step_told (string_told id t h.0)
    evaluate_told (tree.boolean b id) h c = step_told (boolean_told id b h.0)
    evaluate_told (tree.null id) h c = step_told (null_told id h.0)
    evaluate_told (tree.array l id) h c =
        step_told (lift_then new_array (λ array. bind (fill_told l h.1 array 0 c) (λ n. array_told id array n h.0)))
    evaluate_told (tree.object l id) h c =
        step_told (lift_then new_plain_object (λ object. bind (equip_told l h.1 object c) (λ done.
        object_told id object h.0)))
    evaluate_told (tree.function_expression f id) h c =
        step_told (lift_then (make_function_expression c.strict c.env f) (λ object. function_told id object h.0))
    evaluate_told (tree.dot o k id) h c =
        step_told (bind (evaluate_told o h.1 c) (λ base. read_member_told id base (value.Text k) h.0))
    evaluate_told (tree.index o k id) h c =
        let r = split IsRow (of o) (of k) h.1 in
        step_told (bind (evaluate_told o r.0 c) (λ base. bind (evaluate_told k r.1 c) (λ key.
        read_member_told id base key h.0)))
    evaluate_told (tree.call f l id) h c =
        let r = split IsRow (call_entries by_id f id (of f)) (of_all l) h in
        step_told (callee_told f l id c r.0 (evaluate_told f (callee_rows IsRow f id r.0) c)
        (λ literals. evaluate_all table literals [] l c) (λ k. values_told k l r.1 [] c))
    evaluate_told (tree.new f l id) h c =
        let r = split IsRow (of f) (of_all l) h.1.1 in
        step_told (bind (evaluate_told f r.0 c) (λ g. bind (values_told 0 l r.1 [] c) (λ vs.
        invoke_told table id g value.Undefined vs true h.0 h.1.0)))
    evaluate_told (tree.unary un.Typeof e id) h c = step_told (type_told e id c h (λ r. evaluate_told e r c))
    evaluate_told (tree.unary un.Delete e id) h c = step_told (deleted_told e id c h (λ r. evaluate_told e r c))
    evaluate_told (tree.unary o e id) h c =
        step_told (bind (evaluate_told e h.1 c) (λ v. operate_on_told id (unary_kind o) v h.0))
    evaluate_told (tree.update up prefix t id) h c =
        let r = split IsRow (compute_entries by_id t kind.Unary id) (of t) h in
        step_told (updated_told t r.1 up prefix id r.0 c)
    evaluate_told (tree.binary o a b id) h c =
        let r = split IsRow (of a) (of b) h.1 in
        step_told (bind (evaluate_told a r.0 c) (λ x. bind (evaluate_told b r.1 c) (λ y.
        operate_told id o x y h.0)))
    evaluate_told (tree.and a b id) h c =
        let r = split IsRow (of a) (of b) h.1 in
        step_told (bind (evaluate_told a r.0 c) (λ v. bind (decide_told id v h.0) (λ truth.
        pick truth (evaluate_told b r.1 c) (ok v))))
    evaluate_told (tree.or a b id) h c =
        let r = split IsRow (of a) (of b) h.1 in
        step_told (bind (evaluate_told a r.0 c) (λ v. bind (decide_told id v h.0) (λ truth.
        pick truth (ok v) (evaluate_told b r.1 c))))
    evaluate_told (tree.conditional a b d id) h c =
        let r = split IsRow (of a ++ of b) (of d) h.1 in
        let q = split IsRow (of a) (of b) r.0 in
        step_told (bind (evaluate_told a q.0 c) (λ v. bind (decide_told id v h.0) (λ truth.
        pick truth (evaluate_told b q.1 c) (evaluate_told d r.1 c))))
    evaluate_told (tree.assign o t e id) h c =
        let r = split IsRow (assign_entries by_id o t id ++ of t) (of e) h in
        let q = split IsRow (assign_entries by_id o t id) (of t) r.0 in
        step_told (assigned_told t q.1 o id q.0 c (evaluate_told e r.1 c))
    evaluate_told (tree.comma a b id) h c =
        let r = split IsRow (of a) (of b) h in
        step_told (bind (evaluate_told a r.0 c) (λ v. evaluate_told b r.1 c))

    -- arguments
    values_told : (literals : ℕ) (l : Exprs) → AllRows IsRow l → (so_far : List Value) (c : Context)
        → Told IsRow (evaluate_all table literals so_far l c)
    values_told k tree.end h so_far c = ok so_far
    values_told (suc k) (tree.more e l) h so_far c =
        values_told k l (split IsRow (of e) (of_all l) h).1 so_far c
    values_told zero (tree.more e l) h so_far c =
        let r = split IsRow (of e) (of_all l) h in
        bind (evaluate_told e r.0 c) (λ v. values_told 0 l r.1 (so_far ++ v ∷ []) c)

    -- a call, by what is called
    callee_told : (f : Expr) (l : Exprs) (id : ℕ) (c : Context) {p : Part (Answer Value)}
        → Each IsRow (call_entries by_id f id (of f)) → Told IsRow p → (args : Arguments)
        → ((k : ℕ) → Told IsRow (args k)) → Told IsRow (evaluate_call table f l p args id c)
    callee_told (tree.dot o k at) l id c h x args y =
        by_form (form_of_member o k) l c args y
        (bind (evaluate_told o h.1.1.1 c) (λ base.
        call_member_told table at id base (value.Text k) h.0 h.1.0 h.1.1.0 (y 0)))
    callee_told (tree.index o k at) l id c h x args y =
        let r = split IsRow (of o) (of k) h.1.1.1 in
        bind (evaluate_told o r.0 c) (λ base. bind (evaluate_told k r.1 c) (λ key.
        call_member_told table at id base key h.0 h.1.0 h.1.1.0 (y 0)))
    callee_told (tree.call f inner at) l id c h x args y =
        let r = split IsRow (call_entries by_id f at (of f)) (of_all inner) h.1.1 in
        of_call table c (form_of f) inner (λ literals. evaluate_all table literals [] inner c)
        (λ k. values_told k inner r.1 [] c) (count l) (y 0) (call_value_told table id h.0 h.1.0 x (y 0))
    callee_told f l id c h x args y = call_value_told table id h.0 h.1.0 x (y 0)

    deleted_told : (e : Expr) (id : ℕ) (c : Context) {p : Part (Answer Value)}
        → Each IsRow (unary_entries by_id un.Delete e id (of e)) → (Rows IsRow e → Told IsRow p)
        → Told IsRow (evaluate_delete table e p id c)
    deleted_told (tree.name x at) id c h y = deletion_told c x
    deleted_told (tree.dot o k at) id c h y =
        bind (evaluate_told o h.1 c) (λ base. delete_told id c.strict base (value.Text k) h.0)
    deleted_told (tree.index o k at) id c h y =
        let r = split IsRow (of o) (of k) h.1 in
        bind (evaluate_told o r.0 c) (λ base. bind (evaluate_told k r.1 c) (λ key.
        delete_told id c.strict base key h.0))
    deleted_told e id c h y = bind (y h) (λ v. ok (value.Bool true))

    -- an assignment of a part's value
    assigned_told : (t : Tree ℕ tree.target) → Rows IsRow t → (o : Option BinOp) (id : ℕ)
        → Each IsRow (assign_entries by_id o t id) → (c : Context) {p : Part (Answer Value)} → Told IsRow p
        → Told IsRow (evaluate_assignment table t o p id c)
    assigned_told (tree.to_name x) r None id h c y = assign_told id c x.text h.0 y
    assigned_told (tree.to_name x) r (Some o) id h c y = compute_told id c x.text o h.0 h.1.0 h.1.1.0 y
    assigned_told (tree.to_dot a k at) r None id h c y =
        bind (evaluate_told a r c) (λ base. put_member_told id c base (value.Text k) h.0 y)
    assigned_told (tree.to_dot a k at) r (Some o) id h c y =
        bind (evaluate_told a r c) (λ base. compute_member_told id c base (value.Text k) o h.0 h.1.0 h.1.1.0 y)
    assigned_told (tree.to_index a k at) r None id h c y =
        let q = split IsRow (of a) (of k) r in
        bind (evaluate_told a q.0 c) (λ base. bind (evaluate_told k q.1 c) (λ key.
        put_member_told id c base key h.0 y))
    assigned_told (tree.to_index a k at) r (Some o) id h c y =
        let q = split IsRow (of a) (of k) r in
        bind (evaluate_told a q.0 c) (λ base. bind (evaluate_told k q.1 c) (λ key.
        compute_member_told id c base key o h.0 h.1.0 h.1.1.0 y))

    updated_told : (t : Tree ℕ tree.target) → Rows IsRow t → (up prefix : Bool) (id : ℕ)
        → Each IsRow (compute_entries by_id t kind.Unary id) → (c : Context)
        → Told IsRow (evaluate_update table t up prefix id c)
    updated_told (tree.to_name x) r up prefix id h c =
        update_name_told id c x.text up prefix h.0 h.1.0 h.1.1.0
    updated_told (tree.to_dot o k at) r up prefix id h c =
        bind (evaluate_told o r c) (λ base.
        update_expression_told id c base (value.Text k) up prefix h.0 h.1.0 h.1.1.0)
    updated_told (tree.to_index o k at) r up prefix id h c =
        let q = split IsRow (of o) (of k) r in
        bind (evaluate_told o q.0 c) (λ base. bind (evaluate_told k q.1 c) (λ key.
        update_expression_told id c base key up prefix h.0 h.1.0 h.1.1.0))

    -- elements and properties
    fill_told : (l : Forest ℕ tree.item) → AllRows IsRow l → (array : ObjId) (k : ℕ) (c : Context)
        → Told IsRow (fill table l array k c)
    fill_told tree.end h array k c = ok k
    fill_told (tree.more t l) h array k c =
        let r = split IsRow (of t) (of_all l) h in
        bind (element_told t r.0 array k c) (λ done. fill_told l r.1 array (k + 1) c)

    element_told : (t : Tree ℕ tree.item) → Rows IsRow t → (array : ObjId) (k : ℕ) (c : Context)
        → Told IsRow (fill_one table t array k c)
    element_told tree.hole h array k c = ok true
    element_told (tree.filled e) h array k c = bind (evaluate_told e h c) (λ v. algorithm (put_element array k v))

    equip_told : (l : Forest ℕ tree.entry) → AllRows IsRow l → (object : ObjId) (c : Context)
        → Told IsRow (equip table l object c)
    equip_told tree.end h object c = ok tt
    equip_told (tree.more t l) h object c =
        let r = split IsRow (of t) (of_all l) h in
        bind (property_told t r.0 object c) (λ done. equip_told l r.1 object c)

    property_told : (t : Tree ℕ tree.entry) → Rows IsRow t → (object : ObjId) (c : Context)
        → Told IsRow (equip_one table t object c)
    property_told (tree.value k e) h object c =
        bind (evaluate_told e h c) (λ v. entry_told object k.text (plain_change v))
    property_told (tree.getter k f) h object c =
        lift_then (make_function c.strict c.env f) (λ g.
        entry_told object k.text (accessor_change (Some (Some g)) None))
    property_told (tree.setter k f) h object c =
        lift_then (make_function c.strict c.env f) (λ g.
        entry_told object k.text (accessor_change None (Some (Some g))))
