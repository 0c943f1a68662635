-- Sound expressions fail by no Misuse.
use Rattle.std.proofs.Common.{◌≡◌, ℕ, ◌+◌, ◌++◌, List, [], ◌∷◌, Bool, true, false, Option, Some, None}
use Rattle.std.proofs.Common.{refl, sym, subst}
use Rattle.std.specs.Prelude.{if◌then◌else◌}
use Rattle.jl_num.specs.Number.{Number}
use Rattle.jl_ast.specs.Tree as tree
use Rattle.jl_ast.specs.Tree.{Forest, Text, Tree}
use Rattle.jl_ast.specs.declared.ops.BinOp.{BinOp}
use Rattle.jl_ast.specs.declared.ops.UnOp.TheVariants as un
use Rattle.jl_value.specs.declared.object.ObjId.{ObjId}
use Rattle.jl_value.specs.declared.value.Value.{Value}
use Rattle.jl_value.specs.declared.value.Value.TheVariants as value
use Rattle.jl_heap.specs.Objects.{Name}
use Rattle.jl_op.specs.declared.sign.UnKind.TheVariants as unary
use Rattle.jl_op.specs.UnaryKinds.{unary_kind}
use Rattle.jl_meaning.specs.Defining.{plain_change}
use Rattle.jl_meaning.specs.Expressions.{equip, equip_one, evaluate, evaluate_all, evaluate_assignment, evaluate_call}
use Rattle.jl_meaning.specs.Expressions.{evaluate_delete, evaluate_typeof, evaluate_update, fill, fill_one, this_of}
use Rattle.jl_meaning.specs.FunctionObjects.{make_function, FunctionTable}
use Rattle.jl_meaning.specs.Noting.{performs}
use Rattle.jl_meaning.specs.Parts.{◌>>=◌, Answer, Context, Expr, Exprs, Part}
use Rattle.jl_meaning.specs.forms.Calls.{call_member, call_value}
use Rattle.jl_meaning.specs.forms.HookCalls.{count, form_named, form_of, form_of_member, no_hook, hooks, openers}
use Rattle.jl_meaning.specs.forms.HookCalls.{shape_named}
use Rattle.jl_meaning.specs.forms.Hooks.{call_by_form, call_of_call, Arguments}
use Rattle.jl_meaning.specs.forms.Literals.{accessor_change, literal, put_element}
use Rattle.jl_meaning.specs.forms.Names.{is_hooks}
use Rattle.jl_safety.specs.inner.Sound.{AreSound, IsSound}
use Rattle.jl_safety.proofs.Forms.{assign_member_safe, assign_safe, call_member_safe, call_value_safe, compute_safe}
use Rattle.jl_safety.proofs.Forms.{decide_safe, delete_safe, deletion_safe, entry_safe, invoke_safe, operate_on_safe}
use Rattle.jl_safety.proofs.Forms.{operate_safe, read_member_safe, read_safe, typeof_safe, update_expression_safe}
use Rattle.jl_safety.proofs.Forms.{update_name_safe}
use Rattle.jl_safety.proofs.Literals.{array_safe, function_safe, object_safe}
use Rattle.jl_safety.proofs.Relation.{algorithm, bind, lift_then, ok, perform_safe, pick_safe, step_safe, Safe}

-- no member of a sound expression is a hook
no_member : (o : Expr) (k : Name) → IsSound o → form_of_member o k ≡ no_hook
no_member (tree.name x id) k h = at (is_hooks x) h
  where
    at : (b : Bool) → b ≡ false
        → (if b then form_named (shape_named k hooks) (shape_named k openers) else no_hook) ≡ no_hook
    at true e = cc
    at false e = refl
no_member o k h = refl

no_form : (f : Expr) → IsSound f → form_of f ≡ no_hook
no_form (tree.dot o k id) h = no_member o k h
no_form f h = refl

-- literals of primitive values
number_safe : (id : ℕ) (m : Number) → Safe (literal performs id (value.Num m))
unfolding literal
number_safe id m = perform_safe (ok (value.Num m))

string_safe : (id : ℕ) (t : Text) → Safe (literal performs id (value.Text t))
unfolding literal
string_safe id t = perform_safe (ok (value.Text t))

boolean_safe : (id : ℕ) (b : Bool) → Safe (literal performs id (value.Bool b))
unfolding literal
boolean_safe id b = perform_safe (ok (value.Bool b))

null_safe : (id : ℕ) → Safe (literal performs id value.Null)
unfolding literal
null_safe id = perform_safe (ok value.Null)

module _ (table : FunctionTable) where
  -- a call of a member that is no hook
  abbrev called_member : Expr → Context → (at id : ℕ) → Text → Part (Answer (List Value)) → Part (Answer Value)
  called_member o c at id k args = do
    base ← evaluate table o c
    call_member table at id base (value.Text k) args

  type_safe : (e : Expr) → IsSound e → (id : ℕ) (c : Context) {p : Part (Answer Value)} → Safe p
      → Safe (evaluate_typeof table e p id c)
  type_safe (tree.name x at) h id c y = typeof_safe id c x h
  type_safe e h id c y = bind y (λ v. operate_on_safe id unary.Typeof v)

  mutual
    pub evaluate_safe : (e : Expr) → IsSound e → (c : Context) → Safe (evaluate table e c)
    evaluate_safe (tree.this id) h c = step_safe (ok (this_of c))
    evaluate_safe (tree.name x id) h c = step_safe (read_safe id c x h)
    evaluate_safe (tree.number m id) h c = step_safe (number_safe id m)
    evaluate_safe (tree.string t id) h c = step_safe (string_safe id t)
    evaluate_safe (tree.boolean b id) h c = step_safe (boolean_safe id b)
    evaluate_safe (tree.null id) h c = step_safe (null_safe id)
    evaluate_safe (tree.array l id) h c = array_safe id (λ o. fill table l o 0 c) (λ o. fill_safe l h o 0 c)
    evaluate_safe (tree.object l id) h c = object_safe id (λ o. equip table l o c) (λ o. equip_safe l h o c)
    evaluate_safe (tree.function_expression f id) h c = step_safe (function_safe id c.strict c.env f)
    evaluate_safe (tree.dot o k id) h c =
        step_safe (bind (evaluate_safe o h c) (λ base. read_member_safe id base (value.Text k)))
    evaluate_safe (tree.index o k id) h c =
        step_safe (bind (evaluate_safe o h.0 c) (λ base. bind (evaluate_safe k h.1 c) (λ key.
        read_member_safe id base key)))
    evaluate_safe (tree.call f l id) h c =
        step_safe (callee_safe f h.0 l id c (evaluate_safe f h.0 c) (λ literals. evaluate_all table literals [] l c)
        (values_safe l h.1 [] c))
    evaluate_safe (tree.new f l id) h c =
        step_safe (bind (evaluate_safe f h.0 c) (λ g. bind (values_safe l h.1 [] c) (λ vs.
        invoke_safe table id g value.Undefined vs true)))
    evaluate_safe (tree.unary un.Typeof e id) h c = step_safe (type_safe e h id c (evaluate_safe e h c))
    evaluate_safe (tree.unary un.Delete e id) h c = step_safe (deleted_safe e h id c (evaluate_safe e h c))
    evaluate_safe (tree.unary o e id) h c =
        step_safe (bind (evaluate_safe e h c) (λ v. operate_on_safe id (unary_kind o) v))
    evaluate_safe (tree.update up prefix t id) h c = step_safe (updated_safe t h up prefix id c)
    evaluate_safe (tree.binary o a b id) h c =
        step_safe (bind (evaluate_safe a h.0 c) (λ x. bind (evaluate_safe b h.1 c) (λ y. operate_safe id o x y)))
    evaluate_safe (tree.and a b id) h c =
        step_safe (bind (evaluate_safe a h.0 c) (λ v. bind (decide_safe id v) (λ truth.
        pick_safe truth (evaluate_safe b h.1 c) (ok v))))
    evaluate_safe (tree.or a b id) h c =
        step_safe (bind (evaluate_safe a h.0 c) (λ v. bind (decide_safe id v) (λ truth.
        pick_safe truth (ok v) (evaluate_safe b h.1 c))))
    evaluate_safe (tree.conditional a b d id) h c =
        step_safe (bind (evaluate_safe a h.0 c) (λ v. bind (decide_safe id v) (λ truth.
        pick_safe truth (evaluate_safe b h.1 c) (evaluate_safe d h.2 c))))
    evaluate_safe (tree.assign o t e id) h c = step_safe (assigned_safe t h.0 o id c (evaluate_safe e h.1 c))
    evaluate_safe (tree.comma a b id) h c = step_safe (bind (evaluate_safe a h.0 c) (λ v. evaluate_safe b h.1 c))

    -- arguments
    values_safe : (l : Exprs) → AreSound l → (so_far : List Value) (c : Context)
        → Safe (evaluate_all table 0 so_far l c)
    values_safe tree.end h so_far c = ok so_far
    values_safe (tree.more e l) h so_far c =
        bind (evaluate_safe e h.0 c) (λ v. values_safe l h.1 (so_far ++ v ∷ []) c)

    -- a call, by what is called
    callee_safe : (f : Expr) → IsSound f → (l : Exprs) (id : ℕ) (c : Context) {p : Part (Answer Value)} → Safe p
        → (args : Arguments) → Safe (args 0) → Safe (evaluate_call table f l p args id c)
    callee_safe (tree.dot o k at) h l id c x args y =
        subst (λ form. Safe (call_by_form form l c args (called_member o c at id k (args 0)))) (sym (no_member o k h))
        (bind (evaluate_safe o h c) (λ base. call_member_safe table at id base (value.Text k) y))
    callee_safe (tree.index o k at) h l id c x args y =
        bind (evaluate_safe o h.0 c) (λ base. bind (evaluate_safe k h.1 c) (λ key.
        call_member_safe table at id base key y))
    callee_safe (tree.call f inner at) h l id c {p = p} x args y =
        subst (λ form. Safe (call_of_call table c form inner (λ literals. evaluate_all table literals [] inner c)
        (count l) (args 0) (call_value table id p (args 0)))) (sym (no_form f h.0)) (call_value_safe table id x y)
    callee_safe f h l id c x args y = call_value_safe table id x y

    deleted_safe : (e : Expr) → IsSound e → (id : ℕ) (c : Context) {p : Part (Answer Value)} → Safe p
        → Safe (evaluate_delete table e p id c)
    deleted_safe (tree.name x at) h id c y = deletion_safe c x h
    deleted_safe (tree.dot o k at) h id c y =
        bind (evaluate_safe o h c) (λ base. delete_safe id c.strict base (value.Text k))
    deleted_safe (tree.index o k at) h id c y =
        bind (evaluate_safe o h.0 c) (λ base. bind (evaluate_safe k h.1 c) (λ key. delete_safe id c.strict base key))
    deleted_safe e h id c y = bind y (λ v. ok (value.Bool true))

    -- an assignment of a part's value
    assigned_safe : (t : Tree ℕ tree.target) → IsSound t → (o : Option BinOp) (id : ℕ) (c : Context)
        {p : Part (Answer Value)} → Safe p → Safe (evaluate_assignment table t o p id c)
    assigned_safe (tree.to_name x) h None id c y = assign_safe id c x.text h y
    assigned_safe (tree.to_name x) h (Some o) id c y = compute_safe id c x.text o h y
    assigned_safe (tree.to_dot a k at) h o id c y =
        bind (evaluate_safe a h c) (λ base. assign_member_safe id c base (value.Text k) o y)
    assigned_safe (tree.to_index a k at) h o id c y =
        bind (evaluate_safe a h.0 c) (λ base. bind (evaluate_safe k h.1 c) (λ key.
        assign_member_safe id c base key o y))

    updated_safe : (t : Tree ℕ tree.target) → IsSound t → (up prefix : Bool) (id : ℕ) (c : Context)
        → Safe (evaluate_update table t up prefix id c)
    updated_safe (tree.to_name x) h up prefix id c = update_name_safe id c x.text up prefix h
    updated_safe (tree.to_dot o k at) h up prefix id c =
        bind (evaluate_safe o h c) (λ base. update_expression_safe id c base (value.Text k) up prefix)
    updated_safe (tree.to_index o k at) h up prefix id c =
        bind (evaluate_safe o h.0 c) (λ base. bind (evaluate_safe k h.1 c) (λ key.
        update_expression_safe id c base key up prefix))

    -- elements and properties
    fill_safe : (l : Forest ℕ tree.item) → AreSound l → (array : ObjId) (k : ℕ) (c : Context)
        → Safe (fill table l array k c)
    fill_safe tree.end h array k c = ok k
    fill_safe (tree.more t l) h array k c =
        bind (element_safe t h.0 array k c) (λ done. fill_safe l h.1 array (k + 1) c)

    element_safe : (t : Tree ℕ tree.item) → IsSound t → (array : ObjId) (k : ℕ) (c : Context)
        → Safe (fill_one table t array k c)
    element_safe tree.hole h array k c = ok true
    element_safe (tree.filled e) h array k c = bind (evaluate_safe e h c) (λ v. algorithm (put_element array k v))

    equip_safe : (l : Forest ℕ tree.entry) → AreSound l → (object : ObjId) (c : Context)
        → Safe (equip table l object c)
    equip_safe tree.end h object c = ok tt
    equip_safe (tree.more t l) h object c = bind (property_safe t h.0 object c) (λ done. equip_safe l h.1 object c)

    property_safe : (t : Tree ℕ tree.entry) → IsSound t → (object : ObjId) (c : Context)
        → Safe (equip_one table t object c)
    property_safe (tree.value k e) h object c =
        bind (evaluate_safe e h c) (λ v. entry_safe object k.text (plain_change v))
    property_safe (tree.getter k f) h object c =
        lift_then (make_function c.strict c.env f) (λ g.
        entry_safe object k.text (accessor_change (Some (Some g)) None))
    property_safe (tree.setter k f) h object c =
        lift_then (make_function c.strict c.env f) (λ g.
        entry_safe object k.text (accessor_change None (Some (Some g))))
