-- Expressions do the same with other places, but for the ids of what they perform.
use Rattle.std.proofs.Common.{◌≡◌, ℕ, ◌+◌, ◌++◌, List, [], ◌∷◌, Bool, true, Option, Some, None, zero, suc, ap}
use Rattle.jl_ast.specs.Spans.{map_forest, map_tree}
use Rattle.jl_ast.specs.Tree as tree
use Rattle.jl_ast.specs.Tree.{Forest, Tree}
use Rattle.jl_ast.specs.declared.ops.BinOp.{BinOp}
use Rattle.jl_ast.specs.declared.ops.UnOp.TheVariants as un
use Rattle.jl_value.specs.declared.object.ObjId.{ObjId}
use Rattle.jl_value.specs.declared.value.Value.{Value}
use Rattle.jl_value.specs.declared.value.Value.TheVariants as value
use Rattle.jl_heap.specs.declared.inner.Inner.{Inner}
use Rattle.jl_op.specs.declared.sign.UnKind.TheVariants as unary
use Rattle.jl_op.specs.UnaryKinds.{unary_kind}
use Rattle.jl_meaning.specs.Defining.{plain_change}
use Rattle.jl_meaning.specs.Expressions.{equip, equip_one, evaluate, evaluate_all, evaluate_assignment, evaluate_call}
use Rattle.jl_meaning.specs.Expressions.{evaluate_delete, evaluate_typeof, evaluate_update, fill, fill_one}
use Rattle.jl_meaning.specs.FunctionObjects.{callee_of, make_function, make_function_expression, FunctionTable}
use Rattle.jl_meaning.specs.Parts.{lift, Answer, Context, Expr, Exprs, Func, Part}
use Rattle.jl_meaning.specs.forms.Hooks.{Arguments}
use Rattle.jl_meaning.specs.forms.Literals.{accessor_change, new_array, new_plain_object, of_function, of_object}
use Rattle.jl_meaning.specs.forms.Literals.{put_element}
use Rattle.jl_meaning.proofs.MadeFunctions as meant
use Rattle.jl_operation_rows.proofs.Pairs.{ends, steps}
use Rattle.jl_operation_rows.proofs.Renaming.{algorithm, at_first, at_place, bind, lift_then, pick, second_is, Renaming}
use Rattle.jl_operation_rows.proofs.Renaming.{Same}
use Rattle.jl_operation_rows.proofs.Renaming.{Twins}
use Rattle.jl_operation_rows.proofs.SameCalls.{by_form_same, call_member_same, call_of_call_same, call_value_same}
use Rattle.jl_operation_rows.proofs.SameCalls.{invoke_same, SameArguments}
use Rattle.jl_operation_rows.proofs.SameForms.{assign_member_same, assign_same, compute_same, decide_same, delete_same}
use Rattle.jl_operation_rows.proofs.SameForms.{deletion_same, end_array_same, entry_same, literal_of_same, literal_same}
use Rattle.jl_operation_rows.proofs.SameForms.{operate_on_same, operate_same, read_member_same, read_same, typeof_same}
use Rattle.jl_operation_rows.proofs.SameForms.{update_expression_same, update_name_same}
use Rattle.jl_operation_rows.proofs.SameMade.{made_same}

module _ (r : Renaming) where
  make_same : (c : Context) (f : Func)
      → Same r (lift (make_function c.strict c.env (map_tree r.from f)))
      (lift (make_function c.strict c.env (map_tree r.to f)))
  make_same c f =
      second_is (ap (λ p. lift p) (meant.make_same (made_same r.from r.to f) c.strict c.env))
      (algorithm (make_function c.strict c.env (map_tree r.from f)))

  expression_same : (c : Context) (f : Func)
      → Same r (lift (make_function_expression c.strict c.env (map_tree r.from f)))
      (lift (make_function_expression c.strict c.env (map_tree r.to f)))
  expression_same c f =
      second_is (ap (λ p. lift p) (meant.expression_same (made_same r.from r.to f) c.strict c.env))
      (algorithm (make_function_expression c.strict c.env (map_tree r.from f)))

module _ (r : Renaming) (table table' : FunctionTable)
    (same : (i : Inner) → callee_of table i ≡ callee_of table' i) where
  abbrev old : {x : tree.Sort} → Tree ℕ x → Tree ℕ x
  old t = map_tree r.from t

  abbrev new : {x : tree.Sort} → Tree ℕ x → Tree ℕ x
  new t = map_tree r.to t

  abbrev olds : {x : tree.Sort} → Forest ℕ x → Forest ℕ x
  olds l = map_forest r.from l

  abbrev news : {x : tree.Sort} → Forest ℕ x → Forest ℕ x
  news l = map_forest r.to l

  type_same : (e : Expr) {i j : ℕ} → Twins r i j → (c : Context) {p p' : Part (Answer Value)} → Same r p p'
      → Same r (evaluate_typeof table (old e) p i c) (evaluate_typeof table' (new e) p' j c)
  type_same (tree.name x s) ids c y = typeof_same ids.first c x
  type_same _ ids c y = bind y (λ v. operate_on_same ids.first unary.Typeof v)

  mutual
    pub evaluate_same : (e : Expr) (c : Context) → Same r (evaluate table (old e) c) (evaluate table' (new e) c)
    evaluate_same (tree.this s) c = steps ends
    evaluate_same (tree.name x s) c = steps (read_same (at_first r s) c x)
    evaluate_same (tree.number m s) c = steps (literal_same (at_place r s) (value.Num m))
    evaluate_same (tree.string t s) c = steps (literal_same (at_place r s) (value.Text t))
    evaluate_same (tree.boolean b s) c = steps (literal_same (at_place r s) (value.Bool b))
    evaluate_same (tree.null s) c = steps (literal_same (at_place r s) value.Null)
    evaluate_same (tree.array l s) c =
        steps (lift_then new_array (λ array. bind (fill_same l array 0 c) (λ n.
        end_array_same (at_place r s) array n)))
    evaluate_same (tree.object l s) c =
        steps (lift_then new_plain_object (λ object. bind (equip_same l object c) (λ done.
        literal_of_same (at_place r s) of_object (value.Obj object))))
    evaluate_same (tree.function_expression f s) c =
        steps (bind (expression_same r c f) (λ object.
        literal_of_same (at_place r s) of_function (value.Obj object)))
    evaluate_same (tree.dot o k s) c =
        steps (bind (evaluate_same o c) (λ base. read_member_same (at_first r s) base (value.Text k)))
    evaluate_same (tree.index o k s) c =
        steps (bind (evaluate_same o c) (λ base. bind (evaluate_same k c) (λ key.
        read_member_same (at_first r s) base key)))
    evaluate_same (tree.call f l s) c =
        steps (callee_same f l (at_place r s) c (evaluate_same f c) (λ literals. values_same literals l [] c))
    evaluate_same (tree.new f l s) c =
        steps (bind (evaluate_same f c) (λ f. bind (values_same 0 l [] c) (λ vs.
        invoke_same table table' same (at_place r s) f value.Undefined vs true)))
    evaluate_same (tree.unary un.Typeof e s) c = steps (type_same e (at_place r s) c (evaluate_same e c))
    evaluate_same (tree.unary un.Delete e s) c = steps (deleted_same e (at_place r s) c (evaluate_same e c))
    evaluate_same (tree.unary o e s) c =
        steps (bind (evaluate_same e c) (λ v. operate_on_same (at_first r s) (unary_kind o) v))
    evaluate_same (tree.update up prefix t s) c = steps (updated_same t up prefix (at_place r s) c)
    evaluate_same (tree.binary o a b s) c =
        steps (bind (evaluate_same a c) (λ x. bind (evaluate_same b c) (λ y. operate_same (at_first r s) o x y)))
    evaluate_same (tree.and a b s) c =
        steps (bind (evaluate_same a c) (λ v. bind (decide_same (at_place r s) v) (λ truth.
        pick truth (evaluate_same b c) ends)))
    evaluate_same (tree.or a b s) c =
        steps (bind (evaluate_same a c) (λ v. bind (decide_same (at_place r s) v) (λ truth.
        pick truth ends (evaluate_same b c))))
    evaluate_same (tree.conditional a b d s) c =
        steps (bind (evaluate_same a c) (λ v. bind (decide_same (at_place r s) v) (λ truth.
        pick truth (evaluate_same b c) (evaluate_same d c))))
    evaluate_same (tree.assign o t e s) c = steps (assigned_same t o (at_place r s) c (evaluate_same e c))
    evaluate_same (tree.comma a b s) c = steps (bind (evaluate_same a c) (λ v. evaluate_same b c))

    -- arguments
    values_same : (literals : ℕ) (l : Exprs) (so_far : List Value) (c : Context)
        → Same r (evaluate_all table literals so_far (olds l) c) (evaluate_all table' literals so_far (news l) c)
    values_same literals tree.end so_far c = ends
    values_same zero (tree.more e l) so_far c =
        bind (evaluate_same e c) (λ v. values_same 0 l (so_far ++ v ∷ []) c)
    values_same (suc k) (tree.more e l) so_far c = values_same k l so_far c

    -- a call, by what is called
    callee_same : (f : Expr) (l : Exprs) {i j : ℕ} → Twins r i j → (c : Context) {p p' : Part (Answer Value)}
        → Same r p p' → {args args' : Arguments} → SameArguments r args args'
        → Same r (evaluate_call table (old f) (olds l) p args i c) (evaluate_call table' (new f) (news l) p' args' j c)
    callee_same (tree.dot o k s) l ids c x y =
        by_form_same o k l c y (bind (evaluate_same o c) (λ base.
        call_member_same table table' same (at_place r s) ids base (value.Text k) (y 0)))
    callee_same (tree.index o k s) l ids c x y =
        bind (evaluate_same o c) (λ base. bind (evaluate_same k c) (λ key.
        call_member_same table table' same (at_place r s) ids base key (y 0)))
    callee_same (tree.call f inner s) l ids c x y =
        call_of_call_same table table' same c f inner l (λ literals. values_same literals inner [] c) (y 0)
        (call_value_same table table' same ids x (y 0))
    callee_same f l ids c x y = call_value_same table table' same ids x (y 0)

    deleted_same : (e : Expr) {i j : ℕ} → Twins r i j → (c : Context) {p p' : Part (Answer Value)} → Same r p p'
        → Same r (evaluate_delete table (old e) p i c) (evaluate_delete table' (new e) p' j c)
    deleted_same (tree.name x s) ids c y = deletion_same c x
    deleted_same (tree.dot o k s) ids c y =
        bind (evaluate_same o c) (λ base. delete_same ids.first c.strict base (value.Text k))
    deleted_same (tree.index o k s) ids c y =
        bind (evaluate_same o c) (λ base. bind (evaluate_same k c) (λ key. delete_same ids.first c.strict base key))
    deleted_same e ids c y = bind y (λ v. ends)

    -- an assignment of a part's value
    assigned_same : (t : Tree ℕ tree.target) (o : Option BinOp) {i j : ℕ} → Twins r i j → (c : Context)
        {p p' : Part (Answer Value)} → Same r p p'
        → Same r (evaluate_assignment table (old t) o p i c) (evaluate_assignment table' (new t) o p' j c)
    assigned_same (tree.to_name x) None ids c y = assign_same ids.first c x.text y
    assigned_same (tree.to_name x) (Some o) ids c y = compute_same ids c x.text o y
    assigned_same (tree.to_dot a k s) o ids c y =
        bind (evaluate_same a c) (λ base. assign_member_same ids c base (value.Text k) o y)
    assigned_same (tree.to_index a k s) o ids c y =
        bind (evaluate_same a c) (λ base. bind (evaluate_same k c) (λ key. assign_member_same ids c base key o y))

    updated_same : (t : Tree ℕ tree.target) (up prefix : Bool) {i j : ℕ} → Twins r i j → (c : Context)
        → Same r (evaluate_update table (old t) up prefix i c) (evaluate_update table' (new t) up prefix j c)
    updated_same (tree.to_name x) up prefix ids c = update_name_same ids c x.text up prefix
    updated_same (tree.to_dot o k s) up prefix ids c =
        bind (evaluate_same o c) (λ base. update_expression_same ids c base (value.Text k) up prefix)
    updated_same (tree.to_index o k s) up prefix ids c =
        bind (evaluate_same o c) (λ base. bind (evaluate_same k c) (λ key.
        update_expression_same ids c base key up prefix))

    -- elements and properties
    fill_same : (l : Forest ℕ tree.item) (array : ObjId) (k : ℕ) (c : Context)
        → Same r (fill table (olds l) array k c) (fill table' (news l) array k c)
    fill_same tree.end array k c = ends
    fill_same (tree.more t l) array k c = bind (element_same t array k c) (λ done. fill_same l array (k + 1) c)

    element_same : (t : Tree ℕ tree.item) (array : ObjId) (k : ℕ) (c : Context)
        → Same r (fill_one table (old t) array k c) (fill_one table' (new t) array k c)
    element_same tree.hole array k c = ends
    element_same (tree.filled e) array k c = bind (evaluate_same e c) (λ v. algorithm (put_element array k v))

    equip_same : (l : Forest ℕ tree.entry) (object : ObjId) (c : Context)
        → Same r (equip table (olds l) object c) (equip table' (news l) object c)
    equip_same tree.end object c = ends
    equip_same (tree.more t l) object c = bind (property_same t object c) (λ done. equip_same l object c)

    property_same : (t : Tree ℕ tree.entry) (object : ObjId) (c : Context)
        → Same r (equip_one table (old t) object c) (equip_one table' (new t) object c)
    property_same (tree.value k e) object c =
        bind (evaluate_same e c) (λ v. entry_same object k.text (plain_change v))
    property_same (tree.getter k f) object c =
        bind (make_same r c f) (λ g. entry_same object k.text (accessor_change (Some (Some g)) None))
    property_same (tree.setter k f) object c =
        bind (make_same r c f) (λ g. entry_same object k.text (accessor_change None (Some (Some g))))
