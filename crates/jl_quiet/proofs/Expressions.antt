-- Expressions do the same with no ids, but for what they perform.
use Rattle.std.proofs.Common.{◌≡◌, ℕ, ◌+◌, ◌++◌, List, [], ◌∷◌, Bool, true, Option, Some, None, zero, suc, refl, ap}
use Rattle.jl_ast.specs.Tree as tree
use Rattle.jl_ast.specs.Tree.{Forest, Tree}
use Rattle.jl_ast.specs.declared.ops.BinOp.{BinOp}
use Rattle.jl_ast.specs.declared.ops.UnOp.TheVariants as un
use Rattle.jl_value.specs.declared.object.ObjId.{ObjId}
use Rattle.jl_value.specs.declared.value.Value.{Value}
use Rattle.jl_value.specs.declared.value.Value.TheVariants as value
use Rattle.jl_heap.specs.declared.inner.Inner.{Inner}
use Rattle.jl_op.specs.declared.sign.UnKind.TheVariants as unary
use Rattle.jl_op.specs.UnaryKinds.{unary_kind}
use Rattle.jl_meaning.specs.Expressions.{equip, equip_one, evaluate, evaluate_all, evaluate_assignment, evaluate_call}
use Rattle.jl_meaning.specs.Expressions.{evaluate_delete, evaluate_typeof, evaluate_update, fill, fill_one}
use Rattle.jl_meaning.specs.FunctionObjects.{callee_of, make_function, make_function_expression, FunctionTable}
use Rattle.jl_meaning.specs.Parts.{give, lift, Answer, Context, Expr, Exprs, Func, Part}
use Rattle.jl_meaning.specs.Store.{next_object}
use Rattle.jl_meaning.specs.forms.Hooks.{Arguments}
use Rattle.jl_meaning.specs.forms.Literals.{of_function, of_object}
use Rattle.jl_meaning.proofs.MadeFunctions.{expression_same, make_same}
use Rattle.jl_quiet.proofs.Bare.{bare, bare_forest}
use Rattle.jl_quiet.proofs.Calls.{by_form_alike, call_member_alike, call_of_call_alike, call_value_alike, invoke_alike}
use Rattle.jl_quiet.proofs.Calls.{ArgumentsAlike}
use Rattle.jl_quiet.proofs.Forms.{assign_member_alike, assign_name_alike, compute_name_alike, decide_alike}
use Rattle.jl_quiet.proofs.Forms.{delete_alike}
use Rattle.jl_quiet.proofs.Forms.{end_array_alike, literal_alike, literal_of_alike, operate_alike, operate_on_alike}
use Rattle.jl_quiet.proofs.Forms.{read_alike, read_member_alike, typeof_alike, update_expression_alike}
use Rattle.jl_quiet.proofs.Forms.{update_name_alike}
use Rattle.jl_quiet.proofs.MadeFunctions.{made_alike}
use Rattle.jl_quiet.proofs.Relation.{bind, change_alike, itself, look_alike, pick, second_is, step_alike, Alike}

make_alike : (c : Context) (f : Func)
    → Alike (lift (make_function c.strict c.env f)) (lift (make_function c.strict c.env (bare f)))
make_alike c f =
    second_is (ap (λ p. lift p) (make_same (made_alike f) c.strict c.env))
    (itself (lift (make_function c.strict c.env f)))

expression_alike : (c : Context) (f : Func)
    → Alike (lift (make_function_expression c.strict c.env f))
    (lift (make_function_expression c.strict c.env (bare f)))
expression_alike c f =
    second_is (ap (λ p. lift p) (expression_same (made_alike f) c.strict c.env))
    (itself (lift (make_function_expression c.strict c.env f)))

module _ (table table' : FunctionTable) (same : (i : Inner) → callee_of table i ≡ callee_of table' i) where
  type_alike : (e : Expr) (id : ℕ) (c : Context) {p p' : Part (Answer Value)} → Alike p p'
      → Alike (evaluate_typeof table e p id c) (evaluate_typeof table' (bare e) p' 0 c)
  type_alike (tree.name x s) id c y = typeof_alike id 0 c x
  type_alike _ id c y = bind y (λ v. operate_on_alike id 0 unary.Typeof v)

  mutual
    pub evaluate_alike : (e : Expr) (c : Context) → Alike (evaluate table e c) (evaluate table' (bare e) c)
    evaluate_alike (tree.this s) c = record { same = refl }
    evaluate_alike (tree.name x s) c = step_alike (read_alike s 0 c x)
    evaluate_alike (tree.number m s) c = step_alike (literal_alike s 0 (value.Num m))
    evaluate_alike (tree.string t s) c = step_alike (literal_alike s 0 (value.Text t))
    evaluate_alike (tree.boolean b s) c = step_alike (literal_alike s 0 (value.Bool b))
    evaluate_alike (tree.null s) c = step_alike (literal_alike s 0 value.Null)
    evaluate_alike (tree.array l s) c =
        step_alike (look_alike (λ store. change_alike (bind (fill_alike l (next_object store) 0 c) (λ n.
        end_array_alike s 0 (next_object store) n))))
    evaluate_alike (tree.object l s) c =
        step_alike (look_alike (λ store. change_alike (bind (equip_alike l (next_object store) c) (λ done.
        literal_of_alike of_object s 0 (value.Obj (next_object store))))))
    evaluate_alike (tree.function_expression f s) c =
        step_alike (bind (expression_alike c f) (λ object. literal_of_alike of_function s 0 (value.Obj object)))
    evaluate_alike (tree.dot o k s) c =
        step_alike (bind (evaluate_alike o c) (λ base. read_member_alike s 0 base (value.Text k)))
    evaluate_alike (tree.index o k s) c =
        step_alike (bind (evaluate_alike o c)
        (λ base. bind (evaluate_alike k c) (λ key. read_member_alike s 0 base key)))
    evaluate_alike (tree.call f l s) c =
        step_alike (call_alike f l s c (evaluate_alike f c) (λ literals. values_alike literals l [] c))
    evaluate_alike (tree.new f l s) c =
        step_alike (bind (evaluate_alike f c) (λ f. bind (values_alike 0 l [] c) (λ vs.
        invoke_alike table table' same s 0 f value.Undefined vs true)))
    evaluate_alike (tree.unary un.Typeof e s) c = step_alike (type_alike e s c (evaluate_alike e c))
    evaluate_alike (tree.unary un.Delete e s) c = step_alike (deletion_alike e s c (evaluate_alike e c))
    evaluate_alike (tree.unary o e s) c =
        step_alike (bind (evaluate_alike e c) (λ v. operate_on_alike s 0 (unary_kind o) v))
    evaluate_alike (tree.update up prefix t s) c = step_alike (update_alike t up prefix s c)
    evaluate_alike (tree.binary o a b s) c =
        step_alike (bind (evaluate_alike a c) (λ x. bind (evaluate_alike b c) (λ y. operate_alike s 0 o x y)))
    evaluate_alike (tree.and a b s) c =
        step_alike (bind (evaluate_alike a c) (λ v. bind (decide_alike s 0 v) (λ truth.
        pick truth (evaluate_alike b c) (itself (give v)))))
    evaluate_alike (tree.or a b s) c =
        step_alike (bind (evaluate_alike a c) (λ v. bind (decide_alike s 0 v) (λ truth.
        pick truth (itself (give v)) (evaluate_alike b c))))
    evaluate_alike (tree.conditional a b d s) c =
        step_alike (bind (evaluate_alike a c) (λ v. bind (decide_alike s 0 v) (λ truth.
        pick truth (evaluate_alike b c) (evaluate_alike d c))))
    evaluate_alike (tree.assign o t e s) c = step_alike (assignment_alike t o s c (evaluate_alike e c))
    evaluate_alike (tree.comma a b s) c = step_alike (bind (evaluate_alike a c) (λ v. evaluate_alike b c))

    -- arguments
    values_alike : (literals : ℕ) (l : Exprs) (so_far : List Value) (c : Context)
        → Alike (evaluate_all table literals so_far l c) (evaluate_all table' literals so_far (bare_forest l) c)
    values_alike literals tree.end so_far c = itself (give so_far)
    values_alike zero (tree.more e l) so_far c =
        bind (evaluate_alike e c) (λ v. values_alike 0 l (so_far ++ v ∷ []) c)
    values_alike (suc k) (tree.more e l) so_far c = values_alike k l so_far c

    -- a call, by what is called
    call_alike : (f : Expr) (l : Exprs) (id : ℕ) (c : Context) {p p' : Part (Answer Value)} → Alike p p'
        → {args args' : Arguments} → ArgumentsAlike args args'
        → Alike (evaluate_call table f l p args id c) (evaluate_call table' (bare f) (bare_forest l) p' args' 0 c)
    call_alike (tree.dot o k s) l id c x y =
        by_form_alike o k l c y (bind (evaluate_alike o c) (λ base.
        call_member_alike table table' same s 0 id 0 base (value.Text k) (y 0)))
    call_alike (tree.index o k s) l id c x y =
        bind (evaluate_alike o c) (λ base. bind (evaluate_alike k c) (λ key.
        call_member_alike table table' same s 0 id 0 base key (y 0)))
    call_alike (tree.call f inner s) l id c x y =
        call_of_call_alike table table' same c f inner l (λ literals. values_alike literals inner [] c) (y 0)
        (call_value_alike table table' same id 0 x (y 0))
    call_alike f l id c x y = call_value_alike table table' same id 0 x (y 0)

    deletion_alike : (e : Expr) (id : ℕ) (c : Context) {p p' : Part (Answer Value)} → Alike p p'
        → Alike (evaluate_delete table e p id c) (evaluate_delete table' (bare e) p' 0 c)
    deletion_alike (tree.name x s) id c y = record { same = refl }
    deletion_alike (tree.dot o k s) id c y =
        bind (evaluate_alike o c) (λ base. delete_alike id 0 c.strict base (value.Text k))
    deletion_alike (tree.index o k s) id c y =
        bind (evaluate_alike o c) (λ base. bind (evaluate_alike k c) (λ key. delete_alike id 0 c.strict base key))
    deletion_alike e id c y = bind y (λ v. record { same = refl })

    -- an assignment of a part's value
    assignment_alike : (t : Tree ℕ tree.target) (o : Option BinOp) (id : ℕ) (c : Context) {p p' : Part (Answer Value)}
        → Alike p p'
        → Alike (evaluate_assignment table t o p id c) (evaluate_assignment table' (bare t) o p' 0 c)
    assignment_alike (tree.to_name x) None id c y = assign_name_alike id 0 c x.text y
    assignment_alike (tree.to_name x) (Some o) id c y = compute_name_alike id 0 c x.text o y
    assignment_alike (tree.to_dot a k s) o id c y =
        bind (evaluate_alike a c) (λ base. assign_member_alike id 0 c base (value.Text k) o y)
    assignment_alike (tree.to_index a k s) o id c y =
        bind (evaluate_alike a c) (λ base. bind (evaluate_alike k c) (λ key. assign_member_alike id 0 c base key o y))

    update_alike : (t : Tree ℕ tree.target) (up prefix : Bool) (id : ℕ) (c : Context)
        → Alike (evaluate_update table t up prefix id c) (evaluate_update table' (bare t) up prefix 0 c)
    update_alike (tree.to_name x) up prefix id c = update_name_alike id 0 c x.text up prefix
    update_alike (tree.to_dot o k s) up prefix id c =
        bind (evaluate_alike o c) (λ base. update_expression_alike id 0 c base (value.Text k) up prefix)
    update_alike (tree.to_index o k s) up prefix id c =
        bind (evaluate_alike o c) (λ base. bind (evaluate_alike k c) (λ key.
        update_expression_alike id 0 c base key up prefix))

    -- elements and properties
    fill_alike : (l : Forest ℕ tree.item) (array : ObjId) (k : ℕ) (c : Context)
        → Alike (fill table l array k c) (fill table' (bare_forest l) array k c)
    fill_alike tree.end array k c = itself (give k)
    fill_alike (tree.more t l) array k c = bind (element_alike t array k c) (λ done. fill_alike l array (k + 1) c)

    element_alike : (t : Tree ℕ tree.item) (array : ObjId) (k : ℕ) (c : Context)
        → Alike (fill_one table t array k c) (fill_one table' (bare t) array k c)
    element_alike tree.hole array k c = record { same = refl }
    element_alike (tree.filled e) array k c = bind (evaluate_alike e c) (λ v. record { same = refl })

    equip_alike : (l : Forest ℕ tree.entry) (object : ObjId) (c : Context)
        → Alike (equip table l object c) (equip table' (bare_forest l) object c)
    equip_alike tree.end object c = record { same = refl }
    equip_alike (tree.more t l) object c = bind (entry_alike t object c) (λ done. equip_alike l object c)

    entry_alike : (t : Tree ℕ tree.entry) (object : ObjId) (c : Context)
        → Alike (equip_one table t object c) (equip_one table' (bare t) object c)
    entry_alike (tree.value k e) object c = bind (evaluate_alike e c) (λ v. record { same = refl })
    entry_alike (tree.getter k f) object c = bind (make_alike c f) (λ g. record { same = refl })
    entry_alike (tree.setter k f) object c = bind (make_alike c f) (λ g. record { same = refl })
