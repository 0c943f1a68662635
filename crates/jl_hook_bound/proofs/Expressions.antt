-- Expressions pay for what hooks emit in them, and each leaves one step more.
use Rattle.std.proofs.Common.{ℕ, zero, suc, ◌+◌, ◌≤◌, ◌++◌, List, [], ◌∷◌, Bool, true, Option, Some, None, arith}
use Rattle.jl_ast.specs.Tree as tree
use Rattle.jl_ast.specs.Tree.{Forest, Tree}
use Rattle.jl_ast.specs.declared.ops.BinOp.{BinOp}
use Rattle.jl_ast.specs.declared.ops.UnOp.TheVariants as un
use Rattle.jl_value.specs.declared.object.ObjId.{ObjId}
use Rattle.jl_value.specs.declared.value.Value.{Value}
use Rattle.jl_value.specs.declared.value.Value.TheVariants as value
use Rattle.jl_op.specs.declared.sign.UnKind.TheVariants as unary
use Rattle.jl_op.specs.UnaryKinds.{unary_kind}
use Rattle.jl_effects.specs.Effects.{and_then}
use Rattle.jl_meaning.specs.Defining.{plain_change}
use Rattle.jl_meaning.specs.Expressions.{equip, equip_one, evaluate, evaluate_all, evaluate_assignment, evaluate_call}
use Rattle.jl_meaning.specs.Expressions.{evaluate_delete, evaluate_typeof, evaluate_update, fill, fill_one, this_of}
use Rattle.jl_meaning.specs.FunctionObjects.{make_function, make_function_expression, FunctionTable}
use Rattle.jl_meaning.specs.Parts.{continue_with, gives, throws, Answer, Context, Expr, Exprs, Part}
use Rattle.jl_meaning.specs.forms.HookCalls.{count, form_of, form_of_member}
use Rattle.jl_meaning.specs.forms.Hooks.{Arguments}
use Rattle.jl_meaning.specs.forms.Literals.{accessor_change, new_array, new_plain_object, of_function, of_object}
use Rattle.jl_meaning.specs.forms.Literals.{put_element}
use Rattle.jl_effects.specs.Credit.{Pays}
use Rattle.jl_effects.proofs.Credit.{pays_more, pays_then}
use Rattle.jl_hook_bound.proofs.Forms.{array_free, assign_free, assign_member_free, call_member_free, call_value_free}
use Rattle.jl_hook_bound.proofs.Forms.{compute_free, decide_free, delete_free, deletion_free, entry_free, invoke_free}
use Rattle.jl_hook_bound.proofs.Forms.{lift_free, literal_free, literal_of_free, operate_free, operate_on_free}
use Rattle.jl_hook_bound.proofs.Forms.{read_free, read_member_free, typeof_free, update_expression_free, update_name_free}
use Rattle.jl_hook_bound.proofs.HookCalls.{by_form, evaluated, form_fair, member_fair, of_call, Evaluates}
use Rattle.jl_hook_bound.proofs.Relation.{algorithm, bind, free, more_of, ok, pick, step_paid, Earns, Gains, Paid}

-- one value more, and then the rest
first_gains : {A : Type 0} (n d : ℕ) {p : Part (Answer Value)} {k : Value → Part (Answer A)} → Earns p
    → ((v : Value) → Gains (λ a. n) d d (k v)) → Gains (λ a. suc n) d d (and_then p (continue_with k))
first_gains {A = A} n d {p = p} {k = k} x f = record {
  at = pays_then (λ r. suc d) (λ r. more_of (λ a. suc n) d r) p (continue_with k) d
      (pays_more (λ r. 1) (λ r. suc d) p 0 d (omega arith) (λ r. omega arith) x.at) on;
}
  where
    fits : (r : Answer A) → more_of (λ a. suc n) d r + d ≤ more_of (λ a. n) d r + suc d
    fits (gives a) = omega arith
    fits (throws v) = omega arith

    on : (r : Answer Value) → Pays (λ r. more_of (λ a. suc n) d r) (continue_with k r) (suc d)
    on (gives v) =
        pays_more (λ r. more_of (λ a. n) d r) (λ r. more_of (λ a. suc n) d r) (k v) d (suc d) (omega arith) fits
        (f v).at
    on (throws v) = omega arith

-- the arguments of a call that is of no hook
all_free : (l : Exprs) (args : Arguments) → Evaluates l args → (d : ℕ) → Paid d d (args 0)
all_free l args x d = record {
  at = pays_more (λ r. more_of (λ vs. evaluated 0 l) d r) (λ r. d) (args 0) d d (omega arith) fits (x 0 d).at;
}
  where
    fits : (r : Answer (List Value)) → d + d ≤ more_of (λ vs. evaluated 0 l) d r + d
    fits (gives a) = omega arith
    fits (throws v) = omega arith

module _ (table : FunctionTable) where
  type_free : (e : Expr) (id : ℕ) (c : Context) {p : Part (Answer Value)} → Paid 1 1 p
      → Paid 1 1 (evaluate_typeof table e p id c)
  type_free (tree.name x at) id c y = typeof_free id c x
  type_free e id c y = bind y (λ v. operate_on_free id unary.Typeof v)

  mutual
    pub evaluate_earns : (e : Expr) (c : Context) → Earns (evaluate table e c)
    evaluate_earns (tree.this id) c = step_paid (ok (this_of c))
    evaluate_earns (tree.name x id) c = step_paid (read_free id c x)
    evaluate_earns (tree.number m id) c = step_paid (literal_free id (value.Num m))
    evaluate_earns (tree.string t id) c = step_paid (literal_free id (value.Text t))
    evaluate_earns (tree.boolean b id) c = step_paid (literal_free id (value.Bool b))
    evaluate_earns (tree.null id) c = step_paid (literal_free id value.Null)
    evaluate_earns (tree.array l id) c =
        step_paid (lift_free new_array (λ array. bind (fill_free l array 0 c 1) (λ n. array_free id array n)))
    evaluate_earns (tree.object l id) c =
        step_paid (lift_free new_plain_object (λ object. bind (equip_free l object c 1) (λ done.
        literal_of_free of_object id (value.Obj object))))
    evaluate_earns (tree.function_expression f id) c =
        step_paid (lift_free (make_function_expression c.strict c.env f) (λ object.
        literal_of_free of_function id (value.Obj object)))
    evaluate_earns (tree.dot o k id) c =
        step_paid (bind (free (evaluate_earns o c)) (λ base. read_member_free id base (value.Text k)))
    evaluate_earns (tree.index o k id) c =
        step_paid (bind (free (evaluate_earns o c)) (λ base. bind (free (evaluate_earns k c)) (λ key.
        read_member_free id base key)))
    evaluate_earns (tree.call f l id) c =
        step_paid (callee_paid f l id c (free (evaluate_earns f c)) (λ literals. evaluate_all table literals [] l c)
        (λ k d. values_gain k l [] c d))
    evaluate_earns (tree.new f l id) c =
        step_paid (bind (free (evaluate_earns f c)) (λ g. bind (all_free l (λ literals. evaluate_all table literals [] l c) (λ k d. values_gain k l [] c d) 1) (λ vs.
        invoke_free table id g value.Undefined vs true)))
    evaluate_earns (tree.unary un.Typeof e id) c = step_paid (type_free e id c (free (evaluate_earns e c)))
    evaluate_earns (tree.unary un.Delete e id) c = step_paid (deleted_free e id c (free (evaluate_earns e c)))
    evaluate_earns (tree.unary o e id) c =
        step_paid (bind (free (evaluate_earns e c)) (λ v. operate_on_free id (unary_kind o) v))
    evaluate_earns (tree.update up prefix t id) c = step_paid (updated_free t up prefix id c)
    evaluate_earns (tree.binary o a b id) c =
        step_paid (bind (free (evaluate_earns a c)) (λ x. bind (free (evaluate_earns b c)) (λ y. operate_free id o x y)))
    evaluate_earns (tree.and a b id) c =
        step_paid (bind (free (evaluate_earns a c)) (λ v. bind (decide_free id v) (λ truth.
        pick truth (free (evaluate_earns b c)) (ok v))))
    evaluate_earns (tree.or a b id) c =
        step_paid (bind (free (evaluate_earns a c)) (λ v. bind (decide_free id v) (λ truth.
        pick truth (ok v) (free (evaluate_earns b c)))))
    evaluate_earns (tree.conditional a b d id) c =
        step_paid (bind (free (evaluate_earns a c)) (λ v. bind (decide_free id v) (λ truth.
        pick truth (free (evaluate_earns b c)) (free (evaluate_earns d c)))))
    evaluate_earns (tree.assign o t e id) c = step_paid (assigned_free t o id c (free (evaluate_earns e c)))
    evaluate_earns (tree.comma a b id) c = step_paid (bind (free (evaluate_earns a c)) (λ v. free (evaluate_earns b c)))

    -- arguments
    values_gain : (literals : ℕ) (l : Exprs) (so_far : List Value) (c : Context) (d : ℕ)
        → Gains (λ vs. evaluated literals l) d d (evaluate_all table literals so_far l c)
    values_gain k tree.end so_far c d = record { at = omega arith }
    values_gain (suc k) (tree.more e l) so_far c d = values_gain k l so_far c d
    values_gain zero (tree.more e l) so_far c d =
        first_gains (evaluated 0 l) d (evaluate_earns e c) (λ v. values_gain 0 l (so_far ++ v ∷ []) c d)

    -- a call, by what is called
    callee_paid : (f : Expr) (l : Exprs) (id : ℕ) (c : Context) {p : Part (Answer Value)} → Paid 1 1 p
        → (args : Arguments) → Evaluates l args → Paid 1 1 (evaluate_call table f l p args id c)
    callee_paid (tree.dot o k at) l id c x args y =
        by_form (form_of_member o k) (member_fair o k) l c args y
        (bind (free (evaluate_earns o c)) (λ base. call_member_free table at id base (value.Text k) (all_free l args y 1)))
    callee_paid (tree.index o k at) l id c x args y =
        bind (free (evaluate_earns o c)) (λ base. bind (free (evaluate_earns k c)) (λ key.
        call_member_free table at id base key (all_free l args y 1)))
    callee_paid (tree.call f inner at) l id c x args y =
        of_call table c (form_of f) (form_fair f) inner (λ literals. evaluate_all table literals [] inner c)
        (λ k d. values_gain k inner [] c d) (count l) (all_free l args y) (call_value_free table id x (all_free l args y 1))
    callee_paid f l id c x args y = call_value_free table id x (all_free l args y 1)

    deleted_free : (e : Expr) (id : ℕ) (c : Context) {p : Part (Answer Value)} → Paid 1 1 p
        → Paid 1 1 (evaluate_delete table e p id c)
    deleted_free (tree.name x at) id c y = deletion_free c x
    deleted_free (tree.dot o k at) id c y =
        bind (free (evaluate_earns o c)) (λ base. delete_free id c.strict base (value.Text k))
    deleted_free (tree.index o k at) id c y =
        bind (free (evaluate_earns o c)) (λ base. bind (free (evaluate_earns k c)) (λ key. delete_free id c.strict base key))
    deleted_free e id c y = bind y (λ v. ok (value.Bool true))

    -- an assignment of a part's value
    assigned_free : (t : Tree ℕ tree.target) (o : Option BinOp) (id : ℕ) (c : Context) {p : Part (Answer Value)}
        → Paid 1 1 p → Paid 1 1 (evaluate_assignment table t o p id c)
    assigned_free (tree.to_name x) None id c y = assign_free id c x.text y
    assigned_free (tree.to_name x) (Some o) id c y = compute_free id c x.text o y
    assigned_free (tree.to_dot a k at) o id c y =
        bind (free (evaluate_earns a c)) (λ base. assign_member_free id c base (value.Text k) o y)
    assigned_free (tree.to_index a k at) o id c y =
        bind (free (evaluate_earns a c)) (λ base. bind (free (evaluate_earns k c)) (λ key.
        assign_member_free id c base key o y))

    updated_free : (t : Tree ℕ tree.target) (up prefix : Bool) (id : ℕ) (c : Context)
        → Paid 1 1 (evaluate_update table t up prefix id c)
    updated_free (tree.to_name x) up prefix id c = update_name_free id c x.text up prefix
    updated_free (tree.to_dot o k at) up prefix id c =
        bind (free (evaluate_earns o c)) (λ base. update_expression_free id c base (value.Text k) up prefix)
    updated_free (tree.to_index o k at) up prefix id c =
        bind (free (evaluate_earns o c)) (λ base. bind (free (evaluate_earns k c)) (λ key.
        update_expression_free id c base key up prefix))

    -- elements and properties
    fill_free : (l : Forest ℕ tree.item) (array : ObjId) (k : ℕ) (c : Context) (d : ℕ)
        → Paid d d (fill table l array k c)
    fill_free tree.end array k c d = ok k
    fill_free (tree.more t l) array k c d =
        bind (element_free t array k c d) (λ done. fill_free l array (k + 1) c d)

    element_free : (t : Tree ℕ tree.item) (array : ObjId) (k : ℕ) (c : Context) (d : ℕ)
        → Paid d d (fill_one table t array k c)
    element_free tree.hole array k c d = ok true
    element_free (tree.filled e) array k c d = bind (free (evaluate_earns e c)) (λ v. algorithm (put_element array k v))

    equip_free : (l : Forest ℕ tree.entry) (object : ObjId) (c : Context) (d : ℕ) → Paid d d (equip table l object c)
    equip_free tree.end object c d = ok tt
    equip_free (tree.more t l) object c d = bind (property_free t object c d) (λ done. equip_free l object c d)

    property_free : (t : Tree ℕ tree.entry) (object : ObjId) (c : Context) (d : ℕ)
        → Paid d d (equip_one table t object c)
    property_free (tree.value k e) object c d =
        bind (free (evaluate_earns e c)) (λ v. entry_free object k.text (plain_change v))
    property_free (tree.getter k f) object c d =
        lift_free (make_function c.strict c.env f) (λ g.
        entry_free object k.text (accessor_change (Some (Some g)) None))
    property_free (tree.setter k f) object c d =
        lift_free (make_function c.strict c.env f) (λ g.
        entry_free object k.text (accessor_change None (Some (Some g))))
