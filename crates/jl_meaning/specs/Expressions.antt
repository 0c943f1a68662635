-- What expressions do (clause 11). Each takes a step when it begins. An expression is handed the context in which it
-- runs; the place of a node is the first id of its operations. What a form does when its parts have their values is
-- said in forms/; here stand the parts, in the order in which they are evaluated. A call that looks like one of a
-- hook is one.
use Rattle.std.specs.Option.{option_map_or}
use Rattle.std.specs.Prelude.{[], if◌then◌else◌, length, suc, true, zero, ◌++◌, ◌+◌, ◌∷◌, Bool, List, None, Option}
use Rattle.std.specs.Prelude.{Some, ℕ}
use Rattle.jl_ast.specs.Tree.{Tree}
use Rattle.jl_ast.specs.Tree as tree
use Rattle.jl_ast.specs.declared.ops.BinOp.{BinOp}
use Rattle.jl_ast.specs.declared.ops.UnOp.TheVariants as un
use Rattle.jl_value.specs.declared.object.ObjId.{ObjId}
use Rattle.jl_value.specs.declared.value.Value.{Value}
use Rattle.jl_value.specs.declared.value.Value.TheVariants as value
use Rattle.jl_op.specs.declared.sign.UnKind.TheVariants as unary
use Rattle.jl_op.specs.UnaryKinds.{unary_kind}
use Rattle.jl_effects.specs.Effects.{Step}
use Rattle.jl_meaning.specs.Defining.{plain_change}
use Rattle.jl_meaning.specs.FunctionObjects.{make_function, make_function_expression, FunctionTable}
use Rattle.jl_meaning.specs.Intrinsics.{global_object}
use Rattle.jl_meaning.specs.Noting.{performs}
use Rattle.jl_meaning.specs.Parts.{give, lift, ◌>>=◌, Answer, Context, Expr, Exprs, Part, Running}
use Rattle.jl_meaning.specs.forms.Calls.{call_member, call_value, invoke}
use Rattle.jl_meaning.specs.forms.HookCalls.{count, form_of, form_of_member}
use Rattle.jl_meaning.specs.forms.Hooks.{call_by_form, call_of_call, Arguments}
use Rattle.jl_meaning.specs.forms.Literals.{accessor_change, define_entry, end_array, literal, literal_of, new_array}
use Rattle.jl_meaning.specs.forms.Literals.{new_plain_object, of_function, of_object, put_element}
use Rattle.jl_meaning.specs.forms.Members.{assign_member, delete_member, read_member, update_expression}
use Rattle.jl_meaning.specs.forms.Names.{assign_name, compute_name, delete_identifier, read_name, typeof_name}
use Rattle.jl_meaning.specs.forms.Names.{update_name}
use Rattle.jl_meaning.specs.forms.Operators.{decide, operate, operate_on}

-- what `this` is (10.3, 11.1.1): in global code the global object
abbrev pub this_of : Context → Value
this_of c = option_map_or (λ (r : Running). r.this) c.call (value.Obj global_object)

module _ (table : FunctionTable) where
  abbrev mutual
    -- the value of an expression
    pub evaluate : Expr → Context → Part (Answer Value)
    -- names
    evaluate (tree.this id) c = Step (give (this_of c))
    evaluate (tree.name x id) c = Step (read_name id c x)
    -- literals
    evaluate (tree.number m id) c = Step (literal performs id (value.Num m))
    evaluate (tree.string t id) c = Step (literal performs id (value.Text t))
    evaluate (tree.boolean b id) c = Step (literal performs id (value.Bool b))
    evaluate (tree.null id) c = Step (literal performs id value.Null)
    evaluate (tree.array l id) c = Step do
      array ← lift new_array
      length ← fill l array 0 c
      end_array id array length
    evaluate (tree.object l id) c = Step do
      object ← lift new_plain_object
      _ ← equip l object c
      literal_of of_object id (value.Obj object)
    evaluate (tree.function_expression f id) c = Step do
      object ← lift (make_function_expression c.strict c.env f)
      literal_of of_function id (value.Obj object)
    -- members
    evaluate (tree.dot o k id) c = Step do
      base ← evaluate o c
      read_member id base (value.Text k)
    evaluate (tree.index o k id) c = Step do
      base ← evaluate o c
      key ← evaluate k c
      read_member id base key
    -- calls
    evaluate (tree.call f l id) c =
        Step (evaluate_call f l (evaluate f c) (λ literals. evaluate_all literals [] l c) id c)
    evaluate (tree.new f l id) c = Step do
      constructor ← evaluate f c
      vs ← evaluate_all 0 [] l c
      invoke table performs id constructor value.Undefined vs true
    -- operators
    evaluate (tree.unary un.Typeof e id) c = Step (evaluate_typeof e (evaluate e c) id c)
    evaluate (tree.unary un.Delete e id) c = Step (evaluate_delete e (evaluate e c) id c)
    evaluate (tree.unary o e id) c = Step do
      v ← evaluate e c
      operate_on performs id (unary_kind o) v
    evaluate (tree.update up prefix t id) c = Step (evaluate_update t up prefix id c)
    evaluate (tree.binary o a b id) c = Step do
      x ← evaluate a c
      y ← evaluate b c
      operate performs id o x y
    evaluate (tree.and a b id) c = Step do
      v ← evaluate a c
      truth ← decide id v
      if truth then evaluate b c else give v
    evaluate (tree.or a b id) c = Step do
      v ← evaluate a c
      truth ← decide id v
      if truth then give v else evaluate b c
    evaluate (tree.conditional a b d id) c = Step do
      v ← evaluate a c
      truth ← decide id v
      if truth then evaluate b c else evaluate d c
    evaluate (tree.assign o t e id) c = Step (evaluate_assignment t o (evaluate e c) id c)
    evaluate (tree.comma a b id) c = Step do
      _ ← evaluate a c
      evaluate b c

    -- these values and those of the expressions, but for so many literals that stand first (11.2.4)
    pub evaluate_all : (literals : ℕ) → (so_far : List Value) → Exprs → Context → Part (Answer (List Value))
    evaluate_all literals so_far tree.end c = give so_far
    evaluate_all (suc k) so_far (tree.more e l) c = evaluate_all k so_far l c
    evaluate_all zero so_far (tree.more e l) c = do
      v ← evaluate e c
      evaluate_all 0 (so_far ++ v ∷ []) l c

    -- a call (11.2.3) of what stands as its callee, which by itself gives a value, with arguments, which give theirs
    pub evaluate_call : Expr → (l : Exprs) → (itself : Part (Answer Value)) → Arguments → (id : ℕ) → Context
        → Part (Answer Value)
    evaluate_call (tree.dot o k at) l itself args id c = call_by_form (form_of_member o k) l c args (do
      base ← evaluate o c
      call_member table at id base (value.Text k) (args 0))
    evaluate_call (tree.index o k at) l itself args id c = do
      base ← evaluate o c
      key ← evaluate k c
      call_member table at id base key (args 0)
    evaluate_call (tree.call f inner at) l itself args id c =
        call_of_call table c (form_of f) inner (λ literals. evaluate_all literals [] inner c) (count l) (args 0)
        (call_value table id itself (args 0))
    evaluate_call f l itself args id c = call_value table id itself (args 0)

    -- `typeof` of what by itself gives a value (11.4.3)
    pub evaluate_typeof : Expr → (itself : Part (Answer Value)) → (id : ℕ) → Context → Part (Answer Value)
    evaluate_typeof (tree.name x at) itself id c = typeof_name id c x
    evaluate_typeof e itself id c = do
      v ← itself
      operate_on performs id unary.Typeof v

    -- `delete` of what by itself gives a value (11.4.1)
    pub evaluate_delete : Expr → (itself : Part (Answer Value)) → (id : ℕ) → Context → Part (Answer Value)
    evaluate_delete (tree.name x at) itself id c = delete_identifier c x
    evaluate_delete (tree.dot o k at) itself id c = do
      base ← evaluate o c
      delete_member performs id c.strict base (value.Text k)
    evaluate_delete (tree.index o k at) itself id c = do
      base ← evaluate o c
      key ← evaluate k c
      delete_member performs id c.strict base key
    evaluate_delete e itself id c = do
      _ ← itself
      give (value.Bool true)

    -- an assignment of what e gives (11.13)
    pub evaluate_assignment : Tree ℕ tree.target → Option BinOp → (e : Part (Answer Value)) → (id : ℕ) → Context
        → Part (Answer Value)
    evaluate_assignment (tree.to_name x) None e id c = assign_name id c x.text e
    evaluate_assignment (tree.to_name x) (Some o) e id c = compute_name id c x.text o e
    evaluate_assignment (tree.to_dot a k at) o e id c = do
      base ← evaluate a c
      assign_member id c base (value.Text k) o e
    evaluate_assignment (tree.to_index a k at) o e id c = do
      base ← evaluate a c
      key ← evaluate k c
      assign_member id c base key o e

    -- `++` and `--` (11.3, 11.4.4, 11.4.5)
    pub evaluate_update : Tree ℕ tree.target → (up prefix : Bool) → (id : ℕ) → Context → Part (Answer Value)
    evaluate_update (tree.to_name x) up prefix id c = update_name id c x.text up prefix
    evaluate_update (tree.to_dot o k at) up prefix id c = do
      base ← evaluate o c
      update_expression id c base (value.Text k) up prefix
    evaluate_update (tree.to_index o k at) up prefix id c = do
      base ← evaluate o c
      key ← evaluate k c
      update_expression id c base key up prefix

    -- the elements of an array literal from an index on; it gives how many indices there are (11.1.4)
    pub fill : tree.Forest ℕ tree.item → (array : ObjId) → (index : ℕ) → Context → Part (Answer ℕ)
    fill tree.end array k c = give k
    fill (tree.more t l) array k c = do
      _ ← fill_one t array k c
      fill l array (k + 1) c

    pub fill_one : Tree ℕ tree.item → (array : ObjId) → (index : ℕ) → Context → Part (Answer Bool)
    fill_one tree.hole array k c = give true
    fill_one (tree.filled e) array k c = do
      v ← evaluate e c
      lift (put_element array k v)

    -- the properties of an object literal (11.1.5)
    pub equip : tree.Forest ℕ tree.entry → ObjId → Context → Part (Answer (Unit {0}))
    equip tree.end object c = give tt
    equip (tree.more t l) object c = do
      _ ← equip_one t object c
      equip l object c

    pub equip_one : Tree ℕ tree.entry → ObjId → Context → Part (Answer Bool)
    equip_one (tree.value k e) object c = do
      v ← evaluate e c
      define_entry object k.text (plain_change v)
    equip_one (tree.getter k f) object c = do
      getter ← lift (make_function c.strict c.env f)
      define_entry object k.text (accessor_change (Some (Some getter)) None)
    equip_one (tree.setter k f) object c = do
      setter ← lift (make_function c.strict c.env f)
      define_entry object k.text (accessor_change None (Some (Some setter)))
