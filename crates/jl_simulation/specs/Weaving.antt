-- The woven program: a node that performs an operation of a chosen kind calls the hook that does the same and emits
-- all operations of the node; a node none of whose kinds is chosen keeps its form, with its parts woven. Ids are the
-- places of nodes, whatever is chosen.
use Rattle.std.specs.BTreeMap.{get}
use Rattle.std.specs.Prelude.{codes, if◌then◌else◌, map, option_map, ◌+◌, ◌||◌, Bool, None, Option, Some, ℕ}
use Rattle.jl_ast.specs.Tree.{Forest, OptionalTree, Program, Sort, Tree}
use Rattle.jl_ast.specs.Tree as tree
use Rattle.jl_ast.specs.declared.ops.BinOp.{BinOp}
use Rattle.jl_ast.specs.declared.ops.UnOp.TheVariants as un
use Rattle.jl_op.specs.Chosen.{Kinds}
use Rattle.jl_op.specs.Ids.{program_with_ids}
use Rattle.jl_op.specs.declared.kind.OpKind.{OpKind}
use Rattle.jl_op.specs.declared.kind.OpKind.TheVariants as kind
use Rattle.jl_op.specs.declared.sign.UnKind.TheVariants as unary
use Rattle.jl_op.specs.UnaryKinds.{unary_kind, update_kind}
use Rattle.jl_simulation.specs.HookCalls.{assign, assign_hook, before_update, begin_and_end, binary_hook}
use Rattle.jl_simulation.specs.HookCalls.{catch_and_go_on}
use Rattle.jl_simulation.specs.HookCalls.{enter_and_leave, hook_1, hook_2, hook_of_1, literal, name_of, string_of, read}
use Rattle.jl_simulation.specs.HookCalls.{test}
use Rattle.jl_simulation.specs.HookCalls.{unary_hook, update_hook, without_id, write, Expr, Woven}

module _ (chosen : Kinds) where
  -- which nodes call a hook: calls, calls of members, what reads, computes and writes, and assignments
  abbrev pub calls : Bool
  calls = chosen kind.InvokePre || chosen kind.InvokePost

  abbrev pub calls_member : Bool
  calls_member = chosen kind.GetField || calls

  abbrev pub computes : Tree ℕ tree.target → OpKind → Bool
  computes (tree.to_name x) o = chosen kind.Read || chosen o || chosen kind.Write
  computes t o = chosen kind.GetField || chosen o || chosen kind.PutField

  abbrev pub assigns : Option BinOp → Tree ℕ tree.target → Bool
  assigns None (tree.to_name x) = chosen kind.Write
  assigns None t = chosen kind.PutField
  assigns (Some o) t = computes t kind.Binary

  -- by a hook where this kind is chosen
  abbrev pub hooked_if : OpKind → (by_hook : Expr → Expr) → Expr → Expr
  hooked_if o by_hook e = if chosen o then by_hook e else e

  -- the value of a test
  abbrev pub hook_test : (id : ℕ) → Expr → Expr
  hook_test id e = hooked_if kind.Conditional (test id) e

  -- o[k], of parts that are woven
  abbrev pub woven_member : (id : ℕ) → (base key : Expr) → (itself : Expr) → Expr
  woven_member id base key itself = if chosen kind.GetField then hook_2 (codes "G") id base key else itself

  -- the same as the callee of a call
  abbrev pub woven_method : (id : ℕ) → (base key : Expr) → (itself : Expr) → Expr
  woven_method id base key itself = if calls_member then hook_2 (codes "M") id base key else itself

  -- delete o[k]
  abbrev pub woven_member_delete : (id : ℕ) → (base key : Expr) → (itself : Expr) → Expr
  woven_member_delete id base key itself =
      if chosen kind.DeleteField then hook_2 (codes "Z") id base key else tree.unary un.Delete itself tt

  -- `typeof` of this operand, which is woven by itself
  abbrev pub woven_typeof : (id : ℕ) → Tree ℕ tree.expr → (itself : Expr) → Expr
  woven_typeof id (tree.name x s) itself =
      hooked_if kind.TypeofName (hook_of_1 (codes "Y") id x) (tree.unary un.Typeof (name_of x) tt)
  woven_typeof id e itself =
      if chosen kind.Unary then unary_hook id unary.Typeof itself else tree.unary un.Typeof itself tt

  abbrev mutual
    pub weave : {x : Sort} → Tree ℕ x → Woven x
    -- names
    weave (tree.this id) = tree.this tt
    weave (tree.name x id) = if chosen kind.Read then read id x else name_of x
    -- literals
    weave (tree.number m id) = hooked_if kind.Literal (literal id) (tree.number m tt)
    weave (tree.string t id) = hooked_if kind.Literal (literal id) (tree.string t tt)
    weave (tree.boolean b id) = hooked_if kind.Literal (literal id) (tree.boolean b tt)
    weave (tree.null id) = hooked_if kind.Literal (literal id) (tree.null tt)
    weave (tree.array l id) = hooked_if kind.ArrayLiteral (literal id) (tree.array (woven_forest l) tt)
    weave (tree.object l id) = hooked_if kind.ObjectLiteral (literal id) (tree.object (woven_forest l) tt)
    weave (tree.function_expression f id) =
        hooked_if kind.FunctionLiteral (literal id) (tree.function_expression (weave f) tt)
    -- members
    weave (tree.dot o k id) = woven_member id (weave o) (string_of k) (tree.dot (weave o) k tt)
    weave (tree.index o k id) = woven_member id (weave o) (weave k) (tree.index (weave o) (weave k) tt)
    -- calls
    weave (tree.call f l id) = tree.call (woven_callee f (weave f) id) (woven_forest l) tt
    weave (tree.new f l id) =
        if calls then tree.call (hook_1 (codes "N") id (weave f)) (woven_forest l) tt
        else tree.new (weave f) (woven_forest l) tt
    -- operators
    weave (tree.unary un.Typeof e id) = woven_typeof id e (weave e)
    weave (tree.unary un.Delete e id) = woven_delete e (weave e) id
    weave (tree.unary o e id) =
        if chosen kind.Unary then unary_hook id (unary_kind o) (weave e) else tree.unary o (weave e) tt
    weave (tree.update up prefix t id) =
        if computes t kind.Unary then before_update up prefix (woven_update up t id)
        else tree.update up prefix (weave t) tt
    weave (tree.binary o a b id) =
        if chosen kind.Binary then binary_hook id o (weave a) (weave b) else tree.binary o (weave a) (weave b) tt
    weave (tree.and a b id) = tree.and (hook_test id (weave a)) (weave b) tt
    weave (tree.or a b id) = tree.or (hook_test id (weave a)) (weave b) tt
    weave (tree.conditional a b c id) = tree.conditional (hook_test id (weave a)) (weave b) (weave c) tt
    weave (tree.assign o t e id) =
        if assigns o t then woven_assignment o t (weave e) id else tree.assign o (weave t) (weave e) tt
    weave (tree.comma a b id) = tree.comma (weave a) (weave b) tt
    -- targets, and the parts of literals
    weave (tree.to_name x) = tree.to_name (without_id x)
    weave (tree.to_dot o k id) = tree.to_dot (weave o) k tt
    weave (tree.to_index o k id) = tree.to_index (weave o) (weave k) tt
    weave tree.hole = tree.hole
    weave (tree.filled e) = tree.filled (weave e)
    weave (tree.value k e) = tree.value (without_id k) (weave e)
    weave (tree.getter k f) = tree.getter (without_id k) (weave f)
    weave (tree.setter k f) = tree.setter (without_id k) (weave f)
    -- functions
    weave (tree.function m x params b id) =
        tree.function m (option_map without_id x) (map without_id params) (woven_body id b) tt
    weave (tree.body strict fs l) = tree.body strict (woven_forest fs) (woven_forest l)
    -- simple statements
    weave (tree.var l id) = tree.var (woven_forest l) tt
    weave (tree.declarator x tree.absent) = tree.declarator (without_id x) tree.absent
    weave (tree.declarator x (tree.present e)) =
        tree.declarator (without_id x) (tree.present (hooked_if kind.Write (write x.at x.text) (weave e)))
    weave (tree.empty id) = tree.empty tt
    weave (tree.expression e id) = tree.expression (weave e) tt
    weave (tree.block l id) = tree.block (woven_forest l) tt
    weave (tree.debugger id) = tree.debugger tt
    -- if
    weave (tree.if_else e a b id) = tree.if_else (hook_test id (weave e)) (woven_forest a) (woven_optional b) tt
    weave (tree.branch_of l) = tree.branch_of (woven_forest l)
    -- loops
    weave (tree.do_while l e id) = tree.do_while (woven_forest l) (hook_test id (weave e)) tt
    weave (tree.while e l id) = tree.while (hook_test id (weave e)) (woven_forest l) tt
    weave (tree.for i e u l id) = tree.for (weave i) (woven_test id e) (woven_optional u) (woven_forest l) tt
    weave tree.nothing = tree.nothing
    weave (tree.init_expression e) = tree.init_expression (weave e)
    weave (tree.init_var l) = tree.init_var (woven_forest l)
    weave (tree.for_in is_var x o l id) =
        tree.for_in is_var (without_id x) (hooked_if kind.ForIn (hook_1 (codes "O") id) (weave o)) (woven_forest l) tt
    -- jumps
    weave (tree.continue x id) = tree.continue (option_map without_id x) tt
    weave (tree.break x id) = tree.break (option_map without_id x) tt
    weave (tree.return tree.absent id) = tree.return tree.absent tt
    weave (tree.return (tree.present e) id) =
        tree.return (tree.present (hooked_if kind.Return (hook_1 (codes "V") id) (weave e))) tt
    weave (tree.throw e id) = tree.throw (hooked_if kind.Throw (hook_1 (codes "K") id) (weave e)) tt
    weave (tree.labelled x t id) = tree.labelled (without_id x) (weave t) tt
    -- switch
    weave (tree.switch e l id) = tree.switch (weave e) (woven_forest l) tt
    weave (tree.case e l) = tree.case (woven_optional e) (woven_forest l)
    -- try
    weave (tree.try l h f id) = tree.try (woven_forest l) (woven_optional h) (woven_optional f) tt
    weave (tree.catch x l) =
        tree.catch (without_id x)
        (if chosen kind.Catch then catch_and_go_on x.at x.text (woven_forest l) else woven_forest l)

    -- the callee of a call: a member by M, and any other by F
    pub woven_callee : Tree ℕ tree.expr → (itself : Expr) → (id : ℕ) → Expr
    woven_callee (tree.dot o k get) itself id = woven_method get (weave o) (string_of k) (tree.dot (weave o) k tt)
    woven_callee (tree.index o k get) itself id =
        woven_method get (weave o) (weave k) (tree.index (weave o) (weave k) tt)
    woven_callee f itself id = if calls then hook_1 (codes "F") id itself else itself

    -- what is deleted: a member by Z; a name stays
    pub woven_delete : Tree ℕ tree.expr → (itself : Expr) → (id : ℕ) → Expr
    woven_delete (tree.name x at) itself id = tree.unary un.Delete (name_of x) tt
    woven_delete (tree.dot o k at) itself id =
        woven_member_delete id (weave o) (string_of k) (tree.dot (weave o) k tt)
    woven_delete (tree.index o k at) itself id =
        woven_member_delete id (weave o) (weave k) (tree.index (weave o) (weave k) tt)
    woven_delete e itself id = tree.unary un.Delete itself tt

    -- the new value of `++` and `--`
    pub woven_update : (up : Bool) → Tree ℕ tree.target → (id : ℕ) → Expr
    woven_update up (tree.to_name x) id =
        assign x (id + 2) (unary_hook (id + 1) (update_kind up) (read id x.text))
    woven_update up (tree.to_dot o k at) id = update_hook id up (weave o) (string_of k)
    woven_update up (tree.to_index o k at) id = update_hook id up (weave o) (weave k)

    -- an assignment of what is woven already
    pub woven_assignment : Option BinOp → Tree ℕ tree.target → (e : Expr) → (id : ℕ) → Expr
    woven_assignment None (tree.to_name x) e id = assign x id e
    woven_assignment (Some o) (tree.to_name x) e id =
        assign x (id + 2) (binary_hook (id + 1) o (read id x.text) e)
    woven_assignment o (tree.to_dot a k at) e id = assign_hook id o (weave a) (string_of k) e
    woven_assignment o (tree.to_index a k at) e id = assign_hook id o (weave a) (weave k) e

    -- the test of a `for`, if it has one
    pub woven_test : (id : ℕ) → OptionalTree ℕ tree.expr → OptionalTree (Unit {0}) tree.expr
    woven_test id tree.absent = tree.absent
    woven_test id (tree.present e) = tree.present (hook_test id (weave e))

    -- the body of a function tells that it was entered, and however it ends that it was left
    pub woven_body : (id : ℕ) → Tree ℕ tree.code → Woven tree.code
    woven_body id (tree.body strict fs l) =
        tree.body strict (woven_forest fs)
        (if chosen kind.FunctionEnter || chosen kind.FunctionExit then enter_and_leave id (woven_forest l)
        else woven_forest l)

    pub woven_forest : {x : Sort} → Forest ℕ x → Forest (Unit {0}) x
    woven_forest tree.end = tree.end
    woven_forest (tree.more t l) = tree.more (weave t) (woven_forest l)

    pub woven_optional : {x : Sort} → OptionalTree ℕ x → OptionalTree (Unit {0}) x
    woven_optional tree.absent = tree.absent
    woven_optional (tree.present t) = tree.present (weave t)

  -- a program tells of its beginning and of its normal end
  abbrev pub woven_code : (id : ℕ) → Tree ℕ tree.code → Woven tree.code
  woven_code id (tree.body strict fs l) =
      tree.body strict (woven_forest fs)
      (if chosen kind.ScriptEnter || chosen kind.ScriptExit then begin_and_end id (woven_forest l)
      else woven_forest l)

  -- the woven program, of one that has its ids
  abbrev pub woven_of : Program ℕ → Program (Unit {0})
  woven_of p = record { body = woven_code p.at p.body; at = tt }

  -- the woven program
  unfoldable pub woven_program : {S : Type 0} → Program S → Program (Unit {0})
  woven_program p = woven_of (program_with_ids p)
