-- What plain scripts come to when they have their ids: no part is the name of the hooks, the ids that hooks are called
-- with are below the limit, and the ids of a call follow that of its member.
use Rattle.std.specs.Prelude.{false, ◌+◌, ◌<◌, ◌≡◌, None, Option, Some, ℕ}
use Rattle.jl_ast.specs.Tree.{absent, and, array, assign, binary, block, body, boolean, branch_of, call, case, catch}
use Rattle.jl_ast.specs.Tree.{comma, conditional, declarator, do_while, dot, end, expression, filled, for, for_in}
use Rattle.jl_ast.specs.Tree.{function, function_expression, getter, handler, if_else, index, init_expression}
use Rattle.jl_ast.specs.Tree.{init_var, labelled, more, name, new, null, number, object, or, present, return, setter}
use Rattle.jl_ast.specs.Tree.{string, switch, throw, to_dot, to_index, to_name, try, unary, update, value, var, while}
use Rattle.jl_ast.specs.Tree.{Forest, OptionalTree, Sort, Tree}
use Rattle.jl_ast.specs.declared.ops.BinOp.{BinOp}
use Rattle.jl_ast.specs.declared.ops.UnOp.{UnOp}
use Rattle.jl_ast.specs.declared.ops.UnOp.TheVariants.{Delete, Typeof}
use Rattle.jl_meaning.specs.Parts.{do_loop, for_in_loop, for_loop, while_loop, Expr, Loop}
use Rattle.jl_meaning.specs.forms.Names.{is_hooks}
use Rattle.jl_simulation.specs.CompoundAssignments.{IsAssignmentOperator}
use Rattle.jl_simulation.specs.Plain.{id_limit}

-- an assignment with an operator has one of 11.13, and takes three ids
abbrev pub AssignmentFits : Option BinOp → (id : ℕ) → Type 0
AssignmentFits None id = id < id_limit
AssignmentFits (Some o) id = IsAssignmentOperator o × (id + 2 < id_limit)

-- the ids of a call follow that of the member that is called
abbrev pub FollowsMember : Expr → (id : ℕ) → Type 0
FollowsMember (dot o k get) id = get + 1 ≡ id
FollowsMember (index o k get) id = get + 1 ≡ id
FollowsMember f id = Unit {0}

-- the id of a part, where it is there
abbrev pub HasId : {x : Sort} → OptionalTree ℕ x → (id : ℕ) → Type 0
HasId absent id = Unit {0}
HasId (present e) id = id < id_limit

abbrev pub HandlerHasId : OptionalTree ℕ handler → Type 0
HandlerHasId absent = Unit {0}
HandlerHasId (present (catch x l)) = x.at < id_limit

-- an operator, by whether its operand fits: of `delete` only that of a member has an id, and a name is read by no other
abbrev pub UnaryFits : UnOp → Expr → (itself : Type 0) → (id : ℕ) → Type 0
UnaryFits Typeof (name x at) itself id = (is_hooks x ≡ false) × (id < id_limit)
UnaryFits Delete (name x at) itself id = is_hooks x ≡ false
UnaryFits Delete (dot o k at) itself id = itself × (id < id_limit)
UnaryFits Delete (index o k at) itself id = itself × (id < id_limit)
UnaryFits Delete e itself id = itself
UnaryFits o e itself id = itself × (id < id_limit)

abbrev mutual
  pub Fits : {x : Sort} → Tree ℕ x → Type 0
  Fits (name x s) = (is_hooks x ≡ false) × (s < id_limit)
  Fits (number m s) = s < id_limit
  Fits (string t s) = s < id_limit
  Fits (boolean b s) = s < id_limit
  Fits (null s) = s < id_limit
  Fits (array l s) = AllFit l × (s < id_limit)
  Fits (object l s) = AllFit l × (s < id_limit)
  Fits (function_expression f s) = Fits f × (s < id_limit)
  Fits (dot o k s) = Fits o × (s < id_limit)
  Fits (index o k s) = Fits o × Fits k × (s < id_limit)
  Fits (call f l s) = Fits f × AllFit l × (s < id_limit) × FollowsMember f s
  Fits (new f l s) = Fits f × AllFit l × (s < id_limit)
  Fits (unary o e s) = UnaryFits o e (Fits e) s
  Fits (update up prefix t s) = Fits t × (s + 2 < id_limit)
  Fits (binary o a b s) = Fits a × Fits b × (s < id_limit)
  Fits (and a b s) = Fits a × Fits b × (s < id_limit)
  Fits (or a b s) = Fits a × Fits b × (s < id_limit)
  Fits (conditional a b c s) = Fits a × Fits b × Fits c × (s < id_limit)
  Fits (assign o t e s) = AssignmentFits o s × Fits t × Fits e
  Fits (comma a b s) = Fits a × Fits b
  Fits (to_name x) = is_hooks x.text ≡ false
  Fits (to_dot o k s) = Fits o
  Fits (to_index o k s) = Fits o × Fits k
  Fits (filled e) = Fits e
  Fits (value k e) = Fits e
  Fits (getter k f) = Fits f
  Fits (setter k f) = Fits f
  Fits (function m x params b s) = Fits b × (s + 1 < id_limit)
  Fits (body strict fs l) = AllFit fs × AllFit l
  Fits (var l s) = AllFit l
  Fits (expression e s) = Fits e
  Fits (block l s) = AllFit l
  Fits (if_else e a b s) = Fits e × AllFit a × FitsIfPresent b × (s < id_limit)
  Fits (do_while l e s) = AllFit l × Fits e × (s < id_limit)
  Fits (while e l s) = Fits e × AllFit l × (s < id_limit)
  Fits (for i e u l s) = Fits i × FitsIfPresent e × FitsIfPresent u × AllFit l × HasId e s
  Fits (for_in is_var x o l s) = (is_hooks x.text ≡ false) × Fits o × AllFit l × (s < id_limit)
  Fits (return e s) = FitsIfPresent e × HasId e s
  Fits (labelled x t s) = Fits t
  Fits (switch e l s) = Fits e × AllFit l
  Fits (throw e s) = Fits e × (s < id_limit)
  Fits (try l h f s) = AllFit l × FitsIfPresent h × FitsIfPresent f × HandlerHasId h
  Fits (init_expression e) = Fits e
  Fits (init_var l) = AllFit l
  Fits (declarator x e) = (is_hooks x.text ≡ false) × FitsIfPresent e × HasId e x.at
  Fits (case e l) = FitsIfPresent e × AllFit l
  Fits (branch_of l) = AllFit l
  Fits (catch x l) = (is_hooks x.text ≡ false) × AllFit l
  Fits _ = Unit {0}

  pub AllFit : {x : Sort} → Forest ℕ x → Type 0
  AllFit end = Unit {0}
  AllFit (more t l) = Fits t × AllFit l

  pub FitsIfPresent : {x : Sort} → OptionalTree ℕ x → Type 0
  FitsIfPresent absent = Unit {0}
  FitsIfPresent (present t) = Fits t

-- a loop, with the id of its test
abbrev pub LoopFits : Loop → (id : ℕ) → Type 0
LoopFits (do_loop l e) id = AllFit l × Fits e × (id < id_limit)
LoopFits (while_loop e l) id = Fits e × AllFit l × (id < id_limit)
LoopFits (for_loop e u l) id = FitsIfPresent e × FitsIfPresent u × AllFit l × HasId e id
LoopFits (for_in_loop x y rest l) id = (is_hooks x ≡ false) × AllFit l
