-- Compound assignments have operators of 11.13, as the grammar has them.
use Rattle.std.specs.Prelude.{◌≡◌, None, Option, Some}
use Rattle.jl_ast.specs.Tree.{absent, and, array, assign, binary, block, body, branch_of, call, case, catch, comma}
use Rattle.jl_ast.specs.Tree.{conditional, declarator, do_while, dot, end, expression, filled, for, for_in, function}
use Rattle.jl_ast.specs.Tree.{function_expression, getter, if_else, index, init_expression, init_var, labelled, more}
use Rattle.jl_ast.specs.Tree.{new, object, or, present, return, setter, switch, throw, to_dot, to_index, try, unary}
use Rattle.jl_ast.specs.Tree.{update, value, var, while, Forest, OptionalTree, Sort, Tree}
use Rattle.jl_ast.specs.declared.ops.BinOp.{BinOp}
use Rattle.jl_op.specs.Trace.{binary_sign}
use Rattle.jl_meaning.specs.forms.HookCalls.{assignment_operators, binary_among}

-- an operator of 11.13
abbrev pub IsAssignmentOperator : BinOp → Type 0
IsAssignmentOperator o = binary_among assignment_operators (binary_sign o) ≡ Some o

-- a plain assignment, or one with such an operator
abbrev pub IsAssignment : Option BinOp → Type 0
IsAssignment None = Unit {0}
IsAssignment (Some o) = IsAssignmentOperator o

-- each compound assignment has one
abbrev mutual
  pub AssignsByOperators : {S : Type 0} {x : Sort} → Tree S x → Type 0
  AssignsByOperators (array l s) = AllAssignByOperators l
  AssignsByOperators (object l s) = AllAssignByOperators l
  AssignsByOperators (function_expression f s) = AssignsByOperators f
  AssignsByOperators (dot o k s) = AssignsByOperators o
  AssignsByOperators (index o k s) = AssignsByOperators o × AssignsByOperators k
  AssignsByOperators (call f l s) = AssignsByOperators f × AllAssignByOperators l
  AssignsByOperators (new f l s) = AssignsByOperators f × AllAssignByOperators l
  AssignsByOperators (unary o e s) = AssignsByOperators e
  AssignsByOperators (update up prefix t s) = AssignsByOperators t
  AssignsByOperators (binary o a b s) = AssignsByOperators a × AssignsByOperators b
  AssignsByOperators (and a b s) = AssignsByOperators a × AssignsByOperators b
  AssignsByOperators (or a b s) = AssignsByOperators a × AssignsByOperators b
  AssignsByOperators (conditional a b c s) = AssignsByOperators a × AssignsByOperators b × AssignsByOperators c
  AssignsByOperators (assign o t e s) = IsAssignment o × AssignsByOperators t × AssignsByOperators e
  AssignsByOperators (comma a b s) = AssignsByOperators a × AssignsByOperators b
  AssignsByOperators (to_dot o k s) = AssignsByOperators o
  AssignsByOperators (to_index o k s) = AssignsByOperators o × AssignsByOperators k
  AssignsByOperators (filled e) = AssignsByOperators e
  AssignsByOperators (value k e) = AssignsByOperators e
  AssignsByOperators (getter k f) = AssignsByOperators f
  AssignsByOperators (setter k f) = AssignsByOperators f
  AssignsByOperators (function m x params b s) = AssignsByOperators b
  AssignsByOperators (body strict fs l) = AllAssignByOperators fs × AllAssignByOperators l
  AssignsByOperators (var l s) = AllAssignByOperators l
  AssignsByOperators (expression e s) = AssignsByOperators e
  AssignsByOperators (block l s) = AllAssignByOperators l
  AssignsByOperators (if_else e a b s) = AssignsByOperators e × AllAssignByOperators a × AssignsByOperatorsIfPresent b
  AssignsByOperators (do_while l e s) = AllAssignByOperators l × AssignsByOperators e
  AssignsByOperators (while e l s) = AssignsByOperators e × AllAssignByOperators l
  AssignsByOperators (for i e u l s) =
      AssignsByOperators i × AssignsByOperatorsIfPresent e × AssignsByOperatorsIfPresent u × AllAssignByOperators l
  AssignsByOperators (for_in is_var x o l s) = AssignsByOperators o × AllAssignByOperators l
  AssignsByOperators (return e s) = AssignsByOperatorsIfPresent e
  AssignsByOperators (labelled x t s) = AssignsByOperators t
  AssignsByOperators (switch e l s) = AssignsByOperators e × AllAssignByOperators l
  AssignsByOperators (throw e s) = AssignsByOperators e
  AssignsByOperators (try l h f s) =
      AllAssignByOperators l × AssignsByOperatorsIfPresent h × AssignsByOperatorsIfPresent f
  AssignsByOperators (init_expression e) = AssignsByOperators e
  AssignsByOperators (init_var l) = AllAssignByOperators l
  AssignsByOperators (declarator x e) = AssignsByOperatorsIfPresent e
  AssignsByOperators (case e l) = AssignsByOperatorsIfPresent e × AllAssignByOperators l
  AssignsByOperators (branch_of l) = AllAssignByOperators l
  AssignsByOperators (catch x l) = AllAssignByOperators l
  AssignsByOperators _ = Unit {0}

  pub AllAssignByOperators : {S : Type 0} {x : Sort} → Forest S x → Type 0
  AllAssignByOperators end = Unit {0}
  AllAssignByOperators (more t l) = AssignsByOperators t × AllAssignByOperators l

  pub AssignsByOperatorsIfPresent : {S : Type 0} {x : Sort} → OptionalTree S x → Type 0
  AssignsByOperatorsIfPresent absent = Unit {0}
  AssignsByOperatorsIfPresent (present t) = AssignsByOperators t
