-- The functions of a script by number, in the order of jl_ast's specs/Table, each with whether it is strict code.
use Rattle.std.specs.Prelude.{[], false, ◌++◌, ◌∷◌, Bool, List, ℕ}
use Rattle.jl_ast.specs.Tree.{absent, and, array, assign, binary, block, body, boolean, branch_of, break, call, case}
use Rattle.jl_ast.specs.Tree.{catch, comma, conditional, continue, debugger, declarator, do_while, dot, empty, end}
use Rattle.jl_ast.specs.Tree.{expression, filled, for, for_in, function, function_expression, getter, hole}
use Rattle.jl_ast.specs.Tree.{if_else, index, init_expression, init_var, labelled, more, name, new, nothing, null}
use Rattle.jl_ast.specs.Tree.{number, object, or, present, return, setter, string, switch, this, throw, to_dot}
use Rattle.jl_ast.specs.Tree.{to_index, to_name, try, unary, update, value, var, while, Forest, OptionalTree, Program}
use Rattle.jl_ast.specs.Tree.{Sort, Tree}
use Rattle.jl_scope.specs.Hoisting.{strict_in}
use Rattle.jl_meaning.specs.FunctionObjects.{is_strict, FunctionTable, ScriptFunction}

abbrev mutual
  -- the functions of a tree by number, inside code that is strict or not
  pub functions_in : {x : Sort} → (strict : Bool) → Tree ℕ x → List ScriptFunction
  functions_in strict (this s) = []
  functions_in strict (name x s) = []
  functions_in strict (number m s) = []
  functions_in strict (string t s) = []
  functions_in strict (boolean b s) = []
  functions_in strict (null s) = []
  functions_in strict (array l s) = forest_functions strict l
  functions_in strict (object l s) = forest_functions strict l
  functions_in strict (function_expression f s) = functions_in strict f
  functions_in strict (dot o k s) = functions_in strict o
  functions_in strict (index o k s) = functions_in strict o ++ functions_in strict k
  functions_in strict (call f l s) = functions_in strict f ++ forest_functions strict l
  functions_in strict (new f l s) = functions_in strict f ++ forest_functions strict l
  functions_in strict (unary o e s) = functions_in strict e
  functions_in strict (update up prefix t s) = functions_in strict t
  functions_in strict (binary o a b s) = functions_in strict a ++ functions_in strict b
  functions_in strict (and a b s) = functions_in strict a ++ functions_in strict b
  functions_in strict (or a b s) = functions_in strict a ++ functions_in strict b
  functions_in strict (conditional a b c s) =
      functions_in strict a ++ functions_in strict b ++ functions_in strict c
  functions_in strict (assign o t e s) =
      functions_in strict t ++ functions_in strict e
  functions_in strict (comma a b s) = functions_in strict a ++ functions_in strict b
  functions_in strict (to_name x) = []
  functions_in strict (to_dot o k s) = functions_in strict o
  functions_in strict (to_index o k s) = functions_in strict o ++ functions_in strict k
  functions_in strict hole = []
  functions_in strict (filled e) = functions_in strict e
  functions_in strict (value k e) = functions_in strict e
  functions_in strict (getter k f) = functions_in strict f
  functions_in strict (setter k f) = functions_in strict f
  functions_in strict (function m x params b s) =
      let inside = strict_in strict b in
      record { func = function m x params b s; strict = inside } ∷ functions_in inside b
  functions_in strict (body is_strict fs l) = forest_functions strict fs ++ forest_functions strict l
  functions_in strict (var l s) = forest_functions strict l
  functions_in strict (empty s) = []
  functions_in strict (expression e s) = functions_in strict e
  functions_in strict (block l s) = forest_functions strict l
  functions_in strict (if_else c a b s) =
      functions_in strict c ++ forest_functions strict a ++ optional_functions strict b
  functions_in strict (do_while l c s) = forest_functions strict l ++ functions_in strict c
  functions_in strict (while c l s) = functions_in strict c ++ forest_functions strict l
  functions_in strict (for i c u l s) =
      functions_in strict i ++ optional_functions strict c ++ optional_functions strict u ++ forest_functions strict l
  functions_in strict (for_in is_var x o l s) = functions_in strict o ++ forest_functions strict l
  functions_in strict (continue x s) = []
  functions_in strict (break x s) = []
  functions_in strict (return e s) = optional_functions strict e
  functions_in strict (labelled x t s) = functions_in strict t
  functions_in strict (switch e l s) = functions_in strict e ++ forest_functions strict l
  functions_in strict (throw e s) = functions_in strict e
  functions_in strict (try l h f s) =
      forest_functions strict l ++ optional_functions strict h ++ optional_functions strict f
  functions_in strict (debugger s) = []
  functions_in strict nothing = []
  functions_in strict (init_expression e) = functions_in strict e
  functions_in strict (init_var l) = forest_functions strict l
  functions_in strict (declarator x e) = optional_functions strict e
  functions_in strict (case e l) = optional_functions strict e ++ forest_functions strict l
  functions_in strict (branch_of l) = forest_functions strict l
  functions_in strict (catch x l) = forest_functions strict l

  pub forest_functions : {x : Sort} → (strict : Bool) → Forest ℕ x → List ScriptFunction
  forest_functions strict end = []
  forest_functions strict (more t l) = functions_in strict t ++ forest_functions strict l

  pub optional_functions : {x : Sort} → (strict : Bool) → OptionalTree ℕ x → List ScriptFunction
  optional_functions strict absent = []
  optional_functions strict (present t) = functions_in strict t

-- the functions of a program
unfoldable pub function_table : Program ℕ → FunctionTable
function_table p = functions_in (strict_in false p.body) p.body
