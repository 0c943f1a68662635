-- The functions of a program, with whether they are strict, are those of its table.
use Rattle.std.proofs.Common.{◌≡◌, ℕ, Bool, false, List, ◌∷◌, ◌++◌, map, refl, ap}
use Rattle.std.proofs.lemmas.List.{map-append}
use Rattle.jl_ast.specs.Tree.{Program, Sort, func, Tree, Forest, OptionalTree, this, name, number, string, boolean}
use Rattle.jl_ast.specs.Tree.{null, array, object, function_expression, dot, index, call, new, unary, update, binary}
use Rattle.jl_ast.specs.Tree.{and, or, conditional, assign, comma, to_name, to_dot, to_index, hole, filled, value}
use Rattle.jl_ast.specs.Tree.{getter, setter, function, body, var, empty, expression, block, if_else, do_while, while}
use Rattle.jl_ast.specs.Tree.{for, for_in, continue, break, return, labelled, switch, throw, try, debugger, nothing}
use Rattle.jl_ast.specs.Tree.{init_expression, init_var, declarator, case, branch_of, catch, end, more, absent, present}
use Rattle.jl_ast.specs.Table.{functions_of, functions_of_forest, functions_of_optional, table}
use Rattle.jl_scope.specs.Hoisting.{strict_in}
use Rattle.jl_meaning.specs.FunctionObjects.{ScriptFunction}
use Rattle.jl_meaning.specs.FunctionTable as function_table
use Rattle.jl_meaning.specs.FunctionTable.{functions_in, forest_functions, optional_functions}

abbrev funcs : List ScriptFunction → List (Tree ℕ func)
funcs l = map (λ f. f.func) l

join : (xs ys : List ScriptFunction) (xs' ys' : List (Tree ℕ func)) → funcs xs ≡ xs' → funcs ys ≡ ys' →
    funcs (xs ++ ys) ≡ xs' ++ ys'
join xs ys xs' ys' l r = cc (map-append (λ f. f.func) xs ys, l, r)

mutual
  pub same_functions : {x : Sort} (strict : Bool) (t : Tree ℕ x) → funcs (functions_in strict t) ≡ functions_of t
  same_functions strict (this s) = refl
  same_functions strict (name a s) = refl
  same_functions strict (number a s) = refl
  same_functions strict (string a s) = refl
  same_functions strict (boolean a s) = refl
  same_functions strict (null s) = refl
  same_functions strict (array a s) = forest_same_functions strict a
  same_functions strict (object a s) = forest_same_functions strict a
  same_functions strict (function_expression a s) = same_functions strict a
  same_functions strict (dot a b s) = same_functions strict a
  same_functions strict (index a b s) = join _ _ _ _ (same_functions strict a) (same_functions strict b)
  same_functions strict (call a b s) = join _ _ _ _ (same_functions strict a) (forest_same_functions strict b)
  same_functions strict (new a b s) = join _ _ _ _ (same_functions strict a) (forest_same_functions strict b)
  same_functions strict (unary a b s) = same_functions strict b
  same_functions strict (update up prefix a s) = same_functions strict a
  same_functions strict (binary a b c s) = join _ _ _ _ (same_functions strict b) (same_functions strict c)
  same_functions strict (and a b s) = join _ _ _ _ (same_functions strict a) (same_functions strict b)
  same_functions strict (or a b s) = join _ _ _ _ (same_functions strict a) (same_functions strict b)
  same_functions strict (conditional a b c s) = join _ _ _ _ (join _ _ _ _ (same_functions strict a)
      (same_functions strict b)) (same_functions strict c)
  same_functions strict (assign a b c s) = join _ _ _ _ (same_functions strict b) (same_functions strict c)
  same_functions strict (comma a b s) = join _ _ _ _ (same_functions strict a) (same_functions strict b)
  same_functions strict (to_name a) = refl
  same_functions strict (to_dot a b s) = same_functions strict a
  same_functions strict (to_index a b s) = join _ _ _ _ (same_functions strict a) (same_functions strict b)
  same_functions strict hole = refl
  same_functions strict (filled a) = same_functions strict a
  same_functions strict (value a b) = same_functions strict b
  same_functions strict (getter a b) = same_functions strict b
  same_functions strict (setter a b) = same_functions strict b
  same_functions strict (function m a params b s) =
      ap (λ l. function m a params b s ∷ l) (same_functions (strict_in strict b) b)
  same_functions strict (body is_strict a b) = join _ _ _ _ (forest_same_functions strict a)
      (forest_same_functions strict b)
  same_functions strict (var a s) = forest_same_functions strict a
  same_functions strict (empty s) = refl
  same_functions strict (expression a s) = same_functions strict a
  same_functions strict (block a s) = forest_same_functions strict a
  same_functions strict (if_else a b c s) = join _ _ _ _ (join _ _ _ _ (same_functions strict a)
      (forest_same_functions strict b)) (optional_same_functions strict c)
  same_functions strict (do_while a b s) = join _ _ _ _ (forest_same_functions strict a) (same_functions strict b)
  same_functions strict (while a b s) = join _ _ _ _ (same_functions strict a) (forest_same_functions strict b)
  same_functions strict (for a b c d s) = join _ _ _ _ (join _ _ _ _ (join _ _ _ _ (same_functions strict a)
      (optional_same_functions strict b)) (optional_same_functions strict c)) (forest_same_functions strict d)
  same_functions strict (for_in is_var a b c s) = join _ _ _ _ (same_functions strict b)
      (forest_same_functions strict c)
  same_functions strict (continue a s) = refl
  same_functions strict (break a s) = refl
  same_functions strict (return a s) = optional_same_functions strict a
  same_functions strict (labelled a b s) = same_functions strict b
  same_functions strict (switch a b s) = join _ _ _ _ (same_functions strict a) (forest_same_functions strict b)
  same_functions strict (throw a s) = same_functions strict a
  same_functions strict (try a b c s) = join _ _ _ _ (join _ _ _ _ (forest_same_functions strict a)
      (optional_same_functions strict b)) (optional_same_functions strict c)
  same_functions strict (debugger s) = refl
  same_functions strict nothing = refl
  same_functions strict (init_expression a) = same_functions strict a
  same_functions strict (init_var a) = forest_same_functions strict a
  same_functions strict (declarator a b) = optional_same_functions strict b
  same_functions strict (case a b) = join _ _ _ _ (optional_same_functions strict a) (forest_same_functions strict b)
  same_functions strict (branch_of a) = forest_same_functions strict a
  same_functions strict (catch a b) = forest_same_functions strict b

  pub forest_same_functions : {x : Sort} (strict : Bool) (l : Forest ℕ x) →
      funcs (forest_functions strict l) ≡ functions_of_forest l
  forest_same_functions strict end = refl
  forest_same_functions strict (more t l) = join _ _ _ _ (same_functions strict t) (forest_same_functions strict l)

  pub optional_same_functions : {x : Sort} (strict : Bool) (o : OptionalTree ℕ x) →
      funcs (optional_functions strict o) ≡ functions_of_optional o
  optional_same_functions strict absent = refl
  optional_same_functions strict (present t) = same_functions strict t

pub same_table : (p : Program ℕ) → funcs (function_table.function_table p) ≡ table p
unfolding function_table.function_table
same_table p = same_functions (strict_in false p.body) p.body
