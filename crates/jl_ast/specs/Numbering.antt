-- The numbers of functions: a function before those inside it, and the function declarations of a body before the
-- functions of its statements; otherwise in the order of the text.
use Rattle.std.specs.Prelude.{ℕ, ◌+◌}
use Rattle.jl_ast.specs.Tree.{Program, Sort, Tree, Forest, OptionalTree, this, name, number, string, boolean, null}
use Rattle.jl_ast.specs.Tree.{array}
use Rattle.jl_ast.specs.Tree.{object, function_expression, dot, index, call, new, unary, update, binary, and, or}
use Rattle.jl_ast.specs.Tree.{conditional, assign, comma, to_name, to_dot, to_index, hole, filled, value, getter}
use Rattle.jl_ast.specs.Tree.{setter, function, body, var, empty, expression, block, if_else, do_while, while, for}
use Rattle.jl_ast.specs.Tree.{for_in, continue, break, return, labelled, switch, throw, try, debugger, nothing}
use Rattle.jl_ast.specs.Tree.{init_expression, init_var, declarator, case, branch_of, catch, end, more, absent}
use Rattle.jl_ast.specs.Tree.{present}
use Rattle.jl_ast.specs.Fold.{Fold, fold, fold_forest, fold_optional}

-- a function counts one more than its parts
abbrev pub count_with : {S : Type 0} {x : Sort} → Tree S x → ℕ → ℕ
count_with (function m a params b s) n = n + 1
count_with t n = n

abbrev pub function_counts : {S : Type 0} → Fold S ℕ
function_counts = record { none = 0; both = λ m n. m + n; at_node = count_with }

-- how many functions there are in a tree
abbrev pub functions_in : {S : Type 0} {x : Sort} → Tree S x → ℕ
functions_in t = fold function_counts t

abbrev pub functions_in_forest : {S : Type 0} {x : Sort} → Forest S x → ℕ
functions_in_forest t = fold_forest function_counts t

abbrev pub functions_in_optional : {S : Type 0} {x : Sort} → OptionalTree S x → ℕ
functions_in_optional t = fold_optional function_counts t

abbrev mutual
  -- the same tree with its functions numbered from n on
  pub numbered_tree : {S : Type 0} {x : Sort} → ℕ → Tree S x → Tree S x
  numbered_tree n (this s) = this s
  numbered_tree n (name a s) = name a s
  numbered_tree n (number a s) = number a s
  numbered_tree n (string a s) = string a s
  numbered_tree n (boolean a s) = boolean a s
  numbered_tree n (null s) = null s
  numbered_tree n (array a s) = array (numbered_forest n a) s
  numbered_tree n (object a s) = object (numbered_forest n a) s
  numbered_tree n (function_expression a s) = function_expression (numbered_tree n a) s
  numbered_tree n (dot a b s) = dot (numbered_tree n a) b s
  numbered_tree n (index a b s) = index (numbered_tree n a) (numbered_tree (n + functions_in a) b) s
  numbered_tree n (call a b s) = call (numbered_tree n a) (numbered_forest (n + functions_in a) b) s
  numbered_tree n (new a b s) = new (numbered_tree n a) (numbered_forest (n + functions_in a) b) s
  numbered_tree n (unary a b s) = unary a (numbered_tree n b) s
  numbered_tree n (update up prefix a s) = update up prefix (numbered_tree n a) s
  numbered_tree n (binary a b c s) = binary a (numbered_tree n b) (numbered_tree (n + functions_in b) c) s
  numbered_tree n (and a b s) = and (numbered_tree n a) (numbered_tree (n + functions_in a) b) s
  numbered_tree n (or a b s) = or (numbered_tree n a) (numbered_tree (n + functions_in a) b) s
  numbered_tree n (conditional a b c s) = conditional (numbered_tree n a) (numbered_tree (n + functions_in a) b)
      (numbered_tree (n + functions_in a + functions_in b) c) s
  numbered_tree n (assign a b c s) = assign a (numbered_tree n b) (numbered_tree (n + functions_in b) c) s
  numbered_tree n (comma a b s) = comma (numbered_tree n a) (numbered_tree (n + functions_in a) b) s
  numbered_tree n (to_name a) = to_name a
  numbered_tree n (to_dot a b s) = to_dot (numbered_tree n a) b s
  numbered_tree n (to_index a b s) = to_index (numbered_tree n a) (numbered_tree (n + functions_in a) b) s
  numbered_tree n hole = hole
  numbered_tree n (filled a) = filled (numbered_tree n a)
  numbered_tree n (value a b) = value a (numbered_tree n b)
  numbered_tree n (getter a b) = getter a (numbered_tree n b)
  numbered_tree n (setter a b) = setter a (numbered_tree n b)
  numbered_tree n (function m a params b s) = function n a params (numbered_tree (n + 1) b) s
  numbered_tree n (body strict a b) = body strict (numbered_forest n a) (numbered_forest (n + functions_in_forest a) b)
  numbered_tree n (var a s) = var (numbered_forest n a) s
  numbered_tree n (empty s) = empty s
  numbered_tree n (expression a s) = expression (numbered_tree n a) s
  numbered_tree n (block a s) = block (numbered_forest n a) s
  numbered_tree n (if_else a b c s) = if_else (numbered_tree n a) (numbered_forest (n + functions_in a) b)
      (numbered_optional (n + functions_in a + functions_in_forest b) c) s
  numbered_tree n (do_while a b s) = do_while (numbered_forest n a) (numbered_tree (n + functions_in_forest a) b) s
  numbered_tree n (while a b s) = while (numbered_tree n a) (numbered_forest (n + functions_in a) b) s
  numbered_tree n (for a b c d s) = for (numbered_tree n a) (numbered_optional (n + functions_in a) b)
      (numbered_optional (n + functions_in a + functions_in_optional b) c)
      (numbered_forest (n + functions_in a + functions_in_optional b + functions_in_optional c) d) s
  numbered_tree n (for_in is_var a b c s) =
      for_in is_var a (numbered_tree n b) (numbered_forest (n + functions_in b) c) s
  numbered_tree n (continue a s) = continue a s
  numbered_tree n (break a s) = break a s
  numbered_tree n (return a s) = return (numbered_optional n a) s
  numbered_tree n (labelled a b s) = labelled a (numbered_tree n b) s
  numbered_tree n (switch a b s) = switch (numbered_tree n a) (numbered_forest (n + functions_in a) b) s
  numbered_tree n (throw a s) = throw (numbered_tree n a) s
  numbered_tree n (try a b c s) = try (numbered_forest n a) (numbered_optional (n + functions_in_forest a) b)
      (numbered_optional (n + functions_in_forest a + functions_in_optional b) c) s
  numbered_tree n (debugger s) = debugger s
  numbered_tree n nothing = nothing
  numbered_tree n (init_expression a) = init_expression (numbered_tree n a)
  numbered_tree n (init_var a) = init_var (numbered_forest n a)
  numbered_tree n (declarator a b) = declarator a (numbered_optional n b)
  numbered_tree n (case a b) = case (numbered_optional n a) (numbered_forest (n + functions_in_optional a) b)
  numbered_tree n (branch_of a) = branch_of (numbered_forest n a)
  numbered_tree n (catch a b) = catch a (numbered_forest n b)

  pub numbered_forest : {S : Type 0} {x : Sort} → ℕ → Forest S x → Forest S x
  numbered_forest n end = end
  numbered_forest n (more a b) = more (numbered_tree n a) (numbered_forest (n + functions_in a) b)

  pub numbered_optional : {S : Type 0} {x : Sort} → ℕ → OptionalTree S x → OptionalTree S x
  numbered_optional n absent = absent
  numbered_optional n (present a) = present (numbered_tree n a)

-- the same program with its functions numbered from 0 on
abbrev pub with_numbers : {S : Type 0} → Program S → Program S
with_numbers p = record { body = numbered_tree 0 p.body; at = p.at }
