-- A tree has no fewer nodes than functions, and as many nodes however its functions are numbered.
use Rattle.std.proofs.Common.{◌≡◌, ℕ, ◌≤◌, refl, arith}
use Rattle.jl_ast.specs.Tree.{Sort, Tree, Forest, OptionalTree, this, name, number, string, boolean, null, array}
use Rattle.jl_ast.specs.Tree.{object, function_expression, dot, index, call, new, unary, update, binary, and, or}
use Rattle.jl_ast.specs.Tree.{conditional, assign, comma, to_name, to_dot, to_index, hole, filled, value, getter}
use Rattle.jl_ast.specs.Tree.{setter, function, body, var, empty, expression, block, if_else, do_while, while, for}
use Rattle.jl_ast.specs.Tree.{for_in, continue, break, return, labelled, switch, throw, try, debugger, nothing}
use Rattle.jl_ast.specs.Tree.{init_expression, init_var, declarator, case, branch_of, catch, end, more, absent}
use Rattle.jl_ast.specs.Tree.{present}
use Rattle.jl_ast.specs.Numbering.{functions_in, functions_in_forest, functions_in_optional, numbered_tree}
use Rattle.jl_ast.proofs.SameFold.{fold_numbered}
use Rattle.jl_grammar.specs.Nodes.{nodes_with, node_counts, nodes, nodes_forest, nodes_optional}

mutual
  pub counted : {S : Type 0} {x : Sort} (t : Tree S x) → functions_in t ≤ nodes t
  counted (this s) = omega arith
  counted (name a s) = omega arith
  counted (number a s) = omega arith
  counted (string a s) = omega arith
  counted (boolean a s) = omega arith
  counted (null s) = omega arith
  counted (array a s) = omega (arith, counted_forest a)
  counted (object a s) = omega (arith, counted_forest a)
  counted (function_expression a s) = omega (arith, counted a)
  counted (dot a b s) = omega (arith, counted a)
  counted (index a b s) = omega (arith, counted a, counted b)
  counted (call a b s) = omega (arith, counted a, counted_forest b)
  counted (new a b s) = omega (arith, counted a, counted_forest b)
  counted (unary a b s) = omega (arith, counted b)
  counted (update up prefix a s) = omega (arith, counted a)
  counted (binary a b c s) = omega (arith, counted b, counted c)
  counted (and a b s) = omega (arith, counted a, counted b)
  counted (or a b s) = omega (arith, counted a, counted b)
  counted (conditional a b c s) = omega (arith, counted a, counted b, counted c)
  counted (assign a b c s) = omega (arith, counted b, counted c)
  counted (comma a b s) = omega (arith, counted a, counted b)
  counted (to_name a) = omega arith
  counted (to_dot a b s) = omega (arith, counted a)
  counted (to_index a b s) = omega (arith, counted a, counted b)
  counted hole = omega arith
  counted (filled a) = omega (arith, counted a)
  counted (value a b) = omega (arith, counted b)
  counted (getter a b) = omega (arith, counted b)
  counted (setter a b) = omega (arith, counted b)
  counted (function m a params b s) = omega (arith, counted b)
  counted (body strict a b) = omega (arith, counted_forest a, counted_forest b)
  counted (var a s) = omega (arith, counted_forest a)
  counted (empty s) = omega arith
  counted (expression a s) = omega (arith, counted a)
  counted (block a s) = omega (arith, counted_forest a)
  counted (if_else a b c s) = omega (arith, counted a, counted_forest b, counted_optional c)
  counted (do_while a b s) = omega (arith, counted_forest a, counted b)
  counted (while a b s) = omega (arith, counted a, counted_forest b)
  counted (for a b c d s) = omega (arith, counted a, counted_optional b, counted_optional c, counted_forest d)
  counted (for_in is_var a b c s) = omega (arith, counted b, counted_forest c)
  counted (continue a s) = omega arith
  counted (break a s) = omega arith
  counted (return a s) = omega (arith, counted_optional a)
  counted (labelled a b s) = omega (arith, counted b)
  counted (switch a b s) = omega (arith, counted a, counted_forest b)
  counted (throw a s) = omega (arith, counted a)
  counted (try a b c s) = omega (arith, counted_forest a, counted_optional b, counted_optional c)
  counted (debugger s) = omega arith
  counted nothing = omega arith
  counted (init_expression a) = omega (arith, counted a)
  counted (init_var a) = omega (arith, counted_forest a)
  counted (declarator a b) = omega (arith, counted_optional b)
  counted (case a b) = omega (arith, counted_optional a, counted_forest b)
  counted (branch_of a) = omega (arith, counted_forest a)
  counted (catch a b) = omega (arith, counted_forest b)

  pub counted_forest : {S : Type 0} {x : Sort} (t : Forest S x) → functions_in_forest t ≤ nodes_forest t
  counted_forest end = omega arith
  counted_forest (more a b) = omega (arith, counted a, counted_forest b)

  pub counted_optional : {S : Type 0} {x : Sort} (t : OptionalTree S x) → functions_in_optional t ≤ nodes_optional t
  counted_optional absent = omega arith
  counted_optional (present a) = omega (arith, counted a)

numbered_node : {S : Type 0} (x : Sort) (n : ℕ) (t : Tree S x) (m : ℕ) →
    nodes_with (numbered_tree n t) m ≡ nodes_with t m
numbered_node x n (function_expression a s) m = refl
numbered_node x n t m = refl

pub renumbered : {S : Type 0} {x : Sort} (n : ℕ) (t : Tree S x) → nodes (numbered_tree n t) ≡ nodes t
renumbered n t = fold_numbered node_counts numbered_node n t
