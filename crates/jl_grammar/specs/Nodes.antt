-- How many expressions, functions and `catch` clauses there are in a tree (clauses 11, 13 and 12.14): each counts one
-- and its parts, but a function expression and its function are one; any other part counts its parts alone.
use Rattle.std.specs.Prelude.{ℕ, ◌+◌}
use Rattle.jl_ast.specs.Tree.{Sort, expr, func, handler, Tree, Forest, OptionalTree, function_expression}
use Rattle.jl_ast.specs.Fold.{Fold, fold, fold_forest, fold_optional}

-- a part with the nodes of its own parts
abbrev pub nodes_with : {S : Type 0} {x : Sort} → Tree S x → ℕ → ℕ
nodes_with (function_expression a s) n = n
nodes_with {x = expr} t n = n + 1
nodes_with {x = func} t n = n + 1
nodes_with {x = handler} t n = n + 1
nodes_with t n = n

abbrev pub node_counts : {S : Type 0} → Fold S ℕ
node_counts = record { none = 0; both = λ m n. m + n; at_node = nodes_with }

abbrev pub nodes : {S : Type 0} {x : Sort} → Tree S x → ℕ
nodes t = fold node_counts t

abbrev pub nodes_forest : {S : Type 0} {x : Sort} → Forest S x → ℕ
nodes_forest t = fold_forest node_counts t

abbrev pub nodes_optional : {S : Type 0} {x : Sort} → OptionalTree S x → ℕ
nodes_optional t = fold_optional node_counts t
