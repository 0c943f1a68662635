-- How high a tree is. Expressions, statements, targets that are members, accessors and function declarations are
-- nodes; a function expression and its function are one node. A node is one more than the highest of its parts.
use Rattle.std.specs.Prelude.{ℕ, ◌+◌, max}
use Rattle.jl_ast.specs.Tree.{Program, Sort, expr, func, stmt, target, Tree, Forest, OptionalTree}
use Rattle.jl_ast.specs.Tree.{function_expression, to_name}
use Rattle.jl_ast.specs.Fold.{Fold, fold, fold_forest, fold_optional}

-- the height of a part over parts of this height: one more where the part is a node
abbrev pub height_over : {S : Type 0} {x : Sort} → Tree S x → ℕ → ℕ
height_over (function_expression a s) n = n
height_over (to_name a) n = n
height_over {x = expr} t n = n + 1
height_over {x = target} t n = n + 1
height_over {x = func} t n = n + 1
height_over {x = stmt} t n = n + 1
height_over t n = n

abbrev pub heights : {S : Type 0} → Fold S ℕ
heights = record { none = 0; both = max; at_node = height_over }

abbrev pub height : {S : Type 0} {x : Sort} → Tree S x → ℕ
height t = fold heights t

abbrev pub forest_height : {S : Type 0} {x : Sort} → Forest S x → ℕ
forest_height t = fold_forest heights t

abbrev pub optional_height : {S : Type 0} {x : Sort} → OptionalTree S x → ℕ
optional_height t = fold_optional heights t

-- the height of the highest function or statement, and 0 where there is none
abbrev pub program_height : {S : Type 0} → Program S → ℕ
program_height p = height p.body
