-- The functions of a tree in the order in which they are numbered: a function before those inside it, and the
-- function declarations of a body before the functions of its statements; otherwise in the order of the text.
use Rattle.std.specs.Prelude.{ℕ, List, [], ◌∷◌, ◌++◌}
use Rattle.jl_ast.specs.Tree.{Program, Sort, func, Tree, Forest, OptionalTree, function}
use Rattle.jl_ast.specs.Fold.{Fold, fold, fold_forest, fold_optional}

-- a function before those of its parts
abbrev pub functions_with : {S : Type 0} {x : Sort} → Tree S x → List (Tree S func) → List (Tree S func)
functions_with (function m a params b s) l = function m a params b s ∷ l
functions_with t l = l

abbrev pub function_lists : {S : Type 0} → Fold S (List (Tree S func))
function_lists = record { none = []; both = λ a b. a ++ b; at_node = functions_with }

abbrev pub functions_of : {S : Type 0} {x : Sort} → Tree S x → List (Tree S func)
functions_of t = fold function_lists t

abbrev pub functions_of_forest : {S : Type 0} {x : Sort} → Forest S x → List (Tree S func)
functions_of_forest t = fold_forest function_lists t

abbrev pub functions_of_optional : {S : Type 0} {x : Sort} → OptionalTree S x → List (Tree S func)
functions_of_optional t = fold_optional function_lists t

-- the functions of a program
abbrev pub table : {S : Type 0} → Program S → List (Tree S func)
table p = functions_of p.body

-- the number that a function has
abbrev pub number_of : {S : Type 0} → Tree S func → ℕ
number_of (function m a params b s) = m
