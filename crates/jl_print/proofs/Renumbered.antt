-- Numbering a numbered tree changes nothing but the numbers that it begins with.
use Rattle.std.proofs.Common.{◌≡◌, ℕ, ◌+◌, refl}
use Rattle.jl_ast.specs.Tree.{Sort, Tree, Forest, OptionalTree, this, name, number, string, boolean, null, array}
use Rattle.jl_ast.specs.Tree.{object, function_expression, dot, index, call, new, unary, update, binary, and, or}
use Rattle.jl_ast.specs.Tree.{conditional, assign, comma, to_name, to_dot, to_index, hole, filled, value, getter}
use Rattle.jl_ast.specs.Tree.{setter, function, body, var, empty, expression, block, if_else, do_while, while, for}
use Rattle.jl_ast.specs.Tree.{for_in, continue, break, return, labelled, switch, throw, try, debugger, nothing}
use Rattle.jl_ast.specs.Tree.{init_expression, init_var, declarator, case, branch_of, catch, end, more, absent}
use Rattle.jl_ast.specs.Tree.{present}
use Rattle.jl_ast.specs.Numbering.{functions_in, functions_in_forest, functions_in_optional, numbered_tree}
use Rattle.jl_ast.specs.Numbering.{numbered_forest}
use Rattle.jl_ast.specs.Numbering.{numbered_optional}
use Rattle.jl_ast.proofs.SameNumbers.{as_many_numbered, as_many_numbered_forest, as_many_numbered_optional}

module _ {S : Type 0} where
  mutual
    pub again : {x : Sort} (m n : ℕ) (t : Tree S x) → numbered_tree m (numbered_tree n t) ≡ numbered_tree m t
    again m n (this s) = refl
    again m n (name a s) = refl
    again m n (number a s) = refl
    again m n (string a s) = refl
    again m n (boolean a s) = refl
    again m n (null s) = refl
    again m n (array a s) = cc (again_forest m n a)
    again m n (object a s) = cc (again_forest m n a)
    again m n (function_expression a s) = cc (again m n a)
    again m n (dot a b s) = cc (again m n a)
    again m n (index a b s) = cc (
      again m n a,
      again (m + functions_in a) (n + functions_in a) b,
      as_many_numbered n a,
    )
    again m n (call a b s) = cc (
      again m n a,
      again_forest (m + functions_in a) (n + functions_in a) b,
      as_many_numbered n a,
    )
    again m n (new a b s) = cc (
      again m n a,
      again_forest (m + functions_in a) (n + functions_in a) b,
      as_many_numbered n a,
    )
    again m n (unary a b s) = cc (again m n b)
    again m n (update up prefix a s) = cc (again m n a)
    again m n (binary a b c s) = cc (
      again m n b,
      again (m + functions_in b) (n + functions_in b) c,
      as_many_numbered n b,
    )
    again m n (and a b s) = cc (again m n a, again (m + functions_in a) (n + functions_in a) b, as_many_numbered n a)
    again m n (or a b s) = cc (again m n a, again (m + functions_in a) (n + functions_in a) b, as_many_numbered n a)
    again m n (conditional a b c s) = cc (
      again m n a,
      again (m + functions_in a) (n + functions_in a) b,
      again (m + functions_in a + functions_in b) (n + functions_in a + functions_in b) c,
      as_many_numbered n a,
      as_many_numbered (n + functions_in a) b,
    )
    again m n (assign a b c s) = cc (
      again m n b,
      again (m + functions_in b) (n + functions_in b) c,
      as_many_numbered n b,
    )
    again m n (comma a b s) = cc (
      again m n a,
      again (m + functions_in a) (n + functions_in a) b,
      as_many_numbered n a,
    )
    again m n (to_name a) = refl
    again m n (to_dot a b s) = cc (again m n a)
    again m n (to_index a b s) = cc (
      again m n a,
      again (m + functions_in a) (n + functions_in a) b,
      as_many_numbered n a,
    )
    again m n hole = refl
    again m n (filled a) = cc (again m n a)
    again m n (value a b) = cc (again m n b)
    again m n (getter a b) = cc (again m n b)
    again m n (setter a b) = cc (again m n b)
    again m n (function k a params b s) = cc (again (m + 1) (n + 1) b)
    again m n (body strict a b) = cc (
      again_forest m n a,
      again_forest (m + functions_in_forest a) (n + functions_in_forest a) b,
      as_many_numbered_forest n a,
    )
    again m n (var a s) = cc (again_forest m n a)
    again m n (empty s) = refl
    again m n (expression a s) = cc (again m n a)
    again m n (block a s) = cc (again_forest m n a)
    again m n (if_else a b c s) = cc (
      again m n a,
      again_forest (m + functions_in a) (n + functions_in a) b,
      again_optional (m + functions_in a + functions_in_forest b) (n + functions_in a + functions_in_forest b) c,
      as_many_numbered n a,
      as_many_numbered_forest (n + functions_in a) b,
    )
    again m n (do_while a b s) = cc (
      again_forest m n a,
      again (m + functions_in_forest a) (n + functions_in_forest a) b,
      as_many_numbered_forest n a,
    )
    again m n (while a b s) = cc (
      again m n a,
      again_forest (m + functions_in a) (n + functions_in a) b,
      as_many_numbered n a,
    )
    again m n (for a b c d s) = cc (
      again m n a,
      again_optional (m + functions_in a) (n + functions_in a) b,
      again_optional (m + functions_in a + functions_in_optional b) (n + functions_in a + functions_in_optional b) c,
      again_forest (m + functions_in a + functions_in_optional b + functions_in_optional c)
          (n + functions_in a + functions_in_optional b + functions_in_optional c) d,
      as_many_numbered n a,
      as_many_numbered_optional (n + functions_in a) b,
      as_many_numbered_optional (n + functions_in a + functions_in_optional b) c,
    )
    again m n (for_in is_var a b c s) = cc (
      again m n b,
      again_forest (m + functions_in b) (n + functions_in b) c,
      as_many_numbered n b,
    )
    again m n (continue a s) = refl
    again m n (break a s) = refl
    again m n (return a s) = cc (again_optional m n a)
    again m n (labelled a b s) = cc (again m n b)
    again m n (switch a b s) = cc (
      again m n a,
      again_forest (m + functions_in a) (n + functions_in a) b,
      as_many_numbered n a,
    )
    again m n (throw a s) = cc (again m n a)
    again m n (try a b c s) = cc (
      again_forest m n a,
      again_optional (m + functions_in_forest a) (n + functions_in_forest a) b,
      again_optional (m + functions_in_forest a + functions_in_optional b)
          (n + functions_in_forest a + functions_in_optional b) c,
      as_many_numbered_forest n a,
      as_many_numbered_optional (n + functions_in_forest a) b,
    )
    again m n (debugger s) = refl
    again m n nothing = refl
    again m n (init_expression a) = cc (again m n a)
    again m n (init_var a) = cc (again_forest m n a)
    again m n (declarator a b) = cc (again_optional m n b)
    again m n (case a b) = cc (
      again_optional m n a,
      again_forest (m + functions_in_optional a) (n + functions_in_optional a) b,
      as_many_numbered_optional n a,
    )
    again m n (branch_of a) = cc (again_forest m n a)
    again m n (catch a b) = cc (again_forest m n b)

    pub again_forest : {x : Sort} (m n : ℕ) (t : Forest S x) → numbered_forest m (numbered_forest n t)
        ≡ numbered_forest m t
    again_forest m n end = refl
    again_forest m n (more a b) = cc (
      again m n a,
      again_forest (m + functions_in a) (n + functions_in a) b,
      as_many_numbered n a,
    )

    pub again_optional : {x : Sort} (m n : ℕ) (t : OptionalTree S x) → numbered_optional m (numbered_optional n t)
        ≡ numbered_optional m t
    again_optional m n absent = refl
    again_optional m n (present a) = cc (again m n a)
