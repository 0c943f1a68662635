-- Numbering does not look at places, nor do counts of functions look at numbers.
use Rattle.std.proofs.Common.{◌≡◌, ℕ, ◌+◌, refl}
use Rattle.jl_ast.specs.Tree.{Sort, Tree, Forest, OptionalTree, this, name, number, string, boolean, null, array}
use Rattle.jl_ast.specs.Tree.{object}
use Rattle.jl_ast.specs.Tree.{function_expression, dot, index, call, new, unary, update, binary, and, or}
use Rattle.jl_ast.specs.Tree.{conditional, assign, comma, to_name, to_dot, to_index, hole, filled, value, getter}
use Rattle.jl_ast.specs.Tree.{setter, function, body, var, empty, expression, block, if_else, do_while, while, for}
use Rattle.jl_ast.specs.Tree.{for_in, continue, break, return, labelled, switch, throw, try, debugger, nothing}
use Rattle.jl_ast.specs.Tree.{init_expression, init_var, declarator, case, branch_of, catch, end, more, absent}
use Rattle.jl_ast.specs.Tree.{present}
use Rattle.jl_ast.specs.Spans.{map_tree, map_forest, map_optional}
use Rattle.jl_ast.specs.Numbering.{count_with, function_counts, functions_in, functions_in_forest}
use Rattle.jl_ast.specs.Numbering.{functions_in_optional, numbered_tree, numbered_forest, numbered_optional}
use Rattle.jl_ast.proofs.SameFold.{fold_map, fold_map_forest, fold_map_optional, fold_numbered}
use Rattle.jl_ast.proofs.SameFold.{fold_numbered_forest, fold_numbered_optional}

module _ {S : Type 0} where
  counts_numbered : (x : Sort) (n : ℕ) (t : Tree S x) (m : ℕ) → count_with (numbered_tree n t) m ≡ count_with t m
  counts_numbered x n (function k a params b s) m = refl
  counts_numbered x n t m = refl

  pub as_many_numbered : {x : Sort} (n : ℕ) (t : Tree S x) → functions_in (numbered_tree n t) ≡ functions_in t
  as_many_numbered n t = fold_numbered function_counts counts_numbered n t

  pub as_many_numbered_forest : {x : Sort} (n : ℕ) (t : Forest S x) →
      functions_in_forest (numbered_forest n t) ≡ functions_in_forest t
  as_many_numbered_forest n t = fold_numbered_forest function_counts counts_numbered n t

  pub as_many_numbered_optional : {x : Sort} (n : ℕ) (t : OptionalTree S x) →
      functions_in_optional (numbered_optional n t) ≡ functions_in_optional t
  as_many_numbered_optional n t = fold_numbered_optional function_counts counts_numbered n t

module _ {S T : Type 0} (f : S → T) where
  counts_moved : (x : Sort) (t : Tree S x) (n : ℕ) → count_with (map_tree f t) n ≡ count_with t n
  counts_moved x (function m a params b s) n = refl
  counts_moved x t n = refl

  pub as_many : {x : Sort} (t : Tree S x) → functions_in (map_tree f t) ≡ functions_in t
  as_many t = fold_map f function_counts function_counts refl (λ m n. refl) counts_moved t

  pub as_many_forest : {x : Sort} (t : Forest S x) → functions_in_forest (map_forest f t) ≡ functions_in_forest t
  as_many_forest t = fold_map_forest f function_counts function_counts refl (λ m n. refl) counts_moved t

  pub as_many_optional : {x : Sort} (t : OptionalTree S x) →
      functions_in_optional (map_optional f t) ≡ functions_in_optional t
  as_many_optional t = fold_map_optional f function_counts function_counts refl (λ m n. refl) counts_moved t

  mutual
    pub numbered_moved : {x : Sort} (n : ℕ) (t : Tree S x) →
        numbered_tree n (map_tree f t) ≡ map_tree f (numbered_tree n t)
    numbered_moved n (this s) = refl
    numbered_moved n (name a s) = refl
    numbered_moved n (number a s) = refl
    numbered_moved n (string a s) = refl
    numbered_moved n (boolean a s) = refl
    numbered_moved n (null s) = refl
    numbered_moved n (array a s) = cc (numbered_moved_forest n a)
    numbered_moved n (object a s) = cc (numbered_moved_forest n a)
    numbered_moved n (function_expression a s) = cc (numbered_moved n a)
    numbered_moved n (dot a b s) = cc (numbered_moved n a)
    numbered_moved n (index a b s) = cc (numbered_moved n a, numbered_moved (n + functions_in a) b, as_many a)
    numbered_moved n (call a b s) = cc (numbered_moved n a, numbered_moved_forest (n + functions_in a) b, as_many a)
    numbered_moved n (new a b s) = cc (numbered_moved n a, numbered_moved_forest (n + functions_in a) b, as_many a)
    numbered_moved n (unary a b s) = cc (numbered_moved n b)
    numbered_moved n (update up prefix a s) = cc (numbered_moved n a)
    numbered_moved n (binary a b c s) = cc (numbered_moved n b, numbered_moved (n + functions_in b) c, as_many b)
    numbered_moved n (and a b s) = cc (numbered_moved n a, numbered_moved (n + functions_in a) b, as_many a)
    numbered_moved n (or a b s) = cc (numbered_moved n a, numbered_moved (n + functions_in a) b, as_many a)
    numbered_moved n (conditional a b c s) = cc (
      numbered_moved n a,
      numbered_moved (n + functions_in a) b,
      numbered_moved (n + functions_in a + functions_in b) c,
      as_many a,
      as_many b,
    )
    numbered_moved n (assign a b c s) = cc (numbered_moved n b, numbered_moved (n + functions_in b) c, as_many b)
    numbered_moved n (comma a b s) = cc (numbered_moved n a, numbered_moved (n + functions_in a) b, as_many a)
    numbered_moved n (to_name a) = refl
    numbered_moved n (to_dot a b s) = cc (numbered_moved n a)
    numbered_moved n (to_index a b s) = cc (numbered_moved n a, numbered_moved (n + functions_in a) b, as_many a)
    numbered_moved n hole = refl
    numbered_moved n (filled a) = cc (numbered_moved n a)
    numbered_moved n (value a b) = cc (numbered_moved n b)
    numbered_moved n (getter a b) = cc (numbered_moved n b)
    numbered_moved n (setter a b) = cc (numbered_moved n b)
    numbered_moved n (function m a params b s) = cc (numbered_moved (n + 1) b)
    numbered_moved n (body strict a b) = cc (
      numbered_moved_forest n a,
      numbered_moved_forest (n + functions_in_forest a) b,
      as_many_forest a,
    )
    numbered_moved n (var a s) = cc (numbered_moved_forest n a)
    numbered_moved n (empty s) = refl
    numbered_moved n (expression a s) = cc (numbered_moved n a)
    numbered_moved n (block a s) = cc (numbered_moved_forest n a)
    numbered_moved n (if_else a b c s) = cc (
      numbered_moved n a,
      numbered_moved_forest (n + functions_in a) b,
      numbered_moved_optional (n + functions_in a + functions_in_forest b) c,
      as_many a,
      as_many_forest b,
    )
    numbered_moved n (do_while a b s) = cc (
      numbered_moved_forest n a,
      numbered_moved (n + functions_in_forest a) b,
      as_many_forest a,
    )
    numbered_moved n (while a b s) = cc (
      numbered_moved n a,
      numbered_moved_forest (n + functions_in a) b,
      as_many a,
    )
    numbered_moved n (for a b c d s) = cc (
      numbered_moved n a,
      numbered_moved_optional (n + functions_in a) b,
      numbered_moved_optional (n + functions_in a + functions_in_optional b) c,
      numbered_moved_forest (n + functions_in a + functions_in_optional b + functions_in_optional c) d,
      as_many a,
      as_many_optional b,
      as_many_optional c,
    )
    numbered_moved n (for_in is_var a b c s) = cc (
      numbered_moved n b,
      numbered_moved_forest (n + functions_in b) c,
      as_many b,
    )
    numbered_moved n (continue a s) = refl
    numbered_moved n (break a s) = refl
    numbered_moved n (return a s) = cc (numbered_moved_optional n a)
    numbered_moved n (labelled a b s) = cc (numbered_moved n b)
    numbered_moved n (switch a b s) = cc (
      numbered_moved n a,
      numbered_moved_forest (n + functions_in a) b,
      as_many a,
    )
    numbered_moved n (throw a s) = cc (numbered_moved n a)
    numbered_moved n (try a b c s) = cc (
      numbered_moved_forest n a,
      numbered_moved_optional (n + functions_in_forest a) b,
      numbered_moved_optional (n + functions_in_forest a + functions_in_optional b) c,
      as_many_forest a,
      as_many_optional b,
    )
    numbered_moved n (debugger s) = refl
    numbered_moved n nothing = refl
    numbered_moved n (init_expression a) = cc (numbered_moved n a)
    numbered_moved n (init_var a) = cc (numbered_moved_forest n a)
    numbered_moved n (declarator a b) = cc (numbered_moved_optional n b)
    numbered_moved n (case a b) = cc (
      numbered_moved_optional n a,
      numbered_moved_forest (n + functions_in_optional a) b,
      as_many_optional a,
    )
    numbered_moved n (branch_of a) = cc (numbered_moved_forest n a)
    numbered_moved n (catch a b) = cc (numbered_moved_forest n b)

    pub numbered_moved_forest : {x : Sort} (n : ℕ) (t : Forest S x) →
        numbered_forest n (map_forest f t) ≡ map_forest f (numbered_forest n t)
    numbered_moved_forest n end = refl
    numbered_moved_forest n (more a b) = cc (
      numbered_moved n a,
      numbered_moved_forest (n + functions_in a) b,
      as_many a,
    )

    pub numbered_moved_optional : {x : Sort} (n : ℕ) (t : OptionalTree S x) →
        numbered_optional n (map_optional f t) ≡ map_optional f (numbered_optional n t)
    numbered_moved_optional n absent = refl
    numbered_moved_optional n (present a) = cc (numbered_moved n a)
