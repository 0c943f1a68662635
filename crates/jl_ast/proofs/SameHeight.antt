-- Neither places nor numbers change how high a tree is.
use Rattle.std.proofs.Common.{◌≡◌, ℕ, refl}
use Rattle.jl_ast.specs.Tree.{Sort, Tree, Forest, OptionalTree, function_expression}
use Rattle.jl_ast.specs.Spans.{map_tree, map_forest, map_optional}
use Rattle.jl_ast.specs.Height.{height_over, heights, height, forest_height, optional_height}
use Rattle.jl_ast.specs.Numbering.{numbered_tree, numbered_forest, numbered_optional}
use Rattle.jl_ast.proofs.SameFold.{fold_map, fold_map_forest, fold_map_optional, fold_numbered}
use Rattle.jl_ast.proofs.SameFold.{fold_numbered_forest, fold_numbered_optional}

module _ {S T : Type 0} (f : S → T) where
  over_moved : (x : Sort) (t : Tree S x) (n : ℕ) → height_over (map_tree f t) n ≡ height_over t n
  over_moved x (function_expression a s) n = refl
  over_moved x t n = refl

  pub moved : {x : Sort} (t : Tree S x) → height (map_tree f t) ≡ height t
  moved t = fold_map f heights heights refl (λ m n. refl) over_moved t

  pub moved_forest : {x : Sort} (t : Forest S x) → forest_height (map_forest f t) ≡ forest_height t
  moved_forest t = fold_map_forest f heights heights refl (λ m n. refl) over_moved t

  pub moved_optional : {x : Sort} (t : OptionalTree S x) → optional_height (map_optional f t) ≡ optional_height t
  moved_optional t = fold_map_optional f heights heights refl (λ m n. refl) over_moved t

module _ {S : Type 0} where
  over_numbered : (x : Sort) (n : ℕ) (t : Tree S x) (m : ℕ) → height_over (numbered_tree n t) m ≡ height_over t m
  over_numbered x n (function_expression a s) m = refl
  over_numbered x n t m = refl

  pub renumbered : {x : Sort} (n : ℕ) (t : Tree S x) → height (numbered_tree n t) ≡ height t
  renumbered n t = fold_numbered heights over_numbered n t

  pub renumbered_forest : {x : Sort} (n : ℕ) (t : Forest S x) → forest_height (numbered_forest n t) ≡ forest_height t
  renumbered_forest n t = fold_numbered_forest heights over_numbered n t

  pub renumbered_optional : {x : Sort} (n : ℕ) (t : OptionalTree S x) →
      optional_height (numbered_optional n t) ≡ optional_height t
  renumbered_optional n t = fold_numbered_optional heights over_numbered n t
