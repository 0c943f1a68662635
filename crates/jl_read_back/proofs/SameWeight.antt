-- A tree weighs the same, however its functions are numbered.
use Rattle.std.proofs.Common.{◌≡◌, ℕ, refl}
use Rattle.jl_ast.specs.Tree.{Sort, Tree, function}
use Rattle.jl_ast.specs.Numbering.{numbered_tree}
use Rattle.jl_ast.proofs.SameFold.{fold_numbered}
use Rattle.jl_read_back.specs.inner.Weight.{tree_weights, weight, weight_with}

module _ (heavy : ℕ) {S : Type 0} where
  with_numbered : (x : Sort) (n : ℕ) (t : Tree S x) (m : ℕ) →
      weight_with heavy (numbered_tree n t) m ≡ weight_with heavy t m
  with_numbered x n (function k a params b s) m = refl
  with_numbered x n t m = refl

  pub renumbered : {x : Sort} (n : ℕ) (t : Tree S x) → weight heavy (numbered_tree n t) ≡ weight heavy t
  renumbered n t = fold_numbered (tree_weights heavy) with_numbered n t
