-- The rows of nodes are their own and those of their parts.
use Rattle.std.proofs.Common.{ℕ, ◌++◌}
use Rattle.jl_ast.specs.Tree as tree
use Rattle.jl_ast.specs.Tree.{Forest, OptionalTree, Sort, Tree}
use Rattle.jl_op.specs.IdMap.{call_entries, entries, forest_entries, optional_entries, MapEntries, MapEntry}
use Rattle.jl_meaning.specs.Parts.{Expr}
use Rattle.jl_operation_rows.proofs.Relation.{by_id, Rows}
use Rattle.jl_effects.proofs.Tells.{each_left, each_right, Each}

abbrev pub of : {x : Sort} → Tree ℕ x → MapEntries ℕ
of t = entries by_id t

abbrev pub of_all : {x : Sort} → Forest ℕ x → MapEntries ℕ
of_all l = forest_entries by_id l

abbrev pub of_any : {x : Sort} → OptionalTree ℕ x → MapEntries ℕ
of_any m = optional_entries by_id m

module _ (IsRow : MapEntry ℕ → Type 0) where
  pub split : (l m : MapEntries ℕ) → Each IsRow (l ++ m) → Each IsRow l × Each IsRow m
  split l m h = (each_left IsRow l m h, each_right IsRow l m h)

  -- those of a callee
  pub callee_rows : (f : Expr) (id : ℕ) → Each IsRow (call_entries by_id f id (of f)) → Rows IsRow f
  callee_rows (tree.dot o k at) id h = (h.0, h.1.1.1)
  callee_rows (tree.index o k at) id h = (h.0, h.1.1.1)
  callee_rows f id h = h.1.1
