-- The elements of an array literal, of which holes are passed over.
use Rattle.std.specs.Prelude.{◌+◌, ℕ}
use Rattle.jl_ast.specs.Tree as tree
use Rattle.jl_ast.specs.View.{view_expression, view_items}
use Rattle.jl_state.specs.Trees.{items_left, plain, plain_forest}
use Rattle.jl_literal.specs.declared.array_literals.Next.{Next}
use Rattle.jl_literal.specs.declared.array_literals.Next.TheVariants.{Element, Length}

-- the elements from the first on that is no hole, and its index
abbrev pub after_holes : tree.Forest ℕ tree.item → (index : ℕ) → tree.Forest ℕ tree.item × ℕ
after_holes (tree.more tree.hole l) k = after_holes l (k + 1)
after_holes l k = (l, k)

abbrev pub next_seen : Next → tree.Forest ℕ tree.item × ℕ
next_seen (Length n) = (tree.end, n)
next_seen (Element k e rest) =
    (tree.more (tree.filled (plain (view_expression e.now))) (plain_forest (view_items (items_left rest))), k)
