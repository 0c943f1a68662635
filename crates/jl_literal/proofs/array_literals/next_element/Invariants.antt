use Rattle.std.proofs.Common.{◌≡◌, length}
use Rattle.jl_ast.specs.View.{view_items}
use Rattle.jl_state.specs.Trees.{items_left, plain_forest}
use Rattle.jl_literal.specs.inner.Elements.{after_holes}
use Rattle.jl_literal.proofs.array_literals.next_element.Given as goal

abbrev pub invariant-loop-item : goal.invariant-loop-item
invariant-loop-item l = after_holes (plain_forest (view_items (items_left l.rest))) l.index
    ≡ after_holes (plain_forest (view_items (items_left l.fn.rest))) l.fn.index

abbrev pub decreases-loop-item : goal.decreases-loop-item
decreases-loop-item l = length (items_left l.rest)
