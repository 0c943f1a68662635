use Rattle.std.proofs.Common.{◌≡◌, drop}
use Rattle.jl_ast.specs.View.{view_items, view_entries, view_expressions}
use Rattle.jl_scope.specs.Mentions.{forest_mentions}
use Rattle.jl_scope.specs.Names.{arguments_name}
use Rattle.jl_scope.proofs.mentions.+expressions.Given as goal

abbrev pub invariant-items_mention-loop-e : goal.invariant-items_mention-loop-e
invariant-items_mention-loop-e l =
    forest_mentions arguments_name (view_items (drop l.e-index l.items))
    ≡ forest_mentions arguments_name (view_items l.items)

abbrev pub invariant-entries_mention-loop-entry : goal.invariant-entries_mention-loop-entry
invariant-entries_mention-loop-entry l =
    forest_mentions arguments_name (view_entries (drop l.entry-index l.entries))
    ≡ forest_mentions arguments_name (view_entries l.entries)

abbrev pub invariant-expressions_mention-loop-e : goal.invariant-expressions_mention-loop-e
invariant-expressions_mention-loop-e l =
    forest_mentions arguments_name (view_expressions (drop l.e-index l.expressions))
    ≡ forest_mentions arguments_name (view_expressions l.expressions)
