use Rattle.std.proofs.Common.{◌≡◌, drop}
use Rattle.jl_ast.specs.View.{view_declarators}
use Rattle.jl_scope.specs.Mentions.{forest_mentions}
use Rattle.jl_scope.specs.Names.{arguments_name}
use Rattle.jl_scope.proofs.mentions.declarators_mention.Given as goal

abbrev pub invariant-loop-d : goal.invariant-loop-d
invariant-loop-d l =
    forest_mentions arguments_name (view_declarators (drop l.d-index l.declarators))
    ≡ forest_mentions arguments_name (view_declarators l.declarators)
