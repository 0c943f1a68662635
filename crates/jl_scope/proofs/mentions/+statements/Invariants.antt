use Rattle.std.proofs.Common.{◌≡◌, drop}
use Rattle.jl_ast.specs.View.{view_statements, view_cases}
use Rattle.jl_scope.specs.Mentions.{forest_mentions}
use Rattle.jl_scope.specs.Names.{arguments_name}
use Rattle.jl_scope.proofs.mentions.+statements.Given as goal

abbrev pub invariant-statements_mention-loop-s : goal.invariant-statements_mention-loop-s
invariant-statements_mention-loop-s l =
    forest_mentions arguments_name (view_statements (drop l.s-index l.statements))
    ≡ forest_mentions arguments_name (view_statements l.statements)

abbrev pub invariant-cases_mention-loop-c : goal.invariant-cases_mention-loop-c
invariant-cases_mention-loop-c l =
    forest_mentions arguments_name (view_cases (drop l.c-index l.cases))
    ≡ forest_mentions arguments_name (view_cases l.cases)
