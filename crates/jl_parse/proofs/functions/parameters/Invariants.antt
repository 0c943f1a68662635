use Rattle.std.proofs.Common.{◌≡◌, map}
use Rattle.jl_ast.specs.View.{view_ident}
use Rattle.jl_grammar.specs.Reader.{names_from, parameters_at}
use Rattle.jl_parse.proofs.Lists.{with_list}
use Rattle.jl_parse.proofs.functions.parameters.Given as goal

abbrev pub invariant-parts : goal.invariant-parts
invariant-parts l = with_list (map view_ident l.parameters) (names_from l.tokens l.room l.next)
    ≡ parameters_at l.tokens l.at

abbrev pub decreases-parts : goal.decreases-parts
decreases-parts l = l.room
