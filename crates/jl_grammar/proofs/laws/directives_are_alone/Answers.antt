use Rattle.jl_grammar.proofs.Directives.{directives_are_alone}
use Rattle.jl_grammar.proofs.laws.directives_are_alone.Goals as goal

pub returns : goal.returns
returns c = directives_are_alone
