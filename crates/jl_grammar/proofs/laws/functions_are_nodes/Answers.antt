use Rattle.jl_grammar.proofs.FewNodes.{functions_are_nodes}
use Rattle.jl_grammar.proofs.laws.functions_are_nodes.Goals as goal

pub returns : goal.returns
returns c = functions_are_nodes
