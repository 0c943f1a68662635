use Rattle.std.proofs.Common.{◌∙◌, rules}
use Rattle.jl_ast.proofs.Views.{nodes}
use Rattle.jl_parse.proofs.Heights.{made_low}
use Rattle.jl_parse.proofs.statement_nodes.statement_node.Goals as goal

pub returns : goal.returns
returns c =
    made_low _ _ c.requires.high c.requires.low
    ∙ search (rules, nodes)
