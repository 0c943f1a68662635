use Rattle.std.proofs.Common.{◌∙◌, suc, arith, rules}
use Rattle.jl_ast.proofs.Views.{nodes}
use Rattle.jl_parse.proofs.Heights.{made_low, refused}
use Rattle.jl_parse.proofs.nodes.expression_node.Goals as goal

pub returns-in_err-height : goal.returns-in_err-height
returns-in_err-height c =
    refused _ _ _ _ _ _ _ c.from_residual-in_err-height.ensures c.in_err-height.ensures.place
    c.in_err-height.ensures.high c.requires

pub returns : goal.returns
returns c =
    made_low {h = suc c.args.height} _ _ c.requires (omega (arith, c.in_ok-height.ensures.low)) ∙ search (rules, nodes)
