use Rattle.std.proofs.Common.{arith}
use Rattle.jl_parse.proofs.Heights.{refused}
use Rattle.jl_parse.proofs.statement_nodes.labelled_node.Goals as goal

pub returns-in_err-height : goal.returns-in_err-height
returns-in_err-height c =
    refused _ _ _ _ _ _ _ c.from_residual-in_err-height.ensures c.in_err-height.ensures.place
    c.in_err-height.ensures.high (omega arith)
