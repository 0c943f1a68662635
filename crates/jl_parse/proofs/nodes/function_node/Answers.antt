use Rattle.std.proofs.Common.{◌∙◌, suc, arith, rules}
use Rattle.jl_ast.specs.declared.tree.Entry.TheViews.{out-roll-Function}
use Rattle.jl_ast.proofs.Views.{function_is}
use Rattle.jl_parse.proofs.Heights.{made_low, refused}
use Rattle.jl_parse.proofs.nodes.function_node.Goals as goal

pub returns-in_err-height : goal.returns-in_err-height
returns-in_err-height c =
    refused _ _ _ _ _ _ _ c.from_residual.ensures c.in_err-height.ensures.place c.in_err-height.ensures.high
    (omega arith)

pub returns : goal.returns
returns c =
    made_low {h = suc c.height-height.result} _ _ (omega arith) (omega (arith, c.in_ok-height.ensures.low))
    ∙ search (rules, function_is, out-roll-Function)
