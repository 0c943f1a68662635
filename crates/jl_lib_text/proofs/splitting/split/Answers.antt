use Rattle.std.proofs.lemmas.Result.{IfOk-weaker}
use Rattle.jl_lib_text.proofs.Arguments.{splits}
use Rattle.jl_lib_text.proofs.splitting.split.Goals as goal

pub returns-clause-refines : goal.returns-clause-refines
returns-clause-refines c =
    IfOk-weaker _ _ _ (λ a refines. splits _ _ _ c.args.units c.args.args.now _ _ _ _ c.in_ok-separator.ensures
    c.in_ok-limit.ensures c.in_ok-array.ensures refines) c.convert_limit.ensures.refines
