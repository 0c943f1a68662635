use Rattle.std.proofs.Common.{Some}
use Rattle.jl_statement.proofs.Results.{if_ok}
use Rattle.jl_statement.proofs.Trying.{catch_over}
use Rattle.jl_statement.proofs.tries.begin_catch.Goals as goal

pub returns-clause-refines : goal.returns-clause-refines
returns-clause-refines c =
    if_ok _ _ _ c.enter_catch.ensures.refines (λ a refines. catch_over _ _ (Some c.args.handler.now) c.args.finally
    c.args.thrown c.args.here _ _ c.in_ok-push_completion.ensures.pushed refines)
