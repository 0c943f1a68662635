use Rattle.jl_statement.proofs.Results.{if_ok}
use Rattle.jl_statement.proofs.Trying.{caught, uncaught}
use Rattle.jl_statement.proofs.tries.step_try.Goals as goal

pub returns-in-None-clause-refines : goal.returns-in-None-clause-refines
returns-in-None-clause-refines c =
    if_ok _ _ _ c.begin_finally.ensures.refines
    (λ a refines. uncaught c.args.state.now c.args.catch c.args.finally c.args.here c.args.how _ _ c.in-None.is refines)

pub returns-in-Some-clause-refines : goal.returns-in-Some-clause-refines
returns-in-Some-clause-refines c =
    if_ok _ _ _ c.after_block.ensures.refines
    (λ a refines. caught c.args.state.now c.args.catch c.args.finally c.args.here
    c.args.how _ _ _ c.in-Some.is refines)
