use Rattle.jl_state.specs.declared.statement_frame.StatementFrame.TheVariants as statement
use Rattle.jl_state.proofs.Leaves.{resumes_supplied_statement}
use Rattle.jl_statement.proofs.jumps.begin_return.Goals as goal

pub returns-in-Some-clause-refines : goal.returns-in-Some-clause-refines
returns-in-Some-clause-refines c =
    resumes_supplied_statement c.args.state.now _ c.take_step.ensures.left _ _
    ((rw c.in-Some.is at c.in_ok-found.ensures.supplies) _ c.take_step.ensures.took c.take_step.ensures.left)
    statement.Return _ _ c.step_return.ensures.refines
