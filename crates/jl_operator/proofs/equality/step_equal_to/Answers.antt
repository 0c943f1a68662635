use Rattle.jl_operator.proofs.equality.step_equal_to.Goals as goal

pub returns-clause-refines : goal.returns-clause-refines
returns-clause-refines c = c.equal_primitives.ensures.refines c.args.state.now
