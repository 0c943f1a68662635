use Rattle.jl_operator.proofs.relations.step_right_compared.Goals as goal

pub returns-clause-refines : goal.returns-clause-refines
returns-clause-refines c = c.give_relation.ensures.refines c.args.state.now
