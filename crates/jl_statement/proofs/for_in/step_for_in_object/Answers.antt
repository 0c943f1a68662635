use Rattle.std.proofs.Common.{refl}
use Rattle.jl_statement.proofs.Results.{if_ok}
use Rattle.jl_statement.proofs.Visiting.{visits_nothing, visits_object, visits_thrown}
use Rattle.jl_statement.proofs.for_in.step_for_in_object.Goals as goal

pub returns-then-is_nothing-clause-refines : goal.returns-then-is_nothing-clause-refines
returns-then-is_nothing-clause-refines c =
    visits_nothing _ c.args.variable c.args.body c.args.here c.args.labels c.args.v c.if-is_nothing.ensures

pub returns-in-Throws-clause-refines : goal.returns-in-Throws-clause-refines
returns-in-Throws-clause-refines c =
    visits_thrown _ c.args.variable c.args.body c.args.here c.args.labels c.args.v _ _ _ c.if-is_nothing.ensures refl
    c.in_ok-thrown.ensures c.in-Throws.is

pub returns-clause-refines : goal.returns-clause-refines
returns-clause-refines c =
    if_ok _ _ _ c.visit_object.ensures.refines (λ a refines. visits_object _ c.args.variable c.args.body c.args.here
    c.args.labels c.args.v (record c.args.state.now { store = c.to_object.new.self }) _ _ _ _ c.if-is_nothing.ensures
    refl c.in_ok-thrown.ensures c.in-Gives.is refines)
