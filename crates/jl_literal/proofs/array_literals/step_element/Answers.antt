use Rattle.std.proofs.Common.{refl}
use Rattle.std.proofs.lemmas.Result.{IfOk-weaker}
use Rattle.jl_literal.proofs.Elements.{element_failed, element_put, element_thrown}
use Rattle.jl_literal.proofs.array_literals.step_element.Goals as goal

pub returns-in-Gives-clause-refines : goal.returns-in-Gives-clause-refines
returns-in-Gives-clause-refines c =
    IfOk-weaker _ _ _ (λ a refines. element_put c.args.state.now
    (record c.args.state.now { store = c.put_element.new.store }) refl c.args.array c.args.index c.args.v c.args.rest
    c.args.here _ c.in_ok-answer.ensures _ _ _ _ c.in-Gives.is c.in_ok-next.ensures refines) c.fill.ensures.refines

pub returns-in-Throws-clause-refines : goal.returns-in-Throws-clause-refines
returns-in-Throws-clause-refines c =
    element_thrown c.args.state.now (record c.args.state.now { store = c.put_element.new.store }) refl c.args.array
    c.args.index c.args.v c.args.rest c.args.here _ c.in_ok-answer.ensures _ c.in-Throws.is

pub returns-in-Fails-clause-refines : goal.returns-in-Fails-clause-refines
returns-in-Fails-clause-refines c =
    element_failed c.args.state.now (record c.args.state.now { store = c.put_element.new.store }) refl c.args.array
    c.args.index c.args.v c.args.rest c.args.here _ c.in_ok-answer.ensures _ _ c.in-Fails.is c.fault_of.ensures
