use Rattle.std.proofs.lemmas.Result.{IfOk-weaker}
use Rattle.jl_literal.proofs.Elements.{array_ends, array_goes_on}
use Rattle.jl_literal.proofs.array_literals.fill.Goals as goal

pub returns-in-Length-clause-refines : goal.returns-in-Length-clause-refines
returns-in-Length-clause-refines c =
    IfOk-weaker _ _ _ (λ a refines. array_ends c.args.state.now _ _ c.args.rest c.args.array c.args.index c.args.here
    c.in_ok-length.field-0 c.in_ok-length.ensures _ c.in-Length.is refines) c.end_array.ensures.refines

pub returns-in-Element-clause-refines : goal.returns-in-Element-clause-refines
returns-in-Element-clause-refines c =
    IfOk-weaker _ _ _ (λ a refines. array_goes_on c.args.state.now _ _ c.args.rest c.args.array c.args.index c.args.here
    c.in_ok-length.field-0 c.in_ok-length.ensures _ _ _ c.in-Element.is refines) c.evaluate.ensures.refines
