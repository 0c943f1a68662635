use Rattle.std.proofs.Common.{refl}
use Rattle.jl_literal.proofs.Made.{function_made}
use Rattle.jl_literal.proofs.literals.begin_function.Goals as goal

pub returns-clause-refines : goal.returns-clause-refines
returns-clause-refines c =
    function_made c.args.state.now (record c.args.state.now { store = c.make_function_expression.new.self }) refl
    c.args.here.strict c.args.here.env c.args.function.now c.in_ok-object.object _ c.in_ok-object.ensures
    (c.give_function.ensures.refines _ refl)
