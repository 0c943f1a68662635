use Rattle.jl_meaning.specs.Operators.{give_number}
use Rattle.jl_num.specs.Power.{power_of}
use Rattle.jl_operator.proofs.Operands.{found}
use Rattle.jl_lib_misc.proofs.math.resume_exponent.Goals as goal

pub returns-in-Ok-clause-refines : goal.returns-in-Ok-clause-refines
returns-in-Ok-clause-refines c =
    found c.args.state.now _ _ _ c.in-Ok.exponent (λ y. give_number (power_of c.args.base y)) c.in-Ok.ensures
    (c.give_power.ensures.refines c.args.state.now)
