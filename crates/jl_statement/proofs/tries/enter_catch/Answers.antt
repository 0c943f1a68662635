use Rattle.std.proofs.Common.{refl}
use Rattle.jl_statement.proofs.Catching.{catches}
use Rattle.jl_statement.proofs.Results.{if_ok}
use Rattle.jl_statement.proofs.tries.enter_catch.Goals as goal

pub returns-clause-refines : goal.returns-clause-refines
returns-clause-refines c =
    if_ok _ _ _ c.begin_statements.ensures.refines (λ a refines. catches c.args.state.now
    (record c.args.state.now { store = c.enter_catch.new.self }) c.args.handler.now.0 c.args.handler.now.1 c.args.thrown
    c.args.here (record { env = c.in_ok-env.env; strict = c.args.here.strict }) _ _ refl c.in_ok-env.ensures refl
    refines)
