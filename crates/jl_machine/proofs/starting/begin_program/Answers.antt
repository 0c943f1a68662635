use Rattle.std.proofs.Common.{refl}
use Rattle.jl_machine.proofs.Meanings.{declared_then, declared_thrown}
use Rattle.jl_machine.proofs.starting.begin_program.Goals as goal

pub returns-in_ok-begin_statements-in-Gives : goal.returns-in_ok-begin_statements-in-Gives
returns-in_ok-begin_statements-in-Gives c =
    declared_then _ _ _ c.args.body.now _ c.args.here _ _ _ refl c.in_ok-declare_program.ensures c.in-Gives.is
    c.in_ok-begin_statements-in-Gives.ensures.refines

pub returns-in-Throws : goal.returns-in-Throws
returns-in-Throws c =
    declared_thrown _ _ c.args.body.now _ c.args.here _ _ refl c.in_ok-declare_program.ensures c.in-Throws.is
