use Rattle.std.proofs.Common.{refl}
use Rattle.jl_statement.proofs.Declaring.{declares}
use Rattle.jl_statement.proofs.Results.{if_ok}
use Rattle.jl_statement.proofs.variables.declare_head.Goals as goal

pub returns-in_ok-push_statement-in-Some-clause-refines : goal.returns-in_ok-push_statement-in-Some-clause-refines
returns-in_ok-push_statement-in-Some-clause-refines c =
    if_ok _ _ _ (rw c.get.ensures at c.assign_name.ensures.refines)
    (λ a refines. declares _ _ _ c.args.turn.here _ _ _ _ _ _ _ _
    c.first_initialised.ensures.same c.in-Some.is c.in_ok-push_statement-in-Some.ensures.pushed (λ v. refl) refines)
