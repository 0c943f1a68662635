use Rattle.std.proofs.Common.{subst}
use Rattle.jl_operator.proofs.Operands.{found}
use Rattle.jl_progress.specs.Globals.{parse_in}
use Rattle.jl_state.specs.Rest.{RefinesAlgorithm}
use Rattle.jl_lib_misc.proofs.globals.resume_radix.Goals as goal

pub returns-in-Ok-clause-refines : goal.returns-in-Ok-clause-refines
returns-in-Ok-clause-refines c =
    found c.args.state.now _ _ _ c.in-Ok.radix (λ n. parse_in n c.args.units.now) c.in-Ok.ensures
    (subst (λ l. RefinesAlgorithm c.args.state.now (parse_in c.in-Ok.radix l) c.args.state.now c.give_parsed.result)
    c.units.ensures.same (c.give_parsed.ensures.refines c.args.state.now))
