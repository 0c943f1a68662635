use Rattle.std.proofs.Common.{subst}
use Rattle.std.proofs.lemmas.Result.{IfOk-weaker}
use Rattle.jl_meaning.specs.Conversions.{to_number}
use Rattle.jl_meaning.specs.Parts.{◌>>=◌}
use Rattle.jl_progress.specs.Globals.{parse_in}
use Rattle.jl_state.specs.Rest.{RefinesAlgorithm}
use Rattle.jl_lib_misc.proofs.globals.resume_numeral.Goals as goal

pub returns-clause-refines : goal.returns-clause-refines
returns-clause-refines c =
    IfOk-weaker _ _ _ (λ a refines. subst
    (λ x. RefinesAlgorithm c.args.state.now (to_number c.args.radix >>= λ n. parse_in n x)
    c.convert_radix.new.state a) c.in_ok-units.ensures refines) c.convert_radix.ensures.refines
