use Rattle.std.proofs.Common.{subst}
use Rattle.std.proofs.lemmas.Result.{IfOk-weaker}
use Rattle.jl_meaning.specs.Conversions.{to_number}
use Rattle.jl_meaning.specs.Parts.{give, ◌>>=◌}
use Rattle.jl_progress.specs.Strings.{place_of_part}
use Rattle.jl_state.specs.Rest.{RefinesAlgorithm}
use Rattle.jl_lib_text.proofs.places.resume_part.Goals as goal

pub returns-clause-refines : goal.returns-clause-refines
returns-clause-refines c =
    IfOk-weaker _ _ _ (λ a refines. subst
    (λ x. RefinesAlgorithm c.args.state.now (to_number c.args.position >>= λ n. give
    (place_of_part c.args.search c.args.units x n)) c.convert_place.new.state a) c.in_ok-part.ensures refines)
    c.convert_place.ensures.refines
