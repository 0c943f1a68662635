use Rattle.std.proofs.Common.{refl}
use Rattle.std.proofs.lemmas.Result.{IfOk-weaker}
use Rattle.jl_meaning.specs.Parts.{give}
use Rattle.jl_progress.specs.Strings.{place_of_part, string_after}
use Rattle.jl_progress.specs.declared.string.StringProgress.TheVariants as progress
use Rattle.jl_builtin.proofs.Conversions.{as_number}
use Rattle.jl_lib_text.proofs.places.convert_place.Goals as goal

pub returns-clause-refines : goal.returns-clause-refines
returns-clause-refines c =
    IfOk-weaker _ _ _ (λ a refines. as_number _ _ _ c.args.position
    (string_after (progress.Place c.args.search c.args.units c.args.part))
    (λ n. give (place_of_part c.args.search c.args.units c.args.part n)) (λ p. refl) refines)
    c.wait_for_number.ensures.refines
