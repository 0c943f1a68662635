use Rattle.std.proofs.Common.{refl}
use Rattle.std.proofs.lemmas.Result.{IfOk-weaker}
use Rattle.jl_progress.specs.Progress.{progress_after}
use Rattle.jl_progress.specs.declared.global.GlobalProgress.TheVariants as global
use Rattle.jl_progress.specs.declared.progress.Progress.TheVariants as progress
use Rattle.jl_builtin.proofs.Conversions.{as_number}
use Rattle.jl_lib_misc.proofs.globals.convert_radix.Goals as goal

pub returns-clause-refines : goal.returns-clause-refines
returns-clause-refines c =
    IfOk-weaker _ _ _ (λ a refines. as_number _ _ _ c.args.radix
    (progress_after (progress.Global (global.Radix c.args.units))) _
    (λ p. refl) refines) c.wait_for_number.ensures.refines
