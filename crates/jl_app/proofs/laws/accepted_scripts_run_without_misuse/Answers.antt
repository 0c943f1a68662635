use Rattle.jl_app.proofs.WithoutMisuse.{without_misuse}
use Rattle.jl_app.proofs.laws.accepted_scripts_run_without_misuse.Goals as goal

pub returns : goal.returns
returns c =
    without_misuse c.accepted_never_misuses.ensures c.woven_never_misuses.ensures.meant
    c.programs_end_or_throw.ensures.meant c.programs_end_or_throw-2.ensures.meant c.scripts_are_woven_well.ensures
