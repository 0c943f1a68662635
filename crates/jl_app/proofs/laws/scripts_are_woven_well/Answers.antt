use Rattle.jl_app.proofs.WovenWell.{woven_well}
use Rattle.jl_app.proofs.laws.scripts_are_woven_well.Goals as goal

pub returns : goal.returns
returns c = λ kinds bytes p is.
    woven_well c.accepted_scripts_simulate.ensures c.woven_reads_back.ensures c.woven_text_is_bounded.ensures
    c.woven_bytes_are_bounded.ensures.script c.woven_units_are_small.ensures.script c.woven_keeps_rules.ensures.first
    c.one_reading.ensures c.more_budget.ensures c.kept_hooks.ensures kinds bytes p is
