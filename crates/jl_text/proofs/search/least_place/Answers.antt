use Rattle.jl_text.proofs.PeriodLemmas.{IsLeastPlace-later}
use Rattle.jl_text.proofs.search.least_place.Goals as goal

pub returns-in-Err : goal.returns-in-Err
returns-in-Err g c = IsLeastPlace-later (g.U.Units.unit c.args.units) (g.U.Units.unit c.args.part)
    (g.U.Units.size c.args.part) c.args.from c.in-Err.at (g.U.Units.size c.args.units) c.place_by_suffix.result
    c.in-Err.ensures.not_before c.place_by_suffix.ensures
