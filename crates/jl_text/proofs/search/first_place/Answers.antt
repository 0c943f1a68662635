use Rattle.jl_text.proofs.EndsLemmas.{first_by_units}
use Rattle.jl_text.proofs.SearchLemmas.{first_place-is}
use Rattle.jl_text.proofs.search.first_place.Goals as goal

pub returns-clause-value : goal.returns-clause-value
returns-clause-value c = first_place-is c.args.units.now c.args.part.now c.args.from _
    (first_by_units c.args.units.now c.args.part.now c.args.from _ c.least_place.ensures)

pub returns-clause-least : goal.returns-clause-least
returns-clause-least c = first_by_units c.args.units.now c.args.part.now c.args.from _ c.least_place.ensures
