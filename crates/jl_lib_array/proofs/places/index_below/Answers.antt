use Rattle.jl_lib_array.proofs.PlaceTurns.{index_is_below, none_below}
use Rattle.jl_lib_array.proofs.places.index_below.Goals as goal

pub returns-then-at-eq0 : goal.returns-then-at-eq0
returns-then-at-eq0 c =
    none_below c.args.at c.if-at-eq0.true

pub returns : goal.returns
returns c =
    index_is_below c.args.at c.if-at-eq0.false
