use Rattle.std.proofs.Common.{All, List, subst, sym}
use Rattle.std.proofs.lemmas.Result.{IfOk-weaker}
use Rattle.jl_op.specs.Map.{BeginsIn, MapRow}
use Rattle.jl_text.specs.Places.{line_table}
use Rattle.jl_app.proofs.listing.map_in.Goals as goal

pub returns-clause-within : goal.returns-clause-within
returns-clause-within c =
    let lines = line_table c.args.accepted.now.source in
    IfOk-weaker c.map_of.result _ _
    (λ map is. subst (λ (rows : List MapRow). All (BeginsIn lines) rows) (sym is) c.requires.places)
    c.map_of.ensures
