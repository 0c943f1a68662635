use Rattle.std.proofs.Common.{◌∙◌, ap₂, refl}
use Rattle.jl_op.specs.Map.{map_lines}
use Rattle.jl_app.proofs.listing.list_map.Goals as goal

pub returns : goal.returns
returns c = (refl, c.in_ok-map_text.ensures ∙ ap₂ map_lines c.lines.ensures c.in_ok-map.ensures.rows)
