use Rattle.std.proofs.Common.{length}
use Rattle.jl_op.specs.IdMap.{id_map}
use Rattle.jl_read_back.proofs.Bounded.{units_bounded}
use Rattle.jl_read_back.proofs.laws.woven_text_is_bounded.Goals as goal

pub returns : goal.returns
returns c =
    units_bounded c.read_is_well_formed.ensures c.few_tokens.ensures (λ p. length (id_map p)) c.map_has_each_id.ensures
    c.few_ids.ensures
