use Rattle.std.proofs.Common.{length}
use Rattle.jl_op.specs.IdMap.{id_map}
use Rattle.jl_read_back.proofs.Bounded.{script_small, units_small}
use Rattle.jl_read_back.proofs.laws.woven_units_are_small.Goals as goal

pub returns-clause-text : goal.returns-clause-text
returns-clause-text c =
    units_small c.read_is_well_formed.ensures c.few_tokens.ensures (λ p. length (id_map p))
    c.map_has_each_id.ensures c.few_ids.ensures

pub returns-clause-script : goal.returns-clause-script
returns-clause-script c =
    script_small c.read_is_well_formed.ensures c.few_tokens.ensures (λ p. length (id_map p))
    c.map_has_each_id.ensures c.few_ids.ensures
