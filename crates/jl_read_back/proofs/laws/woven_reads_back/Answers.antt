use Rattle.std.proofs.Common.{length}
use Rattle.jl_op.specs.IdMap.{id_map}
use Rattle.jl_read_back.proofs.Programs.{read_program}
use Rattle.jl_read_back.proofs.laws.woven_reads_back.Goals as goal

pub returns : goal.returns
returns c =
    read_program c.printed_reads_back.ensures c.text_is_paired.ensures c.read_is_well_formed.ensures
    c.few_tokens.ensures (λ p. length (id_map p)) c.map_has_each_id.ensures c.few_ids.ensures
