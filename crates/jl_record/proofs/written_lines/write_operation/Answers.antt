use Rattle.jl_record.proofs.Storable.{on_ok_now}
use Rattle.jl_record.proofs.written_lines.write_operation.Goals as goal

pub returns-clause-facts : goal.returns-clause-facts
returns-clause-facts c = on_ok_now _ c.in_ok-write_facts.ensures.facts
