use Rattle.jl_record.proofs.Storable.{one_fact}
use Rattle.jl_record.proofs.fact.SeenFact.write.Goals as goal

pub returns-clause-fact : goal.returns-clause-fact
returns-clause-fact c = one_fact _ c.args.self.now c.write_value.ensures.fact
