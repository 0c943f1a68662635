use Rattle.std.proofs.Common.{[]}
use Rattle.jl_record.specs.Facts.{IsCallee}
use Rattle.jl_record.proofs.Storable.{fact_on_ok}
use Rattle.jl_record.proofs.fact.CalleeFact.write.Goals as goal

pub returns-clause-fact : goal.returns-clause-fact
returns-clause-fact c = fact_on_ok (IsCallee c.args.self.now) _ [] c.write_callee.ensures.fact
