use Rattle.jl_record.specs.Facts.{a_found}
use Rattle.jl_record.proofs.Marks.{one_fact}
use Rattle.jl_record.proofs.fact.FoundFact.known.Goals as goal

pub returns : goal.returns
returns c = one_fact a_found
