use Rattle.jl_record.specs.Facts.{an_object}
use Rattle.jl_record.proofs.Marks.{one_fact}
use Rattle.jl_record.proofs.fact.ObjIdFact.known.Goals as goal

pub returns : goal.returns
returns c = one_fact an_object
