use Rattle.jl_record.specs.Facts.{a_text}
use Rattle.jl_record.proofs.Marks.{one_fact}
use Rattle.jl_record.proofs.fact.TextFact.known.Goals as goal

pub returns : goal.returns
returns c = one_fact a_text
