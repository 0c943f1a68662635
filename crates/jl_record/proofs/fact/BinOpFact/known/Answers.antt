use Rattle.jl_record.specs.Facts.{a_binary}
use Rattle.jl_record.proofs.Marks.{one_fact}
use Rattle.jl_record.proofs.fact.BinOpFact.known.Goals as goal

pub returns : goal.returns
returns c = one_fact a_binary
