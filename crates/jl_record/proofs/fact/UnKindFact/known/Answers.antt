use Rattle.jl_record.specs.Facts.{a_unary}
use Rattle.jl_record.proofs.Marks.{one_fact}
use Rattle.jl_record.proofs.fact.UnKindFact.known.Goals as goal

pub returns : goal.returns
returns c = one_fact a_unary
