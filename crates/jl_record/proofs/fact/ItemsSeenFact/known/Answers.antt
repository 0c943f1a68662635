use Rattle.jl_record.specs.Facts.{some_values}
use Rattle.jl_record.proofs.Marks.{one_fact}
use Rattle.jl_record.proofs.fact.ItemsSeenFact.known.Goals as goal

pub returns : goal.returns
returns c = one_fact some_values
