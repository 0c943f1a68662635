use Rattle.jl_num.proofs.Results.{results_are_numbers}
use Rattle.jl_num.proofs.laws.results_are_numbers.Goals as goal

pub returns : goal.returns
returns c = results_are_numbers
