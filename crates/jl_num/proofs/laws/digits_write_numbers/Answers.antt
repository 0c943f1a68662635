use Rattle.jl_num.proofs.Numeral.{digits_write_numbers}
use Rattle.jl_num.proofs.laws.digits_write_numbers.Goals as goal

pub returns : goal.returns
returns c = digits_write_numbers
