use Rattle.jl_print.proofs.Paired.{text_is_paired}
use Rattle.jl_print.proofs.laws.text_is_paired.Goals as goal

pub returns : goal.returns
returns c = text_is_paired
