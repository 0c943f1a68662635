use Rattle.jl_print.proofs.Printed.{printed_reads_back}
use Rattle.jl_print.proofs.laws.printed_reads_back.Goals as goal

pub returns : goal.returns
returns c = printed_reads_back
