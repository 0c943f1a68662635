use Rattle.jl_srcmap.proofs.Back.{written_reads_back}
use Rattle.jl_srcmap.proofs.laws.written_reads_back.Goals as goal

pub returns : goal.returns
returns c = written_reads_back
