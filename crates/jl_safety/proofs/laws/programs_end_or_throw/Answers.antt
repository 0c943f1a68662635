use Rattle.jl_safety.proofs.Ends.{program_ends, program_ends_quietly}
use Rattle.jl_safety.proofs.laws.programs_end_or_throw.Goals as goal

pub returns-clause-meant : goal.returns-clause-meant
returns-clause-meant g c = λ chosen p n. program_ends chosen p n

pub returns-clause-quietly : goal.returns-clause-quietly
returns-clause-quietly g c = λ chosen p n. program_ends_quietly chosen p n
