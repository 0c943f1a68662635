use Rattle.jl_read_back.proofs.Early.{first_is_reserved, keeps_rules}
use Rattle.jl_read_back.proofs.laws.woven_keeps_rules.Goals as goal

pub returns-clause-rules : goal.returns-clause-rules
returns-clause-rules c = keeps_rules

pub returns-clause-first : goal.returns-clause-first
returns-clause-first c = first_is_reserved
