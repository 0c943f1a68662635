use Rattle.jl_hook_bound.proofs.Programs.{hooks_take_steps, quiet_hooks_take_steps}
use Rattle.jl_hook_bound.proofs.laws.hooks_take_steps.Goals as goal

pub returns-clause-meant : goal.returns-clause-meant
returns-clause-meant g c = λ chosen p n. hooks_take_steps chosen p n

pub returns-clause-quietly : goal.returns-clause-quietly
returns-clause-quietly g c = λ chosen p n. quiet_hooks_take_steps chosen p n
