use Rattle.jl_safety.proofs.Programs.{also_quietly}
use Rattle.jl_safety.proofs.Woven.{woven_never_misuses}
use Rattle.jl_simulation.specs.Weaving.{woven_program}
use Rattle.jl_safety.proofs.laws.woven_never_misuses.Goals as goal

pub returns-clause-meant : goal.returns-clause-meant
returns-clause-meant c = λ chosen ts limit p read none few n.
    woven_never_misuses chosen p (c.accepted_scripts_simulate.ensures chosen ts limit p read none few) none n

pub returns-clause-quietly : goal.returns-clause-quietly
returns-clause-quietly c = λ chosen ts limit p read none few n.
    also_quietly chosen (woven_program chosen p) n
    (woven_never_misuses chosen p (c.accepted_scripts_simulate.ensures chosen ts limit p read none few) none n)
