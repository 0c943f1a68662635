use Rattle.jl_effects.specs.Running.{keeping, nothing_done}
use Rattle.jl_effects.proofs.Growth.{more_steps}
use Rattle.jl_op.specs.Chosen.{is_kept}
use Rattle.jl_op.specs.Ids.{program_with_ids}
use Rattle.jl_meaning.specs.FunctionTable.{function_table}
use Rattle.jl_meaning.specs.Jobs.{job}
use Rattle.jl_meaning.specs.Mean.{language, script}
use Rattle.jl_meaning.specs.Realm.{realm}
use Rattle.jl_meaning.proofs.laws.more_budget.Goals as goal

pub returns : goal.returns
returns g c = λ chosen p n d.
    let q = program_with_ids p in
    more_steps language (keeping (is_kept chosen)) (job (function_table q)) n d (script q) (nothing_done realm)
