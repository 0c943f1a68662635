use Rattle.jl_effects.specs.Keeping.{IsOneOf}
use Rattle.jl_effects.specs.Running.{nothing_done, run, state_of}
use Rattle.jl_effects.proofs.Tells.{each_all, run_tells}
use Rattle.jl_effects.proofs.laws.performed_is_named.Goals as goal

pub returns : goal.returns
returns g c = λ l k jobs named job_of good n p s x.
    each_all (IsOneOf named) (state_of (run l k jobs n p (nothing_done s))).operations
    (run_tells l k jobs (IsOneOf named) (IsOneOf job_of) good n p s x)
