use Rattle.jl_effects.specs.Matching.{IsWithin}
use Rattle.jl_effects.specs.Following.{IsAny}
use Rattle.jl_effects.proofs.Follow.{any_prefixed, within_prefixed}
use Rattle.jl_effects.proofs.Rows.{row_follows}
use Rattle.jl_effects.proofs.laws.rows_follow_calls.Goals as goal

pub returns-clause-follows : goal.returns-clause-follows
returns-clause-follows g c = λ l kept call fault first second calls p.
    row_follows l kept IsAny (any_prefixed kept) call fault first second calls p

pub returns-clause-within : goal.returns-clause-within
returns-clause-within g c = λ l kept call fault first second calls p.
    row_follows l kept (IsWithin kept) (within_prefixed kept) call fault first second calls p
