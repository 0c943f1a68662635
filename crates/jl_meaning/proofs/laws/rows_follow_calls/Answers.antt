use Rattle.jl_effects.specs.Matching.{IsWithin}
use Rattle.jl_effects.specs.Following.{IsAny}
use Rattle.jl_effects.proofs.Follow.{any_prefixed, within_prefixed}
use Rattle.jl_effects.proofs.Rows.{row_follows}
use Rattle.jl_op.specs.Chosen.{is_kept}
use Rattle.jl_meaning.specs.Mean.{language}
use Rattle.jl_meaning.specs.Parts.{CallOf, fault_of}
use Rattle.jl_meaning.proofs.laws.rows_follow_calls.Goals as goal

pub returns-clause-follows : goal.returns-clause-follows
returns-clause-follows g c = λ chosen first second calls p.
    let kept = is_kept chosen in
    row_follows language kept IsAny (any_prefixed kept) CallOf fault_of first second calls p

pub returns-clause-within : goal.returns-clause-within
returns-clause-within g c = λ chosen first second calls p.
    let kept = is_kept chosen in
    row_follows language kept (IsWithin kept) (within_prefixed kept) CallOf fault_of first second calls p
