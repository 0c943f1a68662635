use Rattle.std.proofs.Common.{◌≡◌, take}
use Rattle.std.specs.Prelude.{◌||◌}
use Rattle.jl_op.specs.declared.kind.OpKind.{OpKind}
use Rattle.jl_op.specs.KindSets.{is_member}
use Rattle.jl_analysis.specs.Rules.{is_one_of}
use Rattle.jl_analysis.proofs.kinds_needed.with_all.Given as goal

abbrev pub invariant-loop-kind : goal.invariant-loop-kind
invariant-loop-kind l = (other : OpKind) → is_member l.all other
    ≡ (is_member l.fn.kinds other || is_one_of (take l.kind-index l.more) other)
