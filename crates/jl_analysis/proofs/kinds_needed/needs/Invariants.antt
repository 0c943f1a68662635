use Rattle.std.proofs.Common.{◌≡◌}
use Rattle.std.specs.Prelude.{◌&&◌}
use Rattle.std.specs.List.{list_any}
use Rattle.jl_op.specs.declared.kind.OpKind.{OpKind}
use Rattle.jl_op.specs.KindSets.{is_member}
use Rattle.jl_analysis.specs.Chosen.{is_chosen}
use Rattle.jl_analysis.specs.Rules.{looks_at}
use Rattle.jl_analysis.proofs.KindsAdded.{rules_below}
use Rattle.jl_analysis.proofs.kinds_needed.needs.Given as goal

abbrev pub invariant-loop-rule : goal.invariant-loop-rule
invariant-loop-rule l = (kind : OpKind) → is_member l.kinds kind
    ≡ list_any (λ rule. is_chosen l.rules rule && looks_at rule kind) (rules_below l.rule)
