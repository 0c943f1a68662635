use Rattle.std.proofs.Common.{arith}
use Rattle.jl_store.proofs.MappedNames.{longer_by_one, pushed}
use Rattle.jl_store.proofs.arguments.no_mappings.Goals as goal

pub loop-names-preserved : goal.loop-names-preserved
loop-names-preserved c = record {
  all = pushed _ _ c.in_ok-push.ensures.ok c.loop-names.invariant.all;
  within = omega (arith, longer_by_one _ _ c.in_ok-push.ensures.ok, c.len.ensures);
}
