use Rattle.std.proofs.Common.{List, ℕ}
use Rattle.std.specs.Borrow.{Bor}
use Rattle.jl_statement.proofs.Dropped.{mapped_more}
use Rattle.jl_statement.proofs.jumps.with_label.Goals as goal

pub loop-other-preserved : goal.loop-other-preserved
loop-other-preserved c =
    mapped_more (λ (x : Bor (List ℕ)). x.now) _ c.loop-other.other-index c.loop-other.all _ c.args.labels _
    c.other-item.result c.loop-other.invariant c.items-other-items.ensures c.loop-other-test.true c.other-item.is
    c.in_ok-push-2.ensures.ok
