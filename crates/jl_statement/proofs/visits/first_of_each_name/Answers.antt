use Rattle.jl_statement.proofs.Gathered.{firsts_added, firsts_passed}
use Rattle.jl_statement.proofs.visits.first_of_each_name.Goals as goal

pub loop-visit-preserved : goal.loop-visit-preserved
loop-visit-preserved c =
    firsts_added _ _ _ _ _ _ c.visit-item.result c.in_ok-copy_visit.field-0 _ _ c.loop-visit.invariant
    c.loop-visit-test.true c.visit-item.is c.units.ensures.same c.in_ok-insert.ensures.added c.if-not-branch.false
    c.in_ok-insert.ensures.names c.in_ok-push.ensures.ok c.in_ok-copy_visit.ensures

pub loop-visit-preserved-then-not-branch : goal.loop-visit-preserved-then-not-branch
loop-visit-preserved-then-not-branch c =
    firsts_passed _ _ _ _ _ c.visit-item.result _ _ c.loop-visit.invariant c.loop-visit-test.true c.visit-item.is
    c.units.ensures.same c.in_ok-insert.ensures.added c.if-not-branch.true c.in_ok-insert.ensures.names
