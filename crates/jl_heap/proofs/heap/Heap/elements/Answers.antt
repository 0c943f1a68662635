use Rattle.std.proofs.Common.{subst, sym, arith}
use Rattle.std.proofs.lemmas.Result.{IfOk-weaker}
use Rattle.jl_props.specs.Entries.{IsInOrder}
use Rattle.jl_heap.specs.Objects.{object_at}
use Rattle.jl_heap.specs.inner.Steps.{Covers}
use Rattle.jl_heap.proofs.Covered.{covers_past, names_cover}
use Rattle.jl_heap.proofs.InsideLemmas.{properties_at}
use Rattle.jl_heap.proofs.heap.Heap.elements.Goals as goal

pub returns-then-saturating_sub-count-clause-covers : goal.returns-then-saturating_sub-count-clause-covers
returns-then-saturating_sub-count-clause-covers c =
    IfOk-weaker c.elements_between.result (Covers c.args.self.now c.args.id.0 c.args.low c.min.result)
    (Covers c.args.self.now c.args.id.0 c.args.low c.args.high)
    (λ names covers. covers_past c.args.self.now c.args.id.0 c.args.low c.args.high c.min.result names
    (λ i within short. omega (arith, c.min.ensures, c.from-then-saturating_sub-count.ensures, within, short)) covers)
    c.elements_between.ensures

pub returns-then-saturating_sub-count-clause-in_order : goal.returns-then-saturating_sub-count-clause-in_order
returns-then-saturating_sub-count-clause-in_order c =
    subst (λ h. IsInOrder (object_at h c.args.id.0).properties) c.self.view_is
    (subst (λ es. IsInOrder es) (sym (properties_at c.self.inside c.args.id.0 c.self.invariant))
    (c.count.ensures.kept.in_order c.args.id.0))

pub returns-else-saturating_sub-count-clause-covers : goal.returns-else-saturating_sub-count-clause-covers
returns-else-saturating_sub-count-clause-covers c =
    let h = c.args.self.now in
    let k = c.args.id.0 in
    IfOk-weaker c.names.result _ (Covers h k c.args.low c.args.high)
    (λ names is. names_cover h k c.args.low c.args.high names is)
    c.names.ensures.names
