use Rattle.std.proofs.Common.{◌∙◌, sym}
use Rattle.jl_heap.proofs.ReadOnly.{rejected-unit}
use Rattle.jl_heap.proofs.heap.Heap.define_absent.Goals as goal

pub returns-in-Some-clause-ok : goal.returns-in-Some-clause-ok
returns-in-Some-clause-ok c =
    rejected-unit c.args.self.now _ _ _ c.unit_at.result c.in-Some.unit c.requires.one_kind c.requires.absent
    c.unit_at.ensures c.in-Some.is
    (sym c.is_same_unit.ensures ∙ c.if-is_same_unit.false)
