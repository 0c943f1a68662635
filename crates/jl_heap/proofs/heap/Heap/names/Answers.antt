use Rattle.std.proofs.Common.{◌∙◌, ◌<◌, ap, subst, sym, map}
use Rattle.std.specs.Prelude.{All}
use Rattle.std.proofs.lemmas.Result.{IfOk-weaker}
use Rattle.jl_props.specs.Entries.{IsInOrder, name_and_serial}
use Rattle.jl_props.specs.declared.entries.Entry.{Entry}
use Rattle.jl_heap.specs.Inside.{objects_inside}
use Rattle.jl_heap.specs.Objects.{Objects, names_of, object_at}
use Rattle.jl_heap.specs.declared.property.Prop.{Prop}
use Rattle.jl_heap.proofs.InsideLemmas.{properties_at}
use Rattle.jl_heap.proofs.heap.Heap.names.Goals as goal

pub returns-clause-names : goal.returns-clause-names
returns-clause-names c =
    IfOk-weaker c.in_order.result _ _ (λ names e.
    e ∙ ap (map name_and_serial) (sym (properties_at c.self.inside c.args.id.0 c.self.invariant))
    ∙ ap (λ h. names_of h c.args.id.0) c.self.view_is) c.in_order.ensures.names

pub returns-clause-in_order : goal.returns-clause-in_order
returns-clause-in_order c =
    subst (λ h. IsInOrder (object_at h c.args.id.0).properties) c.self.view_is
    (subst (λ es. IsInOrder es) (sym (properties_at c.self.inside c.args.id.0 c.self.invariant))
    (c.in_order.ensures.kept.in_order c.args.id.0))

pub returns-clause-made_before : goal.returns-clause-made_before
returns-clause-made_before c =
    subst (λ (h : Objects). All (λ (e : Entry Prop). e.serial < h.next) (object_at h c.args.id.0).properties)
    c.self.view_is
    (subst (λ es. All (λ (e : Entry Prop). e.serial < (objects_inside c.self.inside).next) es)
    (sym (properties_at c.self.inside c.args.id.0 c.self.invariant)) (c.in_order.ensures.kept.below_next c.args.id.0))
