use Rattle.std.proofs.Common.{subst, sym, ◌<◌, ◌≡◌, length}
use Rattle.std.specs.Prelude.{IsNone, OnOk}
use Rattle.jl_props.specs.Store.{item_of}
use Rattle.jl_heap.specs.Define.{with_new_property}
use Rattle.jl_heap.specs.Inside.{objects_inside}
use Rattle.jl_heap.specs.Objects.{Objects}
use Rattle.jl_heap.proofs.InsideLemmas.{own_is}
use Rattle.jl_heap.proofs.StoreSteps.{kept_added, seen_added}
use Rattle.jl_heap.proofs.heap.Heap.add_property.Goals as goal

pub put_new-requires : goal.put_new-requires
put_new-requires c =
    let free = subst (λ o. IsNone o) (sym (own_is c.self.inside _ c.args.id.0 _ c.self.invariant c.self.view_is))
    c.requires.free in
    subst (λ n. IsNone (item_of c.self.inside.properties c.args.id.0 n)) (sym c.in_ok-name.ensures) free

pub invariant_of-self : goal.invariant_of-self
invariant_of-self c = kept_added c.self.inside _ _ c.args.name.now c.self.invariant _ _ _
    (subst (λ (h : Objects). c.args.id.0 < length h.objects) (sym c.self.view_is) c.requires.there)
    c.put_new.ensures.made c.put_new.ensures.err

pub returns-clause-ok : goal.returns-clause-ok
returns-clause-ok c =
    subst (λ n. OnOk c.put_new.result (objects_inside (record c.self.inside { properties = c.put_new.new.self })
    ≡ with_new_property c.args.self.now c.args.id.0 n c.args.property))
    c.in_ok-name.ensures
    (seen_added c.self.inside _ _ _ c.self.invariant _ c.self.view_is _ _ c.put_new.ensures.made)
