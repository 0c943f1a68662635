use Rattle.std.proofs.Common.{◌≡◌, subst, sym}
use Rattle.std.specs.Prelude.{IsSome}
use Rattle.jl_props.specs.Store.{item_of}
use Rattle.jl_heap.specs.Define.{with_property}
use Rattle.jl_heap.specs.Inside.{objects_inside}
use Rattle.jl_heap.proofs.InsideLemmas.{own_is}
use Rattle.jl_heap.proofs.Named.{named, right_name}
use Rattle.jl_heap.proofs.StoreSteps.{kept_replaced, seen_replaced}
use Rattle.jl_heap.proofs.heap.Heap.set_length.Goals as goal

pub set-requires : goal.set-requires
set-requires c =
    let there = subst (λ o. IsSome o) (sym (own_is c.self.inside _ c.args.id.0 _ c.self.invariant c.self.view_is))
    c.requires.there in
    subst (λ n. IsSome (item_of c.self.inside.properties c.args.id.0 n))
    (sym (right_name c.self.inside _ c.self.invariant c.in-Some.is)) there

pub invariant_of-self : goal.invariant_of-self
invariant_of-self c = kept_replaced c.self.inside _ _ c.in-Some.name c.self.invariant c.args.length c.set.ensures

pub returns-in-Some : goal.returns-in-Some
returns-in-Some c =
    subst (λ n. objects_inside (record c.self.inside { properties = c.set.new.self })
    ≡ with_property c.args.self.now c.args.id.0 n c.args.length)
    (right_name c.self.inside _ c.self.invariant c.in-Some.is)
    (seen_replaced c.self.inside _ _ _ c.self.invariant _ c.self.view_is _ c.set.ensures)

pub returns-in-None : goal.returns-in-None
returns-in-None c = absurd (named c.self.inside _ _ c.self.invariant c.self.view_is c.requires.array c.in-None.is)
