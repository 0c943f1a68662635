use Rattle.std.proofs.Common.{◌≡◌, ◌∙◌, Some, None, true, ap, subst, sym, arith}
use Rattle.std.specs.Option.{option_copied_mut}
use Rattle.std.proofs.lemmas.Bool.{false≢true}
use Rattle.jl_props.specs.Entries.{IsInOrder}
use Rattle.jl_heap.specs.Define.{keeps_length}
use Rattle.jl_heap.specs.Inside.{objects_inside}
use Rattle.jl_heap.specs.Objects.{object_at, own}
use Rattle.jl_heap.proofs.InsideLemmas.{own_is, properties_at}
use Rattle.jl_heap.proofs.StoreSteps.{kept_replaced, seen_replaced}
use Rattle.jl_heap.proofs.ValueAlone.{Puts, puts}
use Rattle.jl_heap.proofs.heap.Heap.set_value.Goals as goal

pub returns-in_default-clause-taken : goal.returns-in_default-clause-taken
returns-in_default-clause-taken c =
    let none : own c.args.self.now c.args.id.0 c.args.name.now ≡ None =
    sym (own_is c.self.inside _ c.args.id.0 _ c.self.invariant c.self.view_is) ∙ sym c.get_mut.ensures.value
    ∙ ap option_copied_mut c.in_default.is in
    (λ no. absurd (false≢true no), λ takes. absurd (false≢true (rw none at takes)))

pub invariant_of-self-2 : goal.invariant_of-self-2
invariant_of-self-2 c =
    kept_replaced c.self.inside _ _ c.args.name.now c.self.invariant c.set_value.new.self
    (rw c.in-Some.is at (c.get_mut.follows.holds c.set_value.new.self))

outcome : (c : goal.After-self-2-1) → Puts c.args.self.now
    (objects_inside (record c.self.inside { properties = c.get_mut.follows.lender c.set_value.new.self }))
    c.args.id.0 c.args.name.now c.args.value c.set_value.result
outcome c =
    let found : own c.args.self.now c.args.id.0 c.args.name.now ≡ Some c.in-Some.property.now =
    sym (own_is c.self.inside _ c.args.id.0 _ c.self.invariant c.self.view_is) ∙ sym c.get_mut.ensures.value
    ∙ ap option_copied_mut c.in-Some.is in
    let ordered = subst (λ h. IsInOrder (object_at h c.args.id.0).properties) c.self.view_is
    (subst (λ es. IsInOrder es) (sym (properties_at c.self.inside c.args.id.0 c.self.invariant))
    (c.get_mut.ensures.kept.in_order c.args.id.0)) in
    let seen = seen_replaced c.self.inside _ _ _ c.self.invariant _ c.self.view_is c.set_value.new.self
    (rw c.in-Some.is at (c.get_mut.follows.holds c.set_value.new.self)) in
    let keeps : keeps_length c.args.self.now c.args.id.0 c.args.name.now ≡ true =
    grind (arith, c.if-not-keeps_length.false, c.keeps_length.ensures) in
    puts c.args.self.now _ c.args.id.0 c.args.name.now c.in-Some.property.now c.set_value.new.self c.args.value
    c.set_value.result
    ordered found keeps seen c.set_value.ensures.property c.set_value.ensures.taken

pub returns-clause-done : goal.returns-clause-done
returns-clause-done c = (outcome c).done

pub returns-clause-err : goal.returns-clause-err
returns-clause-err c = (outcome c).err

pub returns-clause-taken : goal.returns-clause-taken
returns-clause-taken c = (outcome c).taken
