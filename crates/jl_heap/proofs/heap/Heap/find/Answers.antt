use Rattle.std.proofs.Common.{◌≡◌, ◌∙◌, ap, sym, Some, None}
use Rattle.std.specs.Option.{option_copied}
use Rattle.jl_heap.specs.Objects.{object_at, own}
use Rattle.jl_heap.proofs.ChainLemmas.{find_goes_on}
use Rattle.jl_heap.proofs.heap.Heap.find.Goals as goal

pub loop-property-preserved : goal.loop-property-preserved
loop-property-preserved c =
    let heap = c.args.self.now in
    let name = c.args.name.now in
    let at = c.loop-property.at.0 in
    let none : own heap at name ≡ None = sym c.own.ensures ∙ ap option_copied c.in_default.is in
    let proto : (object_at heap at).proto ≡ Some c.in_ok-at.at = sym c.proto_of.ensures.value ∙ c.in_ok-at.was in
    sym (find_goes_on heap c.proto_of.ensures.older name at c.in_ok-at.at none proto) ∙ c.loop-property.invariant
