use Rattle.std.proofs.Common.{sym, ◌∙◌}
use Rattle.jl_store.proofs.Fuel.{prototype_goes_on}
use Rattle.jl_store.proofs.store.Store.is_prototype_of.Goals as goal

pub loop-next-preserved : goal.loop-next-preserved
loop-next-preserved c =
    prototype_goes_on _ c.proto_of.ensures.older c.args.proto.0 _ c.in-Some.next (sym c.proto_of.ensures.value
    ∙ c.in-Some.is)
    c.if-next-proto.false
    ∙ c.loop-next.invariant
