use Rattle.jl_meaning.specs.builtins.Descriptors.{has_enumerable}
use Rattle.jl_lib_object.proofs.Listings.{kept_more, passed_more}
use Rattle.jl_lib_object.proofs.own_names.enumerable_among.Goals as goal

pub loop-name-preserved : goal.loop-name-preserved
loop-name-preserved c =
    kept_more (has_enumerable c.args.store.now c.args.id.0) _ _ _ _ c.name-item.result _ _ c.loop-name.invariant
    c.loop-name-test.true c.name-item.is c.has_enumerable.ensures c.if-not-has_enumerable.false c.in_ok-copy.ensures
    c.in_ok-push.ensures.ok

pub loop-name-preserved-then-not-has_enumerable : goal.loop-name-preserved-then-not-has_enumerable
loop-name-preserved-then-not-has_enumerable c =
    passed_more (has_enumerable c.args.store.now c.args.id.0) _ _ _ c.name-item.result _ c.loop-name.invariant
    c.loop-name-test.true c.name-item.is c.has_enumerable.ensures c.if-not-has_enumerable.true
