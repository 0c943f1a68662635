use Rattle.std.proofs.Common.{refl}
use Rattle.std.proofs.lemmas.Result.{IfOk-weaker}
use Rattle.jl_state.specs.Trees.{items_left}
use Rattle.jl_literal.proofs.Entries.{object_ends, object_goes_on}
use Rattle.jl_literal.proofs.object_literals.equip.Goals as goal

pub returns-in-None-clause-refines : goal.returns-in-None-clause-refines
returns-in-None-clause-refines c =
    object_ends c.args.state.now _ _ (items_left c.args.rest) c.args.object c.args.here c.in-None.ensures
    (c.give_object.ensures.refines _ refl)

pub returns-in-Some-clause-refines : goal.returns-in-Some-clause-refines
returns-in-Some-clause-refines c =
    IfOk-weaker _ _ _ (λ a refines. object_goes_on c.args.state.now _ _
    (items_left c.args.rest) c.args.object c.args.here
    c.in-Some.entry.now (items_left c.in-Some.others) c.in-Some.ensures refines) c.equip_one.ensures.refines
