use Rattle.std.proofs.Common.{refl}
use Rattle.std.proofs.lemmas.Result.{IfOk-weaker}
use Rattle.jl_lib_array.proofs.Joined.{joins_none_more, joins_one}
use Rattle.jl_lib_array.proofs.joining.join_one.Goals as goal

pub returns-then-not-has_room-clause-refines : goal.returns-then-not-has_room-clause-refines
returns-then-not-has_room-clause-refines c =
    joins_none_more c.args.joining c.args.index c.args.line _ _ _ _ c.len.ensures c.units-separator.ensures.same refl
    c.has_room.ensures c.args.state.now c.if-not-has_room.true

pub returns-clause-refines : goal.returns-clause-refines
returns-clause-refines c =
    IfOk-weaker _ _ _ (λ a refines. joins_one c.args.joining c.args.index c.args.line _ _ _ _ c.len.ensures
    c.units-separator.ensures.same refl c.has_room.ensures c.args.state.now _ _ _ c.if-not-has_room.false
    c.in_ok-line.ensures refines) c.get_for.ensures.refines
