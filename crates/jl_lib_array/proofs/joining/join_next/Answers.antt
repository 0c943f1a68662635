use Rattle.std.proofs.Common.{refl}
use Rattle.std.proofs.lemmas.Result.{IfOk-weaker}
use Rattle.jl_progress.specs.Arrays.{join_others}
use Rattle.jl_lib_array.proofs.Joined.{has_room, no_room}
use Rattle.jl_lib_array.proofs.joining.join_next.Goals as goal

pub returns-then-not-has_room-clause-refines : goal.returns-then-not-has_room-clause-refines
returns-then-not-has_room-clause-refines c =
    no_room c.args.line c.args.next.now _ _ _ c.len.ensures refl c.has_room.ensures c.args.state.now
    (join_others c.args.joining) c.if-not-has_room.true

pub returns-clause-refines : goal.returns-clause-refines
returns-clause-refines c =
    IfOk-weaker _ _ _ (λ a refines. has_room c.args.line c.args.next.now _ _ _ c.len.ensures refl c.has_room.ensures
    c.args.state.now _ _ (join_others c.args.joining) _ c.if-not-has_room.false c.in_ok-line.ensures refines)
    c.begin_turn.ensures.refines
