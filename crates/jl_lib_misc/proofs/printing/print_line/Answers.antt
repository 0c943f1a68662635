use Rattle.std.proofs.Common.{refl, ◌∙◌}
use Rattle.jl_lib_misc.proofs.Lines.{no_room, prints}
use Rattle.jl_lib_misc.proofs.printing.print_line.Goals as goal

pub returns-then-not-has_room-clause-refines : goal.returns-then-not-has_room-clause-refines
returns-then-not-has_room-clause-refines c =
    no_room _ _ _ _ _ _ (c.as_slice-line.ensures.value ∙ c.in_ok-bytes.ensures) c.len.ensures refl
    c.has_room.ensures c.if-not-has_room.true

pub returns-clause-refines : goal.returns-clause-refines
returns-clause-refines c =
    prints _ _ _ _ _ _ _ _ (c.as_slice-line.ensures.value ∙ c.in_ok-bytes.ensures) c.len.ensures refl
    c.has_room.ensures c.if-not-has_room.false refl c.in_ok-append_line.ensures
