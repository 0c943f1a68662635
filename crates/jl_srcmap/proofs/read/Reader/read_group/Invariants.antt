use Rattle.std.proofs.Common.{◌≡◌, ◌+◌, ◌-◌, length, map}
use Rattle.jl_srcmap.specs.Mappings.{comma, piece_on, pieces_of_group}
use Rattle.jl_srcmap.specs.inner.Reading.{parts_from, progress, read_pieces}
use Rattle.jl_srcmap.proofs.read.Reader.read_group.Given as goal

abbrev pub invariant-loop-from : goal.invariant-loop-from
invariant-loop-from l =
    read_pieces (progress l.fn.self) (pieces_of_group l.line l.at l.group)
    ≡ read_pieces (progress l.self) (map (piece_on l.line) (parts_from comma l.at l.group l.from))

abbrev pub decreases-loop-from : goal.decreases-loop-from
decreases-loop-from l = length l.group + 1 - l.from
