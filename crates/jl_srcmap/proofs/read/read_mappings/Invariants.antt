use Rattle.std.proofs.Common.{◌≡◌, ◌≤◌, ◌+◌, ◌-◌, [], length}
use Rattle.jl_srcmap.specs.Mappings.{pieces_of, pieces_of_groups, semicolon, start}
use Rattle.jl_srcmap.specs.inner.Reading.{going, parts_from, progress, read_pieces}
use Rattle.jl_srcmap.proofs.read.read_mappings.Given as goal

abbrev pub invariant-loop-from : goal.invariant-loop-from
invariant-loop-from l = record {
  few : l.line ≤ l.from;
  read : read_pieces (going start []) (pieces_of l.text)
      ≡ read_pieces (progress l.reader) (pieces_of_groups l.line (parts_from semicolon 0 l.text l.from));
}

abbrev pub decreases-loop-from : goal.decreases-loop-from
decreases-loop-from l = length l.text + 1 - l.from
