use Rattle.std.proofs.Common.{◌≡◌, map, take}
use Rattle.jl_record.specs.Bounded.{Appends}
use Rattle.jl_record.specs.Lines.{with_ends}
use Rattle.jl_record.specs.Records.{off_line}
use Rattle.jl_record.proofs.written_lines.write_pairs.Given as goal

abbrev pub invariant-loop-pair : goal.invariant-loop-pair
invariant-loop-pair l =
    (l.text.limit ≡ l.initial.text.limit)
    × Appends l.initial.text l.text (with_ends (map off_line (take l.pair-index l.pairs)))
