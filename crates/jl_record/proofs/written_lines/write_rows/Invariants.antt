use Rattle.std.proofs.Common.{◌≡◌, map, take}
use Rattle.jl_record.specs.Bounded.{Appends}
use Rattle.jl_record.specs.Lines.{with_ends}
use Rattle.jl_record.specs.Records.{row_line}
use Rattle.jl_record.proofs.RecordText.{row_at}
use Rattle.jl_record.proofs.written_lines.write_rows.Given as goal

abbrev pub invariant-loop-before : goal.invariant-loop-before
invariant-loop-before l =
    (l.text.limit ≡ l.initial.text.limit)
    × Appends l.initial.text l.text (with_ends (map (λ row. row_line (row_at l.lines row)) (take l.before l.rows)))
