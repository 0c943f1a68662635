use Rattle.std.proofs.Common.{◌+◌, [], arith}
use Rattle.std.specs.Prelude.{slice_range}
use Rattle.jl_srcmap.specs.Mappings.{pieces_of, semicolon, start}
use Rattle.jl_srcmap.specs.SourceMap.{IsTextRefusal}
use Rattle.jl_srcmap.specs.inner.Reading.{going, kept, parts_from, progress, read_pieces}
use Rattle.jl_srcmap.proofs.Loops.{handed_on, text_ends, text_stops, text_turn}
use Rattle.jl_srcmap.proofs.Pieces.{all_read}
use Rattle.jl_srcmap.proofs.read.read_mappings.Goals as goal

pub returns-in_err-read_group-clause-refused : goal.returns-in_err-read_group-clause-refused
returns-in_err-read_group-clause-refused c =
    let text = c.args.text.now in
    let from = c.loop-from.from in
    let end = c.end_of_part-end.result in
    handed_on (IsTextRefusal text) c.from_residual.result _ c.from_residual.ensures
    (text_stops _ text (progress c.loop-from.reader) c.loop-from.line from (slice_range text from end)
    (parts_from semicolon 0 text from) (parts_from semicolon 0 text (end + 1)) c.loop-from.invariant.read
    (c.end_of_part-end.ensures.part 0) c.in_err-read_group.ensures.err)

pub loop-from-preserved : goal.loop-from-preserved
loop-from-preserved c =
    let text = c.args.text.now in
    let from = c.loop-from.from in
    let end = c.end_of_part-end.result in
    record {
      few = omega arith;
      read = text_turn (read_pieces (going start []) (pieces_of text)) (progress c.loop-from.reader)
          (progress c.read_group.new.self) c.loop-from.line from (slice_range text from end)
          (parts_from semicolon 0 text from) (parts_from semicolon 0 text (end + 1)) c.loop-from.invariant.read
          (c.end_of_part-end.ensures.part 0) c.in_ok-read_group.ensures.ok;
    }

pub returns-clause-read : goal.returns-clause-read
returns-clause-read c =
    let text = c.args.text.now in
    let reader = c.loop-from.reader in
    all_read text (kept reader.running) reader.segments.items
    (text_ends (read_pieces (going start []) (pieces_of text)) (progress reader) c.loop-from.line c.loop-from.from text
    c.loop-from.invariant.read (omega arith))
