use Rattle.std.proofs.Common.{◌∙◌, get_or}
use Rattle.jl_record.specs.Records.{off_line}
use Rattle.jl_record.proofs.RecordText.{appends_next, there}
use Rattle.jl_record.proofs.written_lines.write_pairs.Goals as goal

pub loop-pair-preserved : goal.loop-pair-preserved
loop-pair-preserved c = (
  c.write_pair.ensures.limit ∙ c.loop-pair.invariant.0,
  appends_next off_line c.args.pairs.now c.loop-pair.pair-index
      (get_or c.args.pairs.now c.loop-pair.pair-index (0, 0)) _ _ _
      (there c.args.pairs.now c.loop-pair.pair-index (0, 0) c.loop-pair-test.true) c.loop-pair.invariant.1
      c.in_ok-write_pair.ensures.holds,
)
