use Rattle.std.proofs.Common.{◌≤◌, ap, arith}
use Rattle.jl_srcmap.specs.Mappings.{sums_on}
use Rattle.jl_srcmap.specs.inner.Reading.{kept, with_segment}
use Rattle.jl_srcmap.proofs.Turns.{past_lines}
use Rattle.jl_srcmap.proofs.read.Reader.read_piece.Goals as goal

pub returns-in_default-clause-err : goal.returns-in_default-clause-err
returns-in_default-clause-err c =
    let self = c.args.self.now in
    let past : 4294967296 ≤ c.args.line = omega (arith, c.in_default.ensures) in
    ap (with_segment (kept self.running) self.segments.items c.args.at)
    (past_lines c.args.line (sums_on c.args.line (kept self.running)) c.args.piece.now past)
