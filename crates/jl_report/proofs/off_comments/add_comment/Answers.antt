use Rattle.std.proofs.Common.{ap, arith}
use Rattle.jl_report.proofs.Switching.{line_within}
use Rattle.jl_report.proofs.off_comments.add_comment.Goals as goal

pub add_text-requires : goal.add_text-requires
add_text-requires c =
    let at = c.line_col-line.ensures.source c.args.units.now c.requires.lines in
    omega (
      arith,
      ap (λ p. p.0) at,
      line_within c.args.units.now c.args.comment.now.span.from,
      c.requires.begins,
      c.requires.ends,
      c.requires.short,
    )
