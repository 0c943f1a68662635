use Rattle.std.proofs.Common.{◌<◌, length, ap, sym, ◌∙◌, arith}
use Rattle.jl_cover.specs.inner.Observed.{lacks_by}
use Rattle.jl_cover.proofs.Rows.{with_gap, without_gap}
use Rattle.jl_cover.proofs.cover.Cover.gaps.Goals as goal
use Rattle.jl_cover.proofs.cover.Cover.gaps.Goals.{in-Some+in_ok-insert, in_default}

pub loop-before-preserved : goal.loop-before-preserved
loop-before-preserved c =
    let lacks = lacks_by c.args.self.now in
    let within : c.loop-before.before < length c.args.map.now =
    omega (arith, c.loop-before-test.true, c.len-before-end.ensures) in
    elim c.match-gap.branch [
      | in-Some+in_ok-insert w ↦
          with_gap c.args.lines.now lacks c.args.map.now c.loop-before.before c.kind_of.result w.place_of.result
          w.in-Some.gap w.line_col-line.result c.loop-before.gaps.entries c.match-gap.gaps.entries
          within c.kind_of.ensures w.place_of.ensures (sym c.gap.ensures ∙ w.in-Some.is)
          w.line_col-line.ensures.value c.loop-before.invariant
          (ap (λ m. m.entries) w.gaps-is ∙ w.in_ok-insert.ensures.entries)
      | in_default w ↦
          ap (λ m. m.entries) w.gaps-is
          ∙ without_gap c.args.lines.now lacks c.args.map.now c.loop-before.before c.kind_of.result
          c.loop-before.gaps.entries within c.kind_of.ensures (sym c.gap.ensures ∙ w.in_default.is)
          c.loop-before.invariant
    ]
