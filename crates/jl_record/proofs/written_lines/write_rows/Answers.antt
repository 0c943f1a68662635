use Rattle.std.proofs.Common.{◌∙◌, ◌≤◌, length, map, ap, subst, arith}
use Rattle.jl_record.specs.Bounded.{Appends}
use Rattle.jl_record.specs.Lines.{with_ends}
use Rattle.jl_record.specs.Records.{row_line}
use Rattle.jl_record.proofs.RecordText.{row_at, appends_row, rows_lines, take_all}
use Rattle.jl_record.proofs.written_lines.write_rows.Goals as goal

pub loop-before-preserved : goal.loop-before-preserved
loop-before-preserved c = (
  c.write_row.ensures.limit ∙ c.loop-before.invariant.0,
  appends_row c.args.lines.now c.args.rows.now c.loop-before.before c.kind_of.result c.place_of.result
      c.line_col-line.result _ _ _ c.kind_of.ensures c.place_of.ensures c.line_col-line.ensures.value
      c.loop-before.invariant.1 c.in_ok-write_row.ensures.holds,
)

pub returns-clause-holds : goal.returns-clause-holds
returns-clause-holds c =
    let all : length c.args.rows.now ≤ c.loop-before.before =
    let past = c.loop-before-test.false in omega (arith, c.len-before-end.ensures) in
    subst (λ ls. Appends c.args.text.now c.loop-before.text (with_ends ls))
    (ap (map (λ row. row_line (row_at c.args.lines.now row))) (take_all c.loop-before.before c.args.rows.now all)
    ∙ rows_lines c.args.lines.now c.args.rows.now)
    c.loop-before.invariant.1
