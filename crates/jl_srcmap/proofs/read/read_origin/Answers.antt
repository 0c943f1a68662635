use Rattle.std.proofs.Common.{◌∙◌}
use Rattle.jl_srcmap.proofs.Turns.{no_column, no_end, no_line, no_source, whole_origin}
use Rattle.jl_srcmap.proofs.read.read_origin.Goals as goal

pub returns-in_err-source : goal.returns-in_err-source
returns-in_err-source c =
    let sums = c.args.sums in
    c.from_residual.ensures
    ∙ no_source sums.source sums.original_line sums.original_column sums.name c.args.text.now c.in_err-source.ensures

pub returns-in_err-line : goal.returns-in_err-line
returns-in_err-line c =
    let sums = c.args.sums in
    c.from_residual-in_err-line.ensures
    ∙ no_line sums.source sums.original_line sums.original_column sums.name c.in_ok-source.source c.args.text.now
    c.in_ok-source.past_source.now c.in_ok-source.ensures c.in_err-line.ensures

pub returns-in_err-column : goal.returns-in_err-column
returns-in_err-column c =
    let sums = c.args.sums in
    c.from_residual-in_err-column.ensures
    ∙ no_column sums.source sums.original_line sums.original_column sums.name c.in_ok-source.source c.in_ok-line.line
    c.args.text.now c.in_ok-source.past_source.now c.in_ok-line.past_line.now c.in_ok-source.ensures
    c.in_ok-line.ensures c.in_err-column.ensures

pub returns-in_err-name : goal.returns-in_err-name
returns-in_err-name c =
    let sums = c.args.sums in
    c.from_residual-in_err-name.ensures
    ∙ no_end sums.source sums.original_line sums.original_column sums.name c.in_ok-source.source c.in_ok-line.line
    c.in_ok-column.column c.args.text.now c.in_ok-source.past_source.now c.in_ok-line.past_line.now
    c.in_ok-column.past_column.now c.in_ok-source.ensures c.in_ok-line.ensures c.in_ok-column.ensures
    c.in_err-name.ensures

pub returns : goal.returns
returns c =
    let sums = c.args.sums in
    whole_origin sums.source sums.original_line sums.original_column sums.name c.in_ok-source.source c.in_ok-line.line
    c.in_ok-column.column c.in_ok-name.name c.args.text.now c.in_ok-source.past_source.now c.in_ok-line.past_line.now
    c.in_ok-column.past_column.now c.in_ok-source.ensures c.in_ok-line.ensures c.in_ok-column.ensures
    c.in_ok-name.ensures
