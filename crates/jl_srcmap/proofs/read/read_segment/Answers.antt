use Rattle.std.proofs.Common.{◌≡◌, ◌<◌, ◌∷◌, [], ◌∙◌, ap, arith, length, option_map}
use Rattle.std.proofs.lemmas.Bool.Decides.{nat_tests}
use Rattle.jl_srcmap.specs.inner.Reading.{with_origin}
use Rattle.jl_srcmap.proofs.Turns.{alone, no_segment, with_place}
use Rattle.jl_srcmap.proofs.read.read_segment.Goals as goal

pub returns-in_err-column : goal.returns-in_err-column
returns-in_err-column c =
    let sums = c.args.sums in
    c.from_residual.ensures
    ∙ no_segment sums.line sums.column
    (sums.source ∷ sums.original_line ∷ sums.original_column ∷ sums.name ∷ []) c.args.piece.now (omega arith)
    c.in_err-column.ensures

pub returns-then-is_empty : goal.returns-then-is_empty
returns-then-is_empty c =
    let sums = c.args.sums in
    let empty : length c.in_ok-column.rest.now ≡ 0 = grind (arith, nat_tests) in
    alone sums.line sums.column c.in_ok-column.column
    (sums.source ∷ sums.original_line ∷ sums.original_column ∷ sums.name ∷ []) c.args.piece.now
    c.in_ok-column.rest.now (omega arith) c.in_ok-column.ensures empty

pub returns-in_err-origin : goal.returns-in_err-origin
returns-in_err-origin c =
    let sums = c.args.sums in
    let some : 0 < length c.in_ok-column.rest.now = grind (arith, nat_tests) in
    c.from_residual-in_err-origin.ensures
    ∙ ap (option_map (with_origin sums.line c.in_ok-column.column)) c.in_err-origin.ensures
    ∙ with_place sums.line sums.column sums.source c.in_ok-column.column
    (sums.original_line ∷ sums.original_column ∷ sums.name ∷ []) c.args.piece.now c.in_ok-column.rest.now
    (omega arith) c.in_ok-column.ensures some

pub returns : goal.returns
returns c =
    let sums = c.args.sums in
    let some : 0 < length c.in_ok-column.rest.now = grind (arith, nat_tests) in
    ap (option_map (with_origin sums.line c.in_ok-column.column)) c.in_ok-origin.ensures
    ∙ with_place sums.line sums.column sums.source c.in_ok-column.column
    (sums.original_line ∷ sums.original_column ∷ sums.name ∷ []) c.args.piece.now c.in_ok-column.rest.now
    (omega arith) c.in_ok-column.ensures some
