use Rattle.std.proofs.Common.{◌≡◌, ◌+◌, ◌<◌, arith, length}
use Rattle.std.specs.Prelude.{slice_range}
use Rattle.std.proofs.lemmas.Bool.Decides.{nat_tests}
use Rattle.jl_srcmap.specs.Mappings.{comma, pieces_of_group}
use Rattle.jl_srcmap.specs.inner.Reading.{IsStopped, parts_from, progress, read_pieces}
use Rattle.jl_srcmap.proofs.Loops.{group_begins, group_empty, group_ends, group_stops, group_turn, handed_on}
use Rattle.jl_srcmap.proofs.read.Reader.read_group.Goals as goal

pub returns-then-is_empty-clause-ok : goal.returns-then-is_empty-clause-ok
returns-then-is_empty-clause-ok c =
    let empty : length c.args.group.now ≡ 0 = grind (arith, nat_tests) in
    group_empty (progress c.args.self.now) c.args.line c.args.at c.args.group.now empty

pub loop-from-init : goal.loop-from-init
loop-from-init c =
    let some : 0 < length c.args.group.now = grind (arith, nat_tests) in
    group_begins (progress c.args.self.now) c.args.line c.args.at c.args.group.now some

pub returns-in_err-read_piece-clause-err : goal.returns-in_err-read_piece-clause-err
returns-in_err-read_piece-clause-err c =
    let group = c.args.group.now in
    let whole = read_pieces (progress c.args.self.now) (pieces_of_group c.args.line c.args.at group) in
    let from = c.loop-from.from in
    let end = c.end_of_part-end.result in
    handed_on (λ e. IsStopped e whole) c.from_residual.result _ c.from_residual.ensures
    (group_stops _ whole (progress c.loop-from.self) c.args.line (c.args.at + from) (slice_range group from end)
    (parts_from comma c.args.at group from) (parts_from comma c.args.at group (end + 1)) c.loop-from.invariant
    (c.end_of_part-end.ensures.part c.args.at) c.in_err-read_piece.ensures.err)

pub loop-from-preserved : goal.loop-from-preserved
loop-from-preserved c =
    let group = c.args.group.now in
    let whole = read_pieces (progress c.args.self.now) (pieces_of_group c.args.line c.args.at group) in
    let from = c.loop-from.from in
    let end = c.end_of_part-end.result in
    group_turn whole (progress c.loop-from.self) (progress c.read_piece.new.self) c.args.line (c.args.at + from)
    (slice_range group from end) (parts_from comma c.args.at group from) (parts_from comma c.args.at group (end + 1))
    c.loop-from.invariant (c.end_of_part-end.ensures.part c.args.at) c.in_ok-read_piece.ensures.ok

pub returns-clause-ok : goal.returns-clause-ok
returns-clause-ok c =
    let group = c.args.group.now in
    let whole = read_pieces (progress c.args.self.now) (pieces_of_group c.args.line c.args.at group) in
    group_ends whole (progress c.loop-from.self) c.args.line c.args.at c.loop-from.from group c.loop-from.invariant
    (omega arith)
