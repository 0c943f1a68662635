use Rattle.std.proofs.Common.{◌≡◌, drop}
use Rattle.std.specs.List.{flat_map}
use Rattle.jl_report.specs.Off.{with_pairs, pairs_of, off_by}
use Rattle.jl_report.proofs.off_comments.off.Given as goal

abbrev pub invariant-loop-comment : goal.invariant-loop-comment
invariant-loop-comment l =
    with_pairs l.pairs.keys (flat_map (pairs_of l.units) (drop l.comment-index l.comments)) ≡ off_by l.units l.comments
