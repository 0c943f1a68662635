use Rattle.std.proofs.Common.{◌≡◌, length}
use Rattle.jl_report.specs.Off.{after}
use Rattle.jl_report.proofs.off_comments.text_after.Given as goal

abbrev pub invariant-loop-bytes : goal.invariant-loop-bytes
invariant-loop-bytes l = after l.bytes l.rest ≡ after l.word l.text

abbrev pub decreases-loop-bytes : goal.decreases-loop-bytes
decreases-loop-bytes l = length l.bytes
