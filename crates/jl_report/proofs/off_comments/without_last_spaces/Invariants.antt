use Rattle.std.proofs.Common.{◌≡◌, ◌≤◌, length, take}
use Rattle.jl_report.specs.Off.{without_last_spaces}
use Rattle.jl_report.proofs.off_comments.without_last_spaces.Given as goal

abbrev pub invariant-loop-end : goal.invariant-loop-end
invariant-loop-end l = record {
  within : l.end ≤ length l.text;
  same : without_last_spaces (take l.end l.text) ≡ without_last_spaces l.text;
}

abbrev pub decreases-loop-end : goal.decreases-loop-end
decreases-loop-end l = l.end
