use Rattle.std.proofs.Common.{◌≡◌, ◌==◌, length}
use Rattle.std.specs.List.{slice_split}
use Rattle.jl_report.specs.Off.{rules_with, rules_in}
use Rattle.jl_report.proofs.Switching.{with_rules}
use Rattle.jl_report.proofs.off_comments.rules_in.Given as goal

abbrev pub invariant-loop-name : goal.invariant-loop-name
invariant-loop-name l =
    with_rules l.rules.items (rules_with (slice_split (λ u. u == 44) l.rest)) ≡ rules_in l.text

abbrev pub decreases-loop-name : goal.decreases-loop-name
decreases-loop-name l = length l.rest
