use Rattle.std.proofs.Common.{◌≡◌, ◌≤◌, ℕ, List, drop, length}
use Rattle.std.specs.BTreeMap.{get}
use Rattle.std.specs.Cmp.Lexicographic.{slice_cmp}
use Rattle.std.specs.List.{position_from}
use Rattle.std.specs.Ordering.{nat_cmp}
use Rattle.jl_named.specs.Named.{has_name}
use Rattle.jl_named.proofs.named_list.places_of.Given as goal

abbrev pub invariant-loop-at : goal.invariant-loop-at
invariant-loop-at g l =
    (l.at ≤ length l.entries)
    × ((q : List ℕ) → get (slice_cmp nat_cmp) l.places q ≡ position_from (has_name q) l.at (drop l.at l.entries))

abbrev pub decreases-loop-at : goal.decreases-loop-at
decreases-loop-at g l = l.at
