use Rattle.std.proofs.Common.{◌≡◌, All, take}
use Rattle.jl_record.specs.Bounded.{Appends}
use Rattle.jl_record.specs.Facts.{IsSeen, seen_marks}
use Rattle.jl_record.specs.Storing.{HasItsClass}
use Rattle.jl_record.proofs.written.write_values.Given as goal

abbrev pub invariant-loop-value : goal.invariant-loop-value
invariant-loop-value l =
    (l.text.limit ≡ l.initial.text.limit)
    × Appends l.initial.text l.text (seen_marks (take l.value-index l.values))
    × All (λ s. HasItsClass s → IsSeen s) (take l.value-index l.values)
