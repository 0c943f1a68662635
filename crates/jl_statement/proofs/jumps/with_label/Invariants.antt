use Rattle.std.proofs.Common.{◌≡◌, ◌++◌, ◌∷◌, drop}
use Rattle.jl_state.specs.Turns.{labels_seen}
use Rattle.jl_statement.proofs.jumps.with_label.Given as goal

abbrev pub invariant-loop-other : goal.invariant-loop-other
invariant-loop-other l =
    labels_seen l.all ++ labels_seen (drop l.other-index l.fn.labels) ≡ l.label ∷ labels_seen l.fn.labels
