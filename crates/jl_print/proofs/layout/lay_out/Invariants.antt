use Rattle.std.proofs.Common.{◌≡◌, ◌++◌, drop, map}
use Rattle.jl_print.specs.inner.Kinds.{kind_of}
use Rattle.jl_print.specs.Layout.{layout_of}
use Rattle.jl_print.proofs.layout.lay_out.Given as goal

abbrev pub invariant-loop-at : goal.invariant-loop-at
invariant-loop-at l =
    l.text.items ++ layout_of (map kind_of (drop l.at l.pieces)) ≡ layout_of (map kind_of l.pieces)
