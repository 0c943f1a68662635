use Rattle.std.proofs.Common.{◌≡◌, ◌<◌, ◌++◌}
use Rattle.jl_srcmap.specs.Numbers.{digits_of}
use Rattle.jl_srcmap.proofs.quantity.push_quantity.Given as goal

abbrev pub invariant-loop-left : goal.invariant-loop-left
invariant-loop-left l = record {
  fits : l.left < 34359738368;
  written : l.text.items ++ digits_of l.left ≡ l.fn.text.items ++ digits_of l.fn.quantity;
}

abbrev pub decreases-loop-left : goal.decreases-loop-left
decreases-loop-left l = l.left
