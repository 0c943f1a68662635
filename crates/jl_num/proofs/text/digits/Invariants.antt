use Rattle.std.proofs.Common.{◌≡◌, ◌≤◌, ◌++◌, reverse, unsigned_abs}
use Rattle.jl_num.specs.Digits.{digits_of}
use Rattle.jl_num.proofs.text.digits.Given as goal

abbrev pub invariant-loop-rest : goal.invariant-loop-rest
invariant-loop-rest l = record {
  base : 2 ≤ l.radix;
  same_radix : l.radix ≡ l.fn.radix;
  written : digits_of l.radix (unsigned_abs l.n) ≡ digits_of l.radix l.rest ++ reverse l.text.items;
}

abbrev pub decreases-loop-rest : goal.decreases-loop-rest
decreases-loop-rest l = l.rest
