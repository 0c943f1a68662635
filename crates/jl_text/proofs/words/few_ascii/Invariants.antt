use Rattle.std.proofs.Common.{◌≡◌, length, take}
use Rattle.jl_text.proofs.words.few_ascii.Given as goal

abbrev pub invariant-loop-at : goal.invariant-loop-at
invariant-loop-at l = (take l.at l.units ≡ take l.at l.bytes) × (length l.units ≡ 11)
