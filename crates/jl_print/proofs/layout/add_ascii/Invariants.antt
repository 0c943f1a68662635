use Rattle.std.proofs.Common.{◌≡◌, ◌++◌, take}
use Rattle.jl_print.proofs.layout.add_ascii.Given as goal

abbrev pub invariant-loop-byte : goal.invariant-loop-byte
invariant-loop-byte l = l.text.items ≡ l.initial.text.items ++ take l.byte-index l.characters
