use Rattle.std.proofs.Common.{◌≡◌, ◌++◌, take}
use Rattle.jl_lib_misc.proofs.printing.append_line.Given as goal

abbrev pub invariant-loop-byte : goal.invariant-loop-byte
invariant-loop-byte l = l.output ≡ l.fn.output ++ take l.byte-index l.line
