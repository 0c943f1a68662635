use Rattle.std.proofs.Common.{◌≡◌}
use Rattle.jl_text.specs.Encoding.{encode_utf16_all}
use Rattle.jl_text.proofs.encoding.from_utf8.Given as goal

abbrev pub invariant-loop-c : goal.invariant-loop-c
invariant-loop-c l = l.units.items ≡ encode_utf16_all l.yielded
