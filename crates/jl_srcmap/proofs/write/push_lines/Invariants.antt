use Rattle.std.proofs.Common.{◌≡◌, ◌++◌, replicate}
use Rattle.jl_srcmap.specs.Mappings.{semicolon}
use Rattle.jl_srcmap.proofs.write.push_lines.Given as goal

abbrev pub invariant-loop : goal.invariant-loop
invariant-loop l = l.text.items ≡ l.fn.text.items ++ replicate l.counter semicolon
