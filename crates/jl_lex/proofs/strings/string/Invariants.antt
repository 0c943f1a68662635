use Rattle.std.proofs.Common.{◌≤◌, ◌-◌, drop, length}
use Rattle.jl_token.specs.inner.Scanner.{character, many, string_end}
use Rattle.jl_lex.proofs.StringLoops.{StringSoFar}
use Rattle.jl_lex.proofs.strings.string.Given as goal

abbrev pub invariant-loop-next : goal.invariant-loop-next
invariant-loop-next l = record {
  string : StringSoFar l.mark l.text.items l.plain (drop l.end l.units)
      (string_end l.mark (many (character l.mark) (drop l.at l.units)));
  later : l.at ≤ l.end;
  within : l.end ≤ length l.units;
}

abbrev pub decreases-loop-next : goal.decreases-loop-next
decreases-loop-next l = length l.initial.units - l.end
